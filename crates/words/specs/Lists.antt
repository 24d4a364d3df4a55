-- What is said of all items of a list.
use Rattle.std.specs.Prelude.{List, [], ◌∷◌}

-- Each item has the property
abbrev pub All : {A : Type 0} → (A → Type 0) → List A → Type 0
All P [] = Unit {0}
All P (x ∷ xs) = P x × All P xs
