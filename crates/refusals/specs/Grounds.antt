-- The refusal lists cut into the parts that the code tests one after the other.
use Rattle.std.specs.Prelude.{ℕ, zero, suc, List, [], ◌∷◌, not, cond, ltb}
use Rattle.store.specs.Trees.{Store}
use Rattle.store.specs.Head.{head_fits}
use Rattle.store.specs.Refusals.{Ground, ◌gives◌}

-- The earlier of two refusals; 0 is none
abbrev pub earlier : ℕ → ℕ → ℕ
earlier zero next = next
earlier (suc n) next = suc n

-- Every call but opening, after its arguments
abbrev pub head_grounds : Store → List Ground
head_grounds s = not (head_fits s) gives 20 ∷ []

-- The lower of two refusals; 0 is none
abbrev pub lower_of : ℕ → ℕ → ℕ
lower_of zero other = other
lower_of (suc n) zero = suc n
lower_of (suc n) (suc m) = cond (ltb m n) (suc m) (suc n)
