-- What points add up to, and points of one shape: as the theory of a grown tree speaks of them.
use Rattle.std.specs.Prelude.{ℕ, ◌≡◌, List, [], ◌∷◌}
use Rattle.words.specs.declared.value.Value.{Value}
use Rattle.tree.specs.TrueValue.{total_where}
use Rattle.tree.specs.RowSteps.{Point}
use Rattle.tree.specs.PointSums.{dominated}

abbrev pub point_value : Point → Value
point_value p = p.value

-- Their values, added from zero
abbrev pub sum_of_points : ℕ → ℕ → List Point → Value
sum_of_points t k points = total_where point_value (dominated t k) points

-- Points of the same ticks and keys, whatever they are worth
abbrev pub SameShape : List Point → List Point → Type 0
SameShape [] [] = Unit {0}
SameShape [] (q ∷ others) = ⊥
SameShape (p ∷ points) [] = ⊥
SameShape (p ∷ points) (q ∷ others) = (p.tick ≡ q.tick) × (p.key ≡ q.key) × SameShape points others
