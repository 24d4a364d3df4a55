-- "A pass is a point of the starts tree at its start and, once ended, a point of the ends tree at its end. These are the points a tree took." Of the tree of time it is both
-- (document 02, Paper 4).
use Rattle.std.specs.Prelude.{ℕ, ◌%◌, ◌^◌, List, [], ◌∷◌, ◌++◌}
use Rattle.tree.specs.RowSteps.{Point}
use Rattle.tree.specs.PointSums.{dominated}
use Rattle.store.specs.declared.types.TreeName.{TreeName}
use Rattle.store.specs.declared.types.TreeName.TheVariants.{Starts, Ends, Time}
use Rattle.store.specs.Writing.{point_of, time_at_start, time_at_end}
use Rattle.store.specs.Passes.{End, still_open, ended_at, Pass, sum_where}

abbrev pub end_points_of : Pass → End → List Point
end_points_of p still_open = []
end_points_of p (ended_at e) = point_of e p.key p.weight ∷ []

abbrev pub end_time_of : Pass → End → List Point
end_time_of p still_open = []
end_time_of p (ended_at e) = time_at_end e p.key p.weight ∷ []

abbrev pub points_of_pass : TreeName → Pass → List Point
points_of_pass Starts p = point_of p.start p.key p.weight ∷ []
points_of_pass Ends p = end_points_of p p.end
points_of_pass Time p = time_at_start p.start p.key p.weight ∷ end_time_of p p.end

unfoldable pub points_of : TreeName → List Pass → List Point
points_of name [] = []
points_of name (p ∷ ps) = points_of_pass name p ++ points_of name ps

-- What a lookup at (t, k) adds: the "points with tick ≤ t and key ≤ k"
abbrev pub lookup_count : (t k : ℕ) → List Point → ℕ
lookup_count t k points = sum_where (λ (p : Point). p.value.count) (dominated t k) points

abbrev pub lookup_sum : (t k : ℕ) → List Point → ℕ
lookup_sum t k points = sum_where (λ (p : Point). p.value.sum) (dominated t k) points

-- What the book answers of such a sum. The tree of time's "lookup answers the sums of what these carry, modulo 2^64" (Paper 4); those of the other trees are exact
abbrev pub answered_by : TreeName → ℕ → ℕ
answered_by Starts sum = sum
answered_by Ends sum = sum
answered_by Time sum = sum % 2 ^ 64
