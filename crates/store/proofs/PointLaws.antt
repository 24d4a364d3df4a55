-- The points that the trees took, as passes start and end: one law for all trees.
use Prim.Native.Nat.{ℕ, zero, suc, ◌+◌, ◌≤◌, ◌<◌}
use native.Mathlib.Omega.{arith}
use mathlib.Core.Path.{◌≡◌}
use mathlib.Core.Bool.{Bool}
use mathlib.Core.List.{List, [], ◌∷◌, ◌++◌}
use lib.ListN.{length, get_or, length-append}
use Rattle.words.specs.Lists.{All}
use Rattle.tree.specs.RowSteps.{Point}
use Rattle.tree.proofs.Lists.{all_append}
use Rattle.store.specs.declared.types.TreeName.{TreeName}
use Rattle.store.specs.declared.types.TreeName.TheVariants.{Starts, Ends, Time}
use Rattle.store.specs.Head.{weight_limit}
use Rattle.store.specs.Passes.{End, still_open, ended_at, Pass, sum_where}
use Rattle.store.specs.Points.{end_points_of, points_of_pass, points_of}
use Rattle.store.specs.Book.{end_pass_at, never_started}
use Rattle.store.proofs.SumLaws.{sum_where_append}

-- A pass with its end
abbrev pub ended : ℕ → Pass → Pass
ended tick p = record { key = p.key; weight = p.weight; start = p.start; end = ended_at tick }

module _ (name : TreeName) (f : Point → ℕ) (test : Point → Bool) where
  abbrev pub added : List Pass → ℕ
  added passes = sum_where f test (points_of name passes)

  abbrev pub added_by : Pass → ℕ
  added_by p = sum_where f test (points_of_pass name p)

  -- A pass that starts
  pub points_more : (passes : List Pass) (p : Pass) → added (passes ++ (p ∷ [])) ≡ added_by p + added passes
  unfolding points_of sum_where
  points_more [] p = sum_where_append f test (points_of_pass name p) []
  points_more (q ∷ passes) p =
      omega (
        arith,
        sum_where_append f test (points_of_pass name q) (points_of name (passes ++ (p ∷ []))),
        points_more passes p,
        sum_where_append f test (points_of_pass name q) (points_of name passes),
      )

  -- A pass that ends
  pub points_ended : (number tick : ℕ) (passes : List Pass) → number < length passes
      → added (end_pass_at number tick passes) + added_by (get_or passes number never_started)
      ≡ added_by (ended tick (get_or passes number never_started)) + added passes
  unfolding points_of end_pass_at
  points_ended number tick [] h = absurd (omega arith)
  points_ended zero tick (p ∷ passes) h =
      omega (
        arith,
        sum_where_append f test (points_of_pass name (ended tick p)) (points_of name passes),
        sum_where_append f test (points_of_pass name p) (points_of name passes),
      )
  points_ended (suc number) tick (p ∷ passes) h =
      omega (
        arith,
        sum_where_append f test (points_of_pass name p) (points_of name (end_pass_at number tick passes)),
        points_ended number tick passes (omega arith),
        sum_where_append f test (points_of_pass name p) (points_of name passes),
      )

-- A point counts 1 and weighs at most 10,000
pub record Light (p : Point) : Type 0 where
  pub count : p.value.count ≤ 1
  pub sum : p.value.sum ≤ weight_limit

-- The trees whose points carry a count and a weight
abbrev pub CountsPasses : TreeName → Type 0
CountsPasses Starts = Unit {0}
CountsPasses Ends = Unit {0}
CountsPasses Time = ⊥

-- A pass is at most one point of such a tree, and a light one
abbrev AtMostOne : List Point → Type 0
AtMostOne points = All Light points × (length points ≤ 1)

end_point : (p : Pass) (e : End) → p.weight ≤ weight_limit → AtMostOne (end_points_of p e)
end_point p still_open w = (tt, omega arith)
end_point p (ended_at e) w = ((record { count = omega arith; sum = w }, tt), omega arith)

pass_point : (name : TreeName) → CountsPasses name → (p : Pass) → p.weight ≤ weight_limit → AtMostOne (points_of_pass name p)
pass_point Starts counts p w = ((record { count = omega arith; sum = w }, tt), omega arith)
pass_point Ends counts p w = end_point p p.end w
pass_point Time counts p w = absurd counts

module _ (name : TreeName) (counts : CountsPasses name) where
  pub points_light : (passes : List Pass) → All (λ (p : Pass). p.weight ≤ weight_limit) passes → All Light (points_of name passes)
  unfolding points_of
  points_light [] h = tt
  points_light (p ∷ passes) h =
      all_append Light (points_of_pass name p) (points_of name passes) (pass_point name counts p h.0).0 (points_light passes h.1)

  pub points_few : (passes : List Pass) → All (λ (p : Pass). p.weight ≤ weight_limit) passes → length (points_of name passes) ≤ length passes
  unfolding points_of
  points_few [] h = omega arith
  points_few (p ∷ passes) h =
      omega (arith, length-append (points_of_pass name p) (points_of name passes), (pass_point name counts p h.0).1, points_few passes h.1)
