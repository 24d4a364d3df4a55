-- A lookup in a tree that agrees with the book gives the book's numbers: of the trees of starts and of ends exactly, since they are far below 2^64.
use Prim.Native.Nat.{ℕ, ◌*◌, ◌%◌, ◌^◌, ◌≤◌, ◌<◌}
use native.Mathlib.Omega.{arith}
use mathlib.Core.Path.{◌≡◌, refl, ap, sym, subst, ◌∙◌}
use mathlib.Core.Bool.{Bool}
use mathlib.Core.List.{List}
use lib.ListN.{length}
use Rattle.words.specs.Lists.{All}
use Rattle.words.specs.declared.value.Value.{Value}
use Rattle.words.proofs.Measure.{Measure, count_of, sum_of, count_measure, sum_measure}
use Rattle.tree.specs.Tree.{Tree}
use Rattle.tree.specs.RowSteps.{Point}
use Rattle.tree.specs.PointSums.{dominated}
use Rattle.tree.specs.PointTotals.{point_value, sum_of_points}
use Rattle.tree.specs.Lookup.{found, lookup}
use Rattle.tree.specs.Path.{path}
use Rattle.tree.specs.Grown.{grow}
use Rattle.tree.proofs.Main.{lookup_adds}
use Rattle.tree.proofs.Lists.{all_map}
use Rattle.store.specs.declared.types.TreeName.{TreeName}
use Rattle.store.specs.declared.types.TreeName.TheVariants.{Starts, Ends, Time}
use Rattle.store.specs.Trees.{Store, tree_in}
use Rattle.store.specs.Head.{pass_limit, weight_limit}
use Rattle.store.specs.Reading.{PointLookup, found_in}
use Rattle.store.specs.Passes.{Pass, sum_where}
use Rattle.store.specs.Points.{points_of, lookup_count, lookup_sum, answered_by}
use Rattle.store.specs.Book.{Book}
use Rattle.store.proofs.SumLaws.{sum_where_most, total_is_sum}
use Rattle.store.proofs.PointLaws.{Light, CountsPasses, points_light, points_few}
use Rattle.store.proofs.BookPasses.{PassKept}
use Rattle.store.proofs.ArgumentFacts.{InBounds}
use Rattle.store.proofs.Agreement.{TreeTook, Agrees}

-- No sum of weights is higher: 1,000,000 passes of weight 10,000
abbrev pub weight_total : ℕ
weight_total = pass_limit * weight_limit

module _ (points : List Point) (light : All Light points) (few : length points ≤ pass_limit) where
  pub count_most : (test : Point → Bool) → sum_where (λ (p : Point). p.value.count) test points ≤ pass_limit
  count_most test =
      omega (
        arith,
        sum_where_most (λ (p : Point). p.value.count) test 1 points
            (all_map Light (λ (p : Point). p.value.count ≤ 1) (λ p l. l.count) points light),
      )

  pub sum_most : (test : Point → Bool) → sum_where (λ (p : Point). p.value.sum) test points ≤ weight_total
  sum_most test =
      omega (
        arith,
        sum_where_most (λ (p : Point). p.value.sum) test weight_limit points
            (all_map Light (λ (p : Point). p.value.sum ≤ weight_limit) (λ p l. l.sum) points light),
      )

-- Whatever points a tree took, its lookup gives their sums modulo 2^64
sums_found : (points : List Point) (tree : Tree) (last : ℕ) → TreeTook tree last points → (t k : ℕ) → InBounds t k
    → lookup tree t k ≡ found (record { count = lookup_count t k points % 2 ^ 64; sum = lookup_sum t k points % 2 ^ 64 }) (length (path tree t k))
sums_found points tree last took t k bounds =
    subst
    (λ (x : Tree). lookup x t k ≡ found (record { count = lookup_count t k points % 2 ^ 64; sum = lookup_sum t k points % 2 ^ 64 }) (length (path x t k)))
    (sym took.is)
    (lookup_adds took.table took.roots took.entered took.admitted t k bounds.tick bounds.key
    ∙ ap (λ (v : Value). found v (length (path (grow took.table took.roots took.entered) t k))) value)
  where
    number : (measure : Value → ℕ) → Measure measure
        → measure (sum_of_points t k took.entered) ≡ sum_where (λ (p : Point). measure p.value) (dominated t k) points % 2 ^ 64
    number measure m =
        total_is_sum measure m point_value (dominated t k) took.entered
        ∙ ap (λ (n : ℕ). n % 2 ^ 64) (took.same (λ (p : Point). measure p.value) (dominated t k))

    value : sum_of_points t k took.entered ≡ record { count = lookup_count t k points % 2 ^ 64; sum = lookup_sum t k points % 2 ^ 64 }
    value =
        let c = number count_of count_measure in
        let s = number sum_of sum_measure in
        λ i. record { count = c i; sum = s i }

-- In a store that agrees with a book, the lookup of each tree gives the totals of the points that the book says the tree took
module _ (s : Store) (b : Book) (a : Agrees s b) where
  weights : All (λ (p : Pass). p.weight ≤ weight_limit) b.passes
  weights = all_map (PassKept b.last) (λ (p : Pass). p.weight ≤ weight_limit) (λ p k. k.weight) b.passes a.kept.passes

  pub tree_light : (name : TreeName) → CountsPasses name → All Light (points_of name b.passes)
  tree_light name counts = points_light name counts b.passes weights

  pub tree_few : (name : TreeName) → CountsPasses name → length (points_of name b.passes) ≤ pass_limit
  tree_few name counts = omega (arith, points_few name counts b.passes weights, a.kept.few)

  abbrev pub book_value : PointLookup → Value
  book_value l =
      record {
        count = answered_by l.tree (lookup_count l.tick l.key (points_of l.tree b.passes));
        sum = answered_by l.tree (lookup_sum l.tick l.key (points_of l.tree b.passes));
      }

  abbrev pub path_length : PointLookup → ℕ
  path_length l = length (path (tree_in s l.tree) l.tick l.key)

  -- Sums of counts and of weights are far below 2^64
  small_sums : (name : TreeName) → CountsPasses name → (t k : ℕ)
      → ◌≡◌ {A = Value}
      (record { count = lookup_count t k (points_of name b.passes) % 2 ^ 64; sum = lookup_sum t k (points_of name b.passes) % 2 ^ 64 })
      (record { count = lookup_count t k (points_of name b.passes); sum = lookup_sum t k (points_of name b.passes) })
  small_sums name counts t k =
      let c : lookup_count t k (points_of name b.passes) % 2 ^ 64 ≡ lookup_count t k (points_of name b.passes) =
      small _ (omega (arith, count_most (points_of name b.passes) (tree_light name counts) (tree_few name counts) (dominated t k))) in
      let s : lookup_sum t k (points_of name b.passes) % 2 ^ 64 ≡ lookup_sum t k (points_of name b.passes) =
      small _ (omega (arith, sum_most (points_of name b.passes) (tree_light name counts) (tree_few name counts) (dominated t k))) in
      λ i. record { count = c i; sum = s i }
    where
      small : (n : ℕ) → n < 2 ^ 64 → n % 2 ^ 64 ≡ n
      small n h = omega arith

  answered_value : (name : TreeName) (t k : ℕ)
      → record { count = lookup_count t k (points_of name b.passes) % 2 ^ 64; sum = lookup_sum t k (points_of name b.passes) % 2 ^ 64 }
      ≡ book_value (record { tree = name; tick = t; key = k })
  answered_value Starts t k = small_sums Starts tt t k
  answered_value Ends t k = small_sums Ends tt t k
  answered_value Time t k = refl

  pub found_as_book : (l : PointLookup) → InBounds l.tick l.key → found_in s l ≡ found (book_value l) (path_length l)
  found_as_book l bounds =
      sums_found (points_of l.tree b.passes) (tree_in s l.tree) b.last (a.trees l.tree) l.tick l.key bounds
      ∙ ap (λ (v : Value). found v (path_length l)) (answered_value l.tree l.tick l.key)
