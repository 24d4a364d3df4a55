-- A lookup in a grown tree, at any tick and key: it meets no spoiled page and adds exactly the points up to that tick and key.
use Prim.Native.Nat.{ℕ, ◌+◌, ◌%◌, ◌^◌, ◌<◌}
use native.Mathlib.Omega.{arith}
use mathlib.Core.Path.{◌≡◌, sym, ap, ◌∙◌}
use mathlib.Core.Bool.{Bool, cond, and-eq-true_iff}
use mathlib.Core.List.{List}
use borrow.Author.Tests.{le-leb}
use Rattle.words.specs.Words.{key_limit, open_end}
use Rattle.words.specs.declared.value.Value.{Value}
use Rattle.words.proofs.Measure.{Measure, count_of, count_measure, by_measures}
use Rattle.tree.specs.Spoiled.{spoiled}
use Rattle.tree.proofs.OrderTotals.{total_stored}
use Rattle.tree.specs.Tree.{Tree, level_of, root_at, top_level}
use Rattle.tree.specs.RowSteps.{Point}
use Rattle.tree.specs.Lookup.{found, lookup_from, lookup_root, lookup}
use Rattle.tree.specs.Grown.{last_tick}
use Rattle.tree.specs.PointSums.{dominated}
use Rattle.tree.specs.PointTotals.{point_value, sum_of_points}
use Rattle.tree.specs.Taking.{InUse}
use Rattle.tree.proofs.Answered.{same_found}
use Rattle.tree.proofs.ModelPages.{◌≈◌}
use Rattle.tree.proofs.GrownStates.{Version, holds_used}
use Rattle.tree.proofs.View.{view_table}
use Rattle.tree.proofs.TreeViews.{page_of, WordsKept}
use Rattle.tree.proofs.Reading.{Reads, reads}
use Rattle.tree.proofs.HeldPaths.{found_root}
use Rattle.tree.proofs.Growth.{numbers, numbers_sum, Tells, TreeKept}

-- Read by one measure
module _ (measure : Value → ℕ) (m : Measure measure) (tree : Tree) (points : List Point)
    (words : WordsKept tree (last_tick points)) (tells : Tells measure tree points) (t k : ℕ) (tick : t < open_end) (key : k < key_limit) where
  abbrev page : ℕ
  page = page_of (root_at tree t)

  abbrev level : ℕ
  level = level_of tree.table page

  version : Version (view_table measure tree.table) (InUse tree.used) t (λ q. numbers measure t q points) page
  version = tells.versions t tick

  read : Reads measure tree t k level 0 key_limit page version.tree
  read = reads measure m tree words.small t k tick level 0 key_limit page version.tree (omega arith) key version.held

  read_lookup : lookup tree t k ≡ found read.value (level + 1)
  unfolding lookup
  read_lookup =
      ap (lookup_root tree t k) (found_root tree words t)
      ∙ ap (λ (b : Bool). cond b (lookup_from tree t k level 0 key_limit page) spoiled)
      ((and-eq-true_iff _ _).1 (is_in_use, le-leb level top_level (tells.levels t tick)))
      ∙ read.is
    where
      is_in_use : InUse tree.used page
      is_in_use = holds_used level (view_table measure tree.table) (InUse tree.used) t 0 key_limit page version.tree version.held

  read_sum : measure read.value ≈ measure (sum_of_points t k points)
  read_sum = read.sum ∙ version.adds k key ∙ sym (rest (numbers_sum measure m t k points))
    where
      rest : measure (sum_of_points t k points) ≡ numbers measure t k points % 2 ^ 64
          → measure (sum_of_points t k points) ≈ numbers measure t k points
      rest e = omega arith

-- Read by every measure
pub lookup_sum_lem : (tree : Tree) (points : List Point) → TreeKept tree points → (t k : ℕ) → t < open_end → k < key_limit
    → lookup tree t k ≡ found (sum_of_points t k points) (level_of tree.table (page_of (root_at tree t)) + 1)
lookup_sum_lem tree points kept t k tick key =
    total count_of count_measure
    ∙ ap (λ (v : Value). found v (level_of tree.table (page_of (root_at tree t)) + 1))
    (by_measures (by count_of count_measure).value (sum_of_points t k points) (by count_of count_measure).stored
    (total_stored point_value (dominated t k) points) alike)
  where
    by : (measure : Value → ℕ) (m : Measure measure) → Reads measure tree t k (level_of tree.table (page_of (root_at tree t))) 0 key_limit
        (page_of (root_at tree t)) (version measure m tree points kept.words (kept.tells measure m) t k tick key).tree
    by measure m = read measure m tree points kept.words (kept.tells measure m) t k tick key

    total : (measure : Value → ℕ) (m : Measure measure)
        → lookup tree t k ≡ found (by measure m).value (level_of tree.table (page_of (root_at tree t)) + 1)
    total measure m = read_lookup measure m tree points kept.words (kept.tells measure m) t k tick key

    alike : (measure : Value → ℕ) (m : Measure measure)
        → measure (by count_of count_measure).value ≈ measure (sum_of_points t k points)
    alike measure m =
        ap (λ (v : Value). measure v % 2 ^ 64) (same_found (sym (total count_of count_measure) ∙ total measure m)).0
        ∙ read_sum measure m tree points kept.words (kept.tells measure m) t k tick key
