-- The height of a grown tree and the pages that it uses, against the points that it took.
use Prim.Native.Nat.{ℕ, zero, suc, ◌+◌, ◌*◌, ◌-◌, ◌/◌, ◌^◌, ◌≤◌, ◌<◌}
use native.Mathlib.Omega.{arith}
use mathlib.Core.Path.{◌≡◌, refl, sym, ap, ap₂}
use mathlib.Core.Bool.{Bool, cond, ◌||◌}
use mathlib.Core.List.{List}
use lib.ListN.{length}
use borrow.Author.Tests.{ne_eqb}
use Rattle.words.specs.Words.{open_end, key_limit}
use Rattle.words.proofs.Measure.{count_of}
use Rattle.tree.specs.Tree.{level_of, root_at, height, top_level}
use Rattle.tree.specs.Tree as ours
use Rattle.tree.specs.RowSteps.{Point}
use Rattle.tree.specs.Grown.{last_tick}
use Rattle.tree.specs.PointSums.{is_taken, how_many, different_keys}
use Rattle.tree.specs.Taking.{InUse}
use Rattle.tree.proofs.ModelTrees.{Tree, Holds}
use Rattle.tree.proofs.ModelPromise.{Full, slot_count}
use Rattle.tree.proofs.GrownStates.{Paid, low}
use Rattle.tree.proofs.LeafRows.{rows_root, rows_known, many_append, many_one}
use Rattle.tree.proofs.View.{view_table}
use Rattle.tree.proofs.RootLaws.{root_now}
use Rattle.tree.proofs.TreeViews.{page_of}
use Rattle.tree.proofs.Growth.{is_known, Known, numbers, TreeKept, counts}

pub many_same : (f g : ℕ → Bool) (from n : ℕ) → ((k : ℕ) → from ≤ k → f k ≡ g k) → how_many f from n ≡ how_many g from n
unfolding how_many
many_same f g from zero h = refl
many_same f g from (suc n) h =
    ap₂ (λ (b : Bool) (x : ℕ). cond b 1 0 + x) (h from (omega arith)) (many_same f g (suc from) n (λ k l. h k (omega arith)))

-- Zero, and the different keys above zero
known_keys : (points : List Point) → how_many (is_known points) 0 30000 ≡ 1 + different_keys points
known_keys points =
    omega (
      arith,
      many_append (is_known points) 0 1 29999,
      many_one (is_known points) 0 refl,
      many_same (is_known points) (is_taken points) 1 29999 above,
    )
  where
    above : (k : ℕ) → 1 ≤ k → is_known points k ≡ is_taken points k
    above k h = ap (λ (b : Bool). b || is_taken points k) (ne_eqb k 0 (λ e. omega arith))

module _ (tree : ours.Tree) (points : List Point) (kept : TreeKept tree points) (now : last_tick points < open_end) where
  abbrev page : ℕ
  page = page_of (root_at tree (last_tick points))

  paid : Paid (Known points) (view_table count_of tree.table) (InUse tree.used) tree.used.pages (last_tick points)
      (λ k. numbers count_of (last_tick points) k points) page (72 + 8 * length points)
  paid = (counts kept).current (last_tick points) (omega arith) now

  level_low : level_of tree.table (page_of (root_at tree (last_tick points))) ≤ top_level
  level_low =
      low (Known points) (view_table count_of tree.table) (InUse tree.used) tree.used.pages (last_tick points)
      (λ k. numbers count_of (last_tick points) k points) page
      (72 + 8 * length points) paid

  height_is : height tree ≡ level_of tree.table (page_of (root_at tree (last_tick points))) + 1
  height_is =
      ap (λ (x : ℕ). level_of tree.table x + 1)
      (sym (ap page_of (root_now tree (last_tick points) (last_tick points) kept.words.roots (omega arith))))

  pub height_low : height tree ≤ top_level + 1
  height_low = omega (arith, height_is, level_low)

  pub height_keys : 1 < height tree → 2 * 20 ^ (height tree - 1) ≤ different_keys points + 1
  height_keys high =
      ap_le (ap (λ (n : ℕ). 2 * 20 ^ n) level_is)
      (go (level_of tree.table (page_of (root_at tree (last_tick points)))) (omega (arith, height_is)) paid.tree paid.held paid.full
      paid.wide)
    where
      level_is : height tree - 1 ≡ level_of tree.table (page_of (root_at tree (last_tick points)))
      level_is = omega (arith, height_is)

      ap_le : {a b c : ℕ} → a ≡ b → b ≤ c → a ≤ c
      ap_le e h = omega arith

      go : (n : ℕ) → 0 < n → (tr : Tree n)
          → Holds n (view_table count_of tree.table) (InUse tree.used) (last_tick points) 0 key_limit
          (page_of (root_at tree (last_tick points))) tr
          → Full (Known points) n tr → (0 < n → 2 ≤ slot_count n tr) → 2 * 20 ^ n ≤ different_keys points + 1
      go zero h tr held full two = absurd (omega arith)
      go (suc n) h tr held full two =
          omega (
            arith,
            rows_root (Known points) n tr full (two (omega arith)),
            rows_known (is_known points) (suc n) (view_table count_of tree.table) (InUse tree.used) (last_tick points) 0 key_limit
                (page_of (root_at tree (last_tick points))) 30000 tr held full (omega arith),
            known_keys points,
          )

  pub pages_few : tree.used.pages ≤ 4 + 4 * length points / 9
  pages_few = omega (arith, paid.budget level_low)
