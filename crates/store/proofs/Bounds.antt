-- Height and pages of a tree that took the book's points, and the pages on a path.
use Prim.Native.Nat.{ℕ, ◌+◌, ◌-◌, ◌*◌, ◌/◌, ◌^◌, ◌≤◌, ◌<◌}
use native.Mathlib.Omega.{arith}
use mathlib.Core.Path.{◌≡◌, refl, ap, sym, subst, ◌∙◌}
use mathlib.Core.Bool.{Bool, true, false, cond, ◌||◌}
use mathlib.Core.List.{List, [], ◌∷◌}
use lib.ListN.{length}
use lib.Dec.{ltb, eqb}
use borrow.Author.Tests.{lt-ltb}
use Rattle.words.specs.Words.{key_limit}
use Rattle.tree.specs.Tree.{Tree, height}
use Rattle.tree.specs.RowSteps.{Point}
use Rattle.tree.specs.Path.{path}
use Rattle.tree.specs.PointSums.{is_taken, different_keys}
use Rattle.tree.proofs.Height.{many_same}
use Rattle.tree.proofs.Main.{height_took, pages_at_most_used, path_short}
use Rattle.store.specs.Trees.{Store}
use Rattle.store.specs.Passes.{sum_where}
use Rattle.store.specs.Book.{Book}
use Rattle.store.specs.Demand.{Bounded, AllBounded}
use Rattle.store.proofs.SumLaws.{sum_where_all}
use Rattle.store.proofs.ArgumentFacts.{InBounds}
use Rattle.store.proofs.Agreement.{TreeTook, Agrees}

-- Whether a key is taken shows in a sum
taken_sum : (k : ℕ) (points : List Point) → is_taken points k ≡ ltb 0 (sum_where (λ (p : Point). 1) (λ (p : Point). eqb k p.key) points)
unfolding sum_where
taken_sum k [] = refl
taken_sum k (p ∷ points) = go (eqb k p.key) (taken_sum k points)
  where
    go : (b : Bool) → is_taken points k ≡ ltb 0 (sum_where (λ (q : Point). 1) (λ (q : Point). eqb k q.key) points)
        → b || is_taken points k ≡ ltb 0 (cond b 1 0 + sum_where (λ (q : Point). 1) (λ (q : Point). eqb k q.key) points)
    go true ih = sym (lt-ltb 0 (1 + sum_where (λ (q : Point). 1) (λ (q : Point). eqb k q.key) points) (omega arith))
    go false ih = ih ∙ ap (ltb 0) (sym zero_more)
      where
        zero_more : 0 + sum_where (λ (q : Point). 1) (λ (q : Point). eqb k q.key) points
            ≡ sum_where (λ (q : Point). 1) (λ (q : Point). eqb k q.key) points
        zero_more = omega arith

module _ {tree : Tree} {last : ℕ} {points : List Point} (took : TreeTook tree last points) where
  keys_same : different_keys took.entered ≡ different_keys points
  keys_same =
      many_same (is_taken took.entered) (is_taken points) 1 (key_limit - 1)
      (λ k above. taken_sum k took.entered ∙ ap (ltb 0) (took.same (λ (p : Point). 1) (λ (p : Point). eqb k p.key)) ∙ sym (taken_sum k points))

  length_same : length took.entered ≡ length points
  length_same = sym (sum_where_all took.entered) ∙ took.same (λ (p : Point). 1) (λ (p : Point). true) ∙ sum_where_all points

  pub took_bounded : Bounded tree points
  took_bounded =
      record {
        high = λ h.
            omega (
              arith,
              subst (λ (x : Tree). 1 < height x → 2 * 20 ^ (height x - 1) ≤ different_keys took.entered + 1) (sym took.is)
                  (height_took took.table took.roots took.entered took.admitted) h,
              keys_same,
            );
        wide =
            omega (
              arith,
              subst (λ (x : Tree). x.used.pages ≤ 4 + 4 * length took.entered / 9) (sym took.is)
                  (pages_at_most_used took.table took.roots took.entered took.admitted),
              length_same,
            );
      }

  pub took_short : (t k : ℕ) → InBounds t k → length (path tree t k) ≤ 4
  took_short t k bounds =
      subst (λ (x : Tree). length (path x t k) ≤ 4) (sym took.is)
      (path_short took.table took.roots took.entered took.admitted t k bounds.tick bounds.key)

pub trees_bounded : (s : Store) (b : Book) → Agrees s b → AllBounded s b
trees_bounded s b a = λ name. took_bounded (a.trees name)
