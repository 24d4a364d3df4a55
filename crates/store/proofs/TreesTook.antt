-- The trees of a store that agrees with the book, as they take one point more, or none.
use Prim.Native.Nat.{ℕ, ◌+◌, ◌≤◌}
use native.Mathlib.Omega.{arith}
use mathlib.Core.Path.{◌≡◌, ap, sym, subst, ◌∙◌}
use mathlib.Core.Bool.{Bool, cond}
use mathlib.Core.List.{List, ◌∷◌}
use Rattle.tree.specs.declared.types.RootChange.{RootChange}
use Rattle.tree.specs.Tree.{Tree}
use Rattle.tree.specs.RowSteps.{Point}
use Rattle.tree.specs.Plan.{ready, plan, enter}
use Rattle.tree.specs.Grown.{last_tick, InTime, Room}
use Rattle.tree.proofs.Main.{grown_more, plan_never_spoiled}
use Rattle.store.specs.Passes.{sum_where}
use Rattle.store.proofs.Agreement.{TreeTook}

-- The same points in another order, at the same tick or later
pub took_same : {tree : Tree} {last : ℕ} {points : List Point} (later : ℕ) (others : List Point) → last ≤ later
    → ((f : Point → ℕ) (test : Point → Bool) → sum_where f test points ≡ sum_where f test others) → TreeTook tree last points → TreeTook tree later others
took_same later others h same t =
    record {
      table = t.table;
      roots = t.roots;
      entered = t.entered;
      admitted = t.admitted;
      is = t.is;
      time = omega (arith, t.time);
      same = λ f test. t.same f test ∙ same f test;
    }

module _ {tree : Tree} {last : ℕ} {points : List Point} (took : TreeTook tree last points) (p : Point) (timely : InTime last p) where
  in_time : InTime (last_tick took.entered) p
  in_time = record { later = omega (arith, took.time, timely.later); tick = timely.tick; key = timely.key }

  -- The plan of a point in time is never spoiled
  pub planned : (made : ℕ) × (root : RootChange) × (plan tree p ≡ ready made root)
  planned =
      let found = plan_never_spoiled took.table took.roots took.entered took.admitted p in_time in
      (found.0, found.1, ap (λ (x : Tree). plan x p) took.is ∙ found.2)

  -- and where there is room, the tree takes it
  pub took_more : Room tree p → (others : List Point)
      → ((f : Point → ℕ) (test : Point → Bool) → cond (test p) (f p) 0 + sum_where f test points ≡ sum_where f test others)
      → TreeTook (enter tree p) p.tick others
  unfolding sum_where
  took_more room others more =
      record {
        table = took.table;
        roots = took.roots;
        entered = p ∷ took.entered;
        admitted = (in_time, subst (λ (x : Tree). Room x p) took.is room, took.admitted);
        is = ap (λ (x : Tree). enter x p) took.is ∙ sym (grown_more took.table took.roots p took.entered);
        time = omega arith;
        same = λ f test. ap (λ (n : ℕ). cond (test p) (f p) 0 + n) (took.same f test) ∙ more f test;
      }
