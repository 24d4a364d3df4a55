use Prim.Native.Nat.{ℕ, ◌≤◌}
use mathlib.Core.Path.{◌≡◌}
use lib.ListN.{length, take}
use Rattle.tree.specs.Tree.{root_for}
use Rattle.roots.proofs.search.skip_later.Given as goal

abbrev pub invariant-loop-left : goal.invariant-loop-left
invariant-loop-left l = (l.left ≤ l.used) × (l.used ≤ length l.roots) × ((u : ℕ) → u ≤ l.t → root_for u (take l.left l.roots) ≡ root_for u (take l.used l.roots))

abbrev pub decreases-loop-left : goal.decreases-loop-left
decreases-loop-left l = l.left
