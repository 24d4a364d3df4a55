use Prim.Native.Nat.{◌+◌, ◌*◌, ◌≤◌}
use mathlib.Core.Path.{◌≡◌}
use lib.ListN.{drop}
use Rattle.ranges.specs.Nearest.{holder_sum}
use Rattle.ranges.proofs.search.holder_sum.Given as goal

abbrev pub invariant-loop-at : goal.invariant-loop-at
invariant-loop-at l =
    (l.sum ≤ 512 * l.at) × (l.sum + holder_sum l.key l.at (drop l.at l.ranges) ≡ holder_sum l.key 0 l.ranges)
