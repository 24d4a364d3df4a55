use Rattle.ranges.specs.Nearest.{no_range}
use mathlib.Core.Path.{◌≡◌}
use Prim.Native.Nat.{◌≤◌}
use lib.ListN.{drop}
use Rattle.ranges.specs.KeyRanges.{lesser}
use Rattle.ranges.specs.Nearest.{least}
use Rattle.ranges.proofs.search.least_candidate.Given as goal

abbrev pub invariant-loop-at : goal.invariant-loop-at
invariant-loop-at l = (l.best ≤ no_range) × (lesser l.best (least l.from l.below l.above l.at (drop l.at l.ranges)) ≡ least l.from l.below l.above 0 l.ranges)
