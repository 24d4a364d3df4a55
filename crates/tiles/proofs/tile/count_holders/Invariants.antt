use mathlib.Core.Path.{◌≡◌}
use Prim.Native.Nat.{◌+◌, ◌≤◌}
use lib.ListN.{drop}
use Rattle.words.specs.Sums.{count}
use Rattle.ranges.specs.KeyRanges.{holds_key}
use Rattle.tiles.proofs.tile.count_holders.Given as goal

abbrev pub invariant-loop-range : goal.invariant-loop-range
invariant-loop-range l = (l.found ≤ l.range-index) × (l.found + count (holds_key l.key) (drop l.range-index l.ranges) ≡ count (holds_key l.key) l.ranges)
