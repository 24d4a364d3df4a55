use mathlib.Core.Path.{◌≡◌}
use Prim.Native.Nat.{◌+◌, ◌*◌, ◌≤◌}
use lib.ListN.{drop}
use Rattle.words.specs.Sums.{sum_by}
use Rattle.tiles.specs.TileTest.{spanned}
use Rattle.tiles.proofs.tile.spanned_total.Given as goal

abbrev pub invariant-loop-range : goal.invariant-loop-range
invariant-loop-range l = (l.total ≤ 65536 * l.range-index) × (l.total + sum_by (spanned l.low l.high) (drop l.range-index l.ranges) ≡ sum_by (spanned l.low l.high) l.ranges)
