use mathlib.Core.Path.{◌≡◌}
use lib.ListN.{drop}
use Rattle.tiles.specs.TileTest.{every, stops_well}
use Rattle.tiles.proofs.tile.each_goes_on.Given as goal

abbrev pub invariant-loop-range : goal.invariant-loop-range
invariant-loop-range l = every (stops_well l.low l.high l.ranges) (drop l.range-index l.ranges) ≡ every (stops_well l.low l.high l.ranges) l.ranges
