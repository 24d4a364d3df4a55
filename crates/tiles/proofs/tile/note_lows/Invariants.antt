use Rattle.tiles.specs.TileTest.{Noted}
use Rattle.tiles.proofs.tile.note_lows.Given as goal

abbrev pub invariant-loop-range : goal.invariant-loop-range
invariant-loop-range l = Noted l.high l.ranges l.noted
