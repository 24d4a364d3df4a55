use Prim.Native.Nat.{◌-◌, ◌≤◌}
use mathlib.Core.Path.{◌≡◌}
use lib.ListN.{length}
use Rattle.store.specs.Lending.{words_of, store_with, SameSlices}
use Rattle.pieces.proofs.PieceRuns.{Going}
use Rattle.pieces.proofs.pieces.run_piece.Given as goal

abbrev pub invariant-loop-on : goal.invariant-loop-on
invariant-loop-on l = record {
  same_starts : SameSlices l.initial.starts l.starts;
  same_ends : SameSlices l.initial.ends l.ends;
  same_time : SameSlices l.initial.time l.time;
  same_out : length l.out ≡ length l.initial.out;
  fits : l.written ≤ length l.initial.out;
  going : Going l.initial.out l.ended
      (store_with l.initial.head (words_of l.initial.starts) (words_of l.initial.ends) (words_of l.initial.time)) l.input
      (store_with l.head (words_of l.starts) (words_of l.ends) (words_of l.time)) l.out l.taken l.written l.on;
}

abbrev pub decreases-loop-on : goal.decreases-loop-on
decreases-loop-on l = length l.input - l.taken
