use Rattle.std.proofs.Common.{◌≡◌, ◌≤◌, false, [], length}
use Rattle.store.specs.Lending.{words_of, store_with, SameSlices}
use Rattle.turns.specs.Turns.{feed_of, most_waiting}
use Rattle.turns.proofs.TurnLaws.{Going}
use Rattle.turns.proofs.run.serve.Given as goal

abbrev pub invariant-loop : goal.invariant-loop
invariant-loop g l = record {
  same_starts : SameSlices l.fn.starts l.starts;
  same_ends : SameSlices l.fn.ends l.ends;
  same_time : SameSlices l.fn.time l.time;
  buffer_size : length l.buffer ≡ 4096;
  out_size : length l.out ≡ 8210;
  short : l.now.waiting ≤ most_waiting;
  on : l.now.over ≡ false;
  going : Going
      (record { store = store_with l.fn.opened (words_of l.fn.starts) (words_of l.fn.ends) (words_of l.fn.time); waiting = []; over = false })
      (feed_of (store_with l.now.head (words_of l.starts) (words_of l.ends) (words_of l.time)) l.buffer l.now.waiting false)
      l.counter
      (g.R.Read.remaining l.fn.input) (g.R.Read.remaining l.input) (g.W.Write.contents l.fn.output) (g.W.Write.contents l.output);
}
