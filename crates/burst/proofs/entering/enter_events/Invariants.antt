use mathlib.Core.Path.{◌≡◌}
use Rattle.std.specs.Iterator.Adapters.{enumerate_source, enumerate_count}
use Rattle.std.specs.Slice.Iter.{chunks_exact_rest, chunks_exact_size}
use Rattle.store.specs.Lending.{words_of, store_with, SameSlices}
use Rattle.burst.proofs.BurstSteps.{Going}
use Rattle.burst.proofs.entering.enter_events.Given as goal

abbrev pub invariant-loop-place : goal.invariant-loop-place
invariant-loop-place l = record {
  same_starts : SameSlices l.initial.starts l.starts;
  same_ends : SameSlices l.initial.ends l.ends;
  same_time : SameSlices l.initial.time l.time;
  size : chunks_exact_size (enumerate_source l.place-iterator) ≡ 9;
  going : Going (store_with l.initial.after (words_of l.initial.starts) (words_of l.initial.ends) (words_of l.initial.time)) l.bytes l.initial.results
      (store_with l.after (words_of l.starts) (words_of l.ends) (words_of l.time)) l.results (enumerate_count l.place-iterator) (chunks_exact_rest (enumerate_source l.place-iterator));
}
