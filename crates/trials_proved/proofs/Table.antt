-- P1 to P8 and the pass of Paper 4, proved by running the definitions; where a trial is claimed of any store, by its refusals and by `Opened`.
use mathlib.Core.Path.{refl}
use borrow.Author.Tests.{lt-leb}
use Rattle.words.specs.Words.{key_limit}
use Rattle.trials_proved.specs.Computing.{computing}
use Rattle.trials_proved.specs.Trials.{Table}
use Rattle.trials_proved.proofs.Opened.{opened_empty}

pub table : Table
unfolding computing
table =
    record {
      p1 = refl;
      p2 = (refl, opened_empty);
      p3 = (refl, λ s tick weight. refl);
      p4 = (refl, refl, λ s tick key h. rw (lt-leb key_limit key h) refl, λ s tick key h. rw (lt-leb key_limit key h) refl);
      p5 = refl;
      p6 = refl;
      p7 = refl;
      p8 = (refl, refl, refl);
      paper4 = (refl, refl, refl, refl);
    }
