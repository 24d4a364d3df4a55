use Rattle.std.proofs.Common.{[], false, refl, arith, rules, length}
use Rattle.std.proofs.lemmas.Result.{err_from_is_err_and}
use Rattle.store.specs.Lending.{words_of, store_with}
use Rattle.turns.proofs.TurnLaws.{first_turn, one_turn_more, last_turn, no_turn_left, cut_run}
use Rattle.turns.proofs.run.serve.Goals as goal

pub loop-init : goal.loop-init
loop-init g c =
    let a = c.args in
    record {
      same_starts = (refl, refl);
      same_ends = (refl, refl);
      same_time = (refl, refl);
      buffer_size = refl;
      out_size = refl;
      short = omega arith;
      on = refl;
      going = first_turn (record { store = store_with a.opened (words_of a.starts.now) (words_of a.ends.now) (words_of a.time.now); waiting = []; over = false }) (g.R.Read.remaining a.input.now) (g.W.Write.contents a.output.now);
    }

pub returns-in_err-now-clause-cut_short : goal.returns-in_err-now-clause-cut_short
returns-in_err-now-clause-cut_short g c =
    let p = err_from_is_err_and c.from_residual.result c.from_residual.ensures.1 in
    rw p.1 (cut_run (length c.loop.out) c.loop.invariant.going c.in_err-now.ensures.cut_short)

pub returns-then-now-clause-moves : goal.returns-then-now-clause-moves
returns-then-now-clause-moves g c = last_turn c.loop.invariant.going c.in_ok-now.ensures.moves c.if-now.true

pub returns-then-now-clause-served : goal.returns-then-now-clause-served
returns-then-now-clause-served g c = (returns-then-now-clause-moves g c).served

pub loop-preserved : goal.loop-preserved
loop-preserved g c =
    let l = c.loop in
    let turned = c.in_ok-now.ensures in
    record {
      same_starts = search rules;
      same_ends = search rules;
      same_time = search rules;
      buffer_size = search rules;
      out_size = search rules;
      short = turned.waiting_le_most_waiting_2 c.if-now.false;
      on = c.if-now.false;
      going = one_turn_more l.invariant.going turned.moves (omega arith) c.if-now.false;
    }

pub returns-clause-moves : goal.returns-clause-moves
returns-clause-moves g c = no_turn_left c.loop.invariant.going (omega arith) c.loop.invariant.on

pub returns-clause-served : goal.returns-clause-served
returns-clause-served g c = (returns-clause-moves g c).served
