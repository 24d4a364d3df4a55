use Prim.Native.Nat.{ℕ, ◌+◌, ◌-◌}
use native.Mathlib.Omega.{arith}
use mathlib.Core.Path.{ap, sym, ◌∙◌}
use lib.ListN.{length, drop, length-drop}
use lib.Seq.{take_all}
use Rattle.store.specs.Lending.{words_of, store_with}
use Rattle.pieces.specs.Fed.{runs_at}
use Rattle.pieces.proofs.PieceRuns.{ran_at, ready, begin, ends, still_fits, moves_on}
use borrow.Author.Rules.{rules}
use Rattle.pieces.proofs.pieces.run_piece.Goals as goal

pub loop-on-init : goal.loop-on-init
loop-on-init c =
    let a = c.args in
    record {
      same_starts = search rules;
      same_ends = search rules;
      same_time = search rules;
      same_out = search rules;
      fits = search rules;
      going = begin a.out.now a.ended (store_with a.head (words_of a.starts.now) (words_of a.ends.now) (words_of a.time.now)) a.input.now;
    }

pub bounds-input-taken : goal.bounds-input-taken
bounds-input-taken c = let more = (ready _ _ _ _ _ (sym c.runs_at.ensures ∙ c.loop-on-test.true)).more in search rules

pub overflow_add-behind : goal.overflow_add-behind
overflow_add-behind c = let more = (ready _ _ _ _ _ (sym c.runs_at.ensures ∙ c.loop-on-test.true)).more in search rules

pub slice_bounds-rest-count : goal.slice_bounds-rest-count
slice_bounds-rest-count c = let more = (ready _ _ _ _ _ (sym c.runs_at.ensures ∙ c.loop-on-test.true)).more in search rules

pub slice_bounds-rest-start : goal.slice_bounds-rest-start
slice_bounds-rest-start c = let more = (ready _ _ _ _ _ (sym c.runs_at.ensures ∙ c.loop-on-test.true)).more in search rules

pub slice_bounds-rest-end : goal.slice_bounds-rest-end
slice_bounds-rest-end c = let more = (ready _ _ _ _ _ (sym c.runs_at.ensures ∙ c.loop-on-test.true)).more in search rules

pub put_answer-written-requires : goal.put_answer-written-requires
put_answer-written-requires c =
    let a = c.args in
    let l = c.loop-on in
    let same = ap (λ (n : ℕ). runs_at l.on (n - l.written) a.ended a.input.now l.taken) l.invariant.same_out in
    let now = ready l.on (length a.out.now - l.written) a.ended a.input.now l.taken (sym (c.runs_at.ensures ∙ same) ∙ c.loop-on-test.true) in
    omega (arith, still_fits a.out.now a.ended _ a.input.now _ l.out l.taken l.written l.invariant.going now, l.invariant.same_out)

pub overflow_add-taken : goal.overflow_add-taken
overflow_add-taken c =
    let a = c.args in
    let l = c.loop-on in
    let all = take_all (length a.input.now - (l.taken + 1)) (drop (l.taken + 1) a.input.now) (omega (arith, length-drop (l.taken + 1) a.input.now)) in
    let more = (ready _ _ _ _ _ (sym c.runs_at.ensures ∙ c.loop-on-test.true)).more in
    omega (arith, more, c.command_length-taken.ensures.upper_bound, ap length all, length-drop (l.taken + 1) a.input.now)

pub loop-on-smaller : goal.loop-on-smaller
loop-on-smaller c = omega (arith, (ready _ _ _ _ _ (sym c.runs_at.ensures ∙ c.loop-on-test.true)).more, c.command_length-taken.ensures.value)

pub loop-on-preserved : goal.loop-on-preserved
loop-on-preserved c =
    let a = c.args in
    let l = c.loop-on in
    let s = store_with l.head (words_of l.starts) (words_of l.ends) (words_of l.time) in
    let all = take_all (length a.input.now - (l.taken + 1)) (drop (l.taken + 1) a.input.now) (omega (arith, length-drop (l.taken + 1) a.input.now)) in
    let same = ap (λ (n : ℕ). runs_at l.on (n - l.written) a.ended a.input.now l.taken) l.invariant.same_out in
    let now = ready l.on (length a.out.now - l.written) a.ended a.input.now l.taken (sym (c.runs_at.ensures ∙ same) ∙ c.loop-on-test.true) in
    let run = c.run_command-answer in
    let put = c.put_answer-written in
    let ran = ran_at s a.input.now l.taken now.more all run.ensures.replied put.ensures.out_after put.ensures.value c.command_length-taken.ensures.value c.command_length-taken.ensures.upper_bound c.goes_on-on.ensures in
    let next = moves_on a.out.now a.ended _ a.input.now s l.out l.taken l.written l.invariant.going now ran in
    record {
      same_starts = search rules;
      same_ends = search rules;
      same_time = search rules;
      same_out = search rules;
      fits = next.fits;
      going = next;
    }

pub returns-clause-fed : goal.returns-clause-fed
returns-clause-fed c =
    let a = c.args in
    let l = c.loop-on in
    let s = store_with l.head (words_of l.starts) (words_of l.ends) (words_of l.time) in
    let same = ap (λ (n : ℕ). runs_at l.on (n - l.written) a.ended a.input.now l.taken) l.invariant.same_out in
    let end = ends a.out.now a.ended _ a.input.now s l.out l.taken l.written l.on l.invariant.going (sym (c.runs_at.ensures ∙ same) ∙ c.loop-on-test.false) in
    record { taken = end.taken; output = end.output; size = end.size; over = c.is_over.ensures ∙ end.over; head = end.head; lent_is = end.lent_is }
