use native.Mathlib.Omega.{arith}
use mathlib.Core.Path.{◌∙◌}
use Rattle.burst.proofs.BurstSteps.{all_entered, entered_on}
use borrow.Author.Rules.{rules}
use Rattle.burst.proofs.entering.enter_events.Goals as goal

pub loop-place-preserved : goal.loop-place-preserved
loop-place-preserved c =
    let l = c.loop-place in
    let cut = c.in-Some.ensures.steps in
    record {
      same_starts = search rules;
      same_ends = search rules;
      same_time = search rules;
      size = search rules;
      going = entered_on _ _ _ l.invariant.going c.requires.bytes_in_bounds c.in-Some.event.now cut.0.1.0 (cut.0.1.1 ∙ l.invariant.size) c.run_event-reply.ensures.replied cut.1 cut.2 c.put_result.ensures;
    }

pub returns-clause-entered : goal.returns-clause-entered
returns-clause-entered c =
    let l = c.loop-place in
    all_entered _ _ _ l.invariant.going (omega (arith, c.in-None.ensures.steps.0.1.0, l.invariant.size))
