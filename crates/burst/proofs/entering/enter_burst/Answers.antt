use mathlib.Core.Path.{sym, ◌∙◌}
use Rattle.burst.proofs.BurstSteps.{refused_whole, entered_whole, takes_few}
use Rattle.burst.proofs.entering.enter_burst.Goals as goal

pub returns-then-is_err-clause-replied : goal.returns-then-is_err-clause-replied
returns-then-is_err-clause-replied c = refused_whole _ _ _ _ c.burst_refusal-refused.ensures (sym c.is_err.ensures.value ∙ c.if-is_err.true)

pub enter_events-after-requires : goal.enter_events-after-requires
enter_events-after-requires c =
    let few = takes_few _ _ _ c.burst_refusal-refused.ensures (sym c.is_err.ensures.value ∙ c.if-is_err.false) in
    record { bytes_bound = few.0; bytes_in_bounds = few.1 }

pub returns-clause-replied : goal.returns-clause-replied
returns-clause-replied c =
    entered_whole _ _ _ _ c.burst_refusal-refused.ensures (sym c.is_err.ensures.value ∙ c.if-is_err.false) c.enter_events-after.ensures.entered
