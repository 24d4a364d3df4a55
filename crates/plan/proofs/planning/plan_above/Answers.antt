use borrow.Author.Tests.{eq-eqb, ne_eqb}
use Rattle.plan.specs.PlanSteps.{plan_above}
use Rattle.plan.proofs.planning.plan_above.Goals as goal

pub returns-then-below-eq0 : goal.returns-then-below-eq0
unfolding plan_above
returns-then-below-eq0 c = rw (eq-eqb _ _ c.if-below-eq0.true) c.plan_page.ensures

pub returns : goal.returns
unfolding plan_above
returns c = rw (ne_eqb _ _ c.if-below-eq0.false) c.plan_page-2.ensures
