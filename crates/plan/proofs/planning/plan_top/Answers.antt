use borrow.Author.Tests.{eq-eqb, ne_eqb}
use Rattle.plan.specs.PlanSteps.{plan_top}
use Rattle.plan.proofs.planning.plan_top.Goals as goal

pub returns-then-planned-eq0 : goal.returns-then-planned-eq0
unfolding plan_top
returns-then-planned-eq0 c = rw (eq-eqb _ _ c.if-planned-eq0.true)

pub returns-then-planned-eq1 : goal.returns-then-planned-eq1
unfolding plan_top
returns-then-planned-eq1 c = rw (ne_eqb _ _ c.if-planned-eq0.false, eq-eqb _ _ c.if-planned-eq1.true, c.root_change-root.ensures)

pub returns-then-top-eq-TOP_LEVEL : goal.returns-then-top-eq-TOP_LEVEL
unfolding plan_top
returns-then-top-eq-TOP_LEVEL c = rw (ne_eqb _ _ c.if-planned-eq0.false, ne_eqb _ _ c.if-planned-eq1.false, eq-eqb _ _ c.if-top-eq-TOP_LEVEL.true)

pub returns : goal.returns
unfolding plan_top
returns c = rw (
  ne_eqb _ _ c.if-planned-eq0.false,
  ne_eqb _ _ c.if-planned-eq1.false,
  ne_eqb _ _
      c.if-top-eq-TOP_LEVEL.false,
  c.root_change-root.ensures,
)
