use native.Mathlib.Omega.{arith}
use Rattle.plan.specs.PlanSteps.{plan_page}
use Rattle.plan.proofs.PlanBounds.{parts_few}
use Rattle.plan.proofs.planning.plan_page.Goals as goal

pub overflow_add-result : goal.overflow_add-result
overflow_add-result c = let a = c.args in omega (arith, c.parts_of-parts.ensures, parts_few a.rows a.live)

pub returns : goal.returns
unfolding plan_page
returns c = rw c.parts_of-parts.ensures
