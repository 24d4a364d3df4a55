use borrow.Author.Tests.{eq-eqb, ne_eqb}
use Rattle.plan.proofs.planning.root_change.Goals as goal

pub returns-then-root_birth-t : goal.returns-then-root_birth-t
returns-then-root_birth-t c = rw (← c.root_birth.ensures, eq-eqb _ _ c.if-root_birth-t.true)

pub returns : goal.returns
returns c = rw (← c.root_birth.ensures, ne_eqb _ _ c.if-root_birth-t.false)
