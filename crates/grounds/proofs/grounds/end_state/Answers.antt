use borrow.Author.Tests.{lt-ltb, le-ltb}
use Rattle.store.specs.Refusals.{first_met}
use Rattle.grounds.proofs.grounds.end_state.Goals as goal

pub returns-then-tick-last : goal.returns-then-tick-last
unfolding first_met
returns-then-tick-last c = rw (lt-ltb _ _ c.if-tick-last.true)

pub returns-in-None : goal.returns-in-None
unfolding first_met
returns-in-None c = rw (le-ltb _ _ c.if-tick-last.false, c.in-None.is)

pub returns-in-Some : goal.returns-in-Some
unfolding first_met
returns-in-Some c = rw (le-ltb _ _ c.if-tick-last.false, c.in-Some.is)
