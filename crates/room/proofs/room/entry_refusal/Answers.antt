use borrow.Author.Tests.{lt-ltb, le-ltb}
use borrow.Author.Rules.{rules}
use Rattle.store.specs.Refusals.{first_met}
use Rattle.room.proofs.room.entry_refusal.Goals as goal

pub returns-in_default : goal.returns-in_default
unfolding first_met
returns-in_default c = rw c.in_default.is (search rules)

pub returns-then-pages_left-plan : goal.returns-then-pages_left-plan
unfolding first_met
returns-then-pages_left-plan c = rw (c.in-Ok.is, ← c.pages_left.ensures, lt-ltb _ _ c.if-pages_left-plan.true)

pub returns-in-Kept : goal.returns-in-Kept
unfolding first_met
returns-in-Kept c = rw (c.in-Ok.is, ← c.pages_left.ensures, le-ltb _ _ c.if-pages_left-plan.false, c.in-Kept.is)

pub returns-in-Added : goal.returns-in-Added
unfolding first_met
returns-in-Added c = rw (c.in-Ok.is, ← c.pages_left.ensures, le-ltb _ _ c.if-pages_left-plan.false, c.in-Added.is) c.list_refusal.ensures

pub returns-in-Replaced : goal.returns-in-Replaced
unfolding first_met
returns-in-Replaced c = rw (c.in-Ok.is, ← c.pages_left.ensures, le-ltb _ _ c.if-pages_left-plan.false, c.in-Replaced.is)
