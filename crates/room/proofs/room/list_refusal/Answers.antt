use Rattle.tree.proofs.ReplacedRows.{tests}
use Rattle.store.specs.Refusals.{first_met}
use borrow.Author.Rules.{rules}
use Rattle.room.proofs.room.list_refusal.Goals as goal

pub returns-then-places-used : goal.returns-then-places-used
unfolding first_met
returns-then-places-used c = search (rules, tests)

pub returns : goal.returns
unfolding first_met
returns c = search (rules, tests)
