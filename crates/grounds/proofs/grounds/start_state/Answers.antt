use Rattle.tree.proofs.ReplacedRows.{tests}
use Rattle.store.specs.Refusals.{first_met}
use borrow.Author.Rules.{rules}
use Rattle.grounds.proofs.grounds.start_state.Goals as goal

pub returns-then-tick-last : goal.returns-then-tick-last
unfolding first_met
returns-then-tick-last c = search (rules, tests)

pub returns-then-count-ge-OPEN_LIMIT : goal.returns-then-count-ge-OPEN_LIMIT
unfolding first_met
returns-then-count-ge-OPEN_LIMIT c = search (rules, tests)

pub returns-then-started-ge-PASS_LIMIT : goal.returns-then-started-ge-PASS_LIMIT
unfolding first_met
returns-then-started-ge-PASS_LIMIT c = search (rules, tests)

pub returns : goal.returns
unfolding first_met
returns c = search (rules, tests)
