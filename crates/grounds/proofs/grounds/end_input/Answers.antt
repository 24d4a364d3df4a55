use Rattle.tree.proofs.ReplacedRows.{tests}
use Rattle.store.specs.Refusals.{first_met}
use borrow.Author.Rules.{rules}
use Rattle.grounds.proofs.grounds.end_input.Goals as goal

pub returns-then-tick-eq-OPEN : goal.returns-then-tick-eq-OPEN
unfolding first_met
returns-then-tick-eq-OPEN c = search (rules, tests)

pub returns : goal.returns
unfolding first_met
returns c = search (rules, tests)
