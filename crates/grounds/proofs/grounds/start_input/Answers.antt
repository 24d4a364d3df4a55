use Rattle.tree.proofs.ReplacedRows.{tests}
use Rattle.store.specs.Refusals.{first_met}
use borrow.Author.Rules.{rules}
use Rattle.grounds.proofs.grounds.start_input.Goals as goal

pub returns-then-key-ge-KEY_LIMIT : goal.returns-then-key-ge-KEY_LIMIT
unfolding first_met
returns-then-key-ge-KEY_LIMIT c = search (rules, tests)

pub returns-then-weight-eq0 : goal.returns-then-weight-eq0
unfolding first_met
returns-then-weight-eq0 c = search (rules, tests)

pub returns-then-weight-gt-HEAVIEST : goal.returns-then-weight-gt-HEAVIEST
unfolding first_met
returns-then-weight-gt-HEAVIEST c = search (rules, tests)

pub returns-then-tick-eq-OPEN : goal.returns-then-tick-eq-OPEN
unfolding first_met
returns-then-tick-eq-OPEN c = search (rules, tests)

pub returns : goal.returns
unfolding first_met
returns c = search (rules, tests)
