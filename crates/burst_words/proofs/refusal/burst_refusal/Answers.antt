use borrow.Author.Rules.{rules}
use Rattle.tree.proofs.ReplacedRows.{tests}
use Rattle.store.specs.Refusals.{first_met}
use Rattle.demand.specs.Bursts.{burst_refusal}
use Rattle.burst_words.proofs.refusal.burst_refusal.Goals as goal

pub returns-then-bytes : goal.returns-then-bytes
unfolding burst_refusal first_met
returns-then-bytes c = search (rules, tests)

pub returns-then-bytes-gt0 : goal.returns-then-bytes-gt0
unfolding burst_refusal first_met
returns-then-bytes-gt0 c = search (rules, tests)

pub returns-then-words-words_needed : goal.returns-then-words-words_needed
unfolding burst_refusal first_met
returns-then-words-words_needed c = search (rules, tests)

pub returns : goal.returns
unfolding burst_refusal first_met
returns c = search (rules, tests)
