use Rattle.tree.proofs.ReplacedRows.{tests}
use borrow.Author.Rules.{rules}
use Rattle.room.proofs.room.too_small.Goals as goal

pub returns-then-lent-lt-PAGE_WORDS : goal.returns-then-lent-lt-PAGE_WORDS
returns-then-lent-lt-PAGE_WORDS c = search (rules, tests)

pub returns-else-lent-lt-PAGE_WORDS : goal.returns-else-lent-lt-PAGE_WORDS
returns-else-lent-lt-PAGE_WORDS c = search (rules, tests)
