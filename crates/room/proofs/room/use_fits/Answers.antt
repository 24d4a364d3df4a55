use Rattle.tree.proofs.ReplacedRows.{tests}
use borrow.Author.Rules.{rules}
use Rattle.room.proofs.room.use_fits.Goals as goal

pub returns-then-used-lt1 : goal.returns-then-used-lt1
returns-then-used-lt1 c = search (rules, tests)

pub returns-then-used-lt1-2 : goal.returns-then-used-lt1-2
returns-then-used-lt1-2 c = search (rules, tests)

pub returns-then-used-gt-PAGE_LIMIT : goal.returns-then-used-gt-PAGE_LIMIT
returns-then-used-gt-PAGE_LIMIT c = search (rules, tests)

pub returns-then-words-used : goal.returns-then-words-used
returns-then-words-used c = search (rules, tests)

pub returns-then-used : goal.returns-then-used
returns-then-used c = search (rules, tests)

pub returns : goal.returns
returns c = search (rules, tests)
