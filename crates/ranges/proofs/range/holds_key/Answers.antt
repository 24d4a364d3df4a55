use borrow.Author.Tests.{le-leb, lt-leb}
use Rattle.ranges.proofs.range.holds_key.Goals as goal

pub returns-then-range_low-key : goal.returns-then-range_low-key
returns-then-range_low-key c = rw (← c.range_low.ensures, ← c.range_high.ensures, le-leb _ _ c.if-range_low-key.true)

pub returns-else-range_low-key : goal.returns-else-range_low-key
returns-else-range_low-key c = rw (← c.range_low.ensures, lt-leb _ _ c.if-range_low-key.false)
