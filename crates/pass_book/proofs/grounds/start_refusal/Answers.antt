use Rattle.pass_book.proofs.GroundLaws.{start_all_started, start_accepted}
use Rattle.pass_book.proofs.grounds.start_refusal.Goals as goal

pub returns-then-book-ge-PASS_LIMIT : goal.returns-then-book-ge-PASS_LIMIT
returns-then-book-ge-PASS_LIMIT c =
    start_all_started _ _ c.requires _ _ _ _ c.if-key-ge-KEY_LIMIT.false c.if-weight-eq0.false c.if-weight-gt-HEAVIEST.false c.if-tick-eq-OPEN.false c.if-tick-book.false c.open_count-open.ensures c.if-open-ge-OPEN_LIMIT.false c.if-book-ge-PASS_LIMIT.true

pub returns : goal.returns
returns c =
    start_accepted _ _ c.requires _ _ _ _ c.if-key-ge-KEY_LIMIT.false c.if-weight-eq0.false c.if-weight-gt-HEAVIEST.false c.if-tick-eq-OPEN.false c.if-tick-book.false c.open_count-open.ensures c.if-open-ge-OPEN_LIMIT.false c.if-book-ge-PASS_LIMIT.false
