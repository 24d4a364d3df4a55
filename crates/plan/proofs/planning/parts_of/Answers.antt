use borrow.Author.Tests.{le-leb, lt-leb}
use Rattle.tree.specs.Row.{row_limit, copy_limit}
use Rattle.plan.proofs.planning.parts_of.Goals as goal

pub returns-then-rows-le-ROWS : goal.returns-then-rows-le-ROWS
returns-then-rows-le-ROWS c = rw (le-leb c.args.rows row_limit c.if-rows-le-ROWS.true)

pub returns-then-live-le-COPIED : goal.returns-then-live-le-COPIED
returns-then-live-le-COPIED c =
    let a = c.args in
    rw (lt-leb a.rows row_limit c.if-rows-le-ROWS.false, le-leb a.live copy_limit c.if-live-le-COPIED.true)

pub returns : goal.returns
returns c =
    let a = c.args in
    rw (lt-leb a.rows row_limit c.if-rows-le-ROWS.false, lt-leb a.live copy_limit c.if-live-le-COPIED.false)
