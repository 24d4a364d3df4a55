use native.Mathlib.Omega.{arith}
use Rattle.page.proofs.fresh.Page.two_row_root.Goals as goal

pub with_row-requires : goal.with_row-requires
with_row-requires c = rw c.empty.ensures (omega arith)

pub with_row-requires-2 : goal.with_row-requires-2
with_row-requires-2 c = rw (c.with_row.ensures, c.empty.ensures) (omega arith)

pub returns : goal.returns
returns c = rw (c.with_row-2.ensures, c.with_row.ensures, c.empty.ensures, c.new_row-below.ensures, c.new_row-above.ensures, c.zero.ensures, c.zero-2.ensures)
