use native.Mathlib.Omega.{arith}
use Rattle.row_steps.proofs.EditSizes.{replace_grown}
use borrow.Author.Rules.{rules}
use Rattle.row_steps.proofs.steps.cut_at.Goals as goal

pub append_row-requires : goal.append_row-requires
append_row-requires c = let a = c.args in
    let old = c.row_at-old.result in
    let g = replace_grown a.page.now a.place (search rules) (omega arith) a.t old c.cut_row.result in
    rw c.replace_row.ensures (omega (arith, g.size, g.rows))

pub returns : goal.returns
returns c = rw (c.append_row.ensures, c.replace_row.ensures, c.cut_row.ensures, c.new_row.ensures, c.row_at-old.ensures)
