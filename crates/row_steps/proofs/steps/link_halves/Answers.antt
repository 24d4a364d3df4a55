use mathlib.Core.Path.{ap, ap₂, ◌∙◌}
use Rattle.tree.specs.RowEdits.{append_row}
use Rattle.tree.specs.Fresh.{new_row}
use Rattle.row_steps.specs.PageEdits.{replace_words}
use native.Mathlib.Omega.{arith}
use Rattle.row_steps.proofs.EditSizes.{replace_grown}
use borrow.Author.Rules.{rules}
use Rattle.row_steps.proofs.steps.link_halves.Goals as goal

pub append_row-requires : goal.append_row-requires
append_row-requires c = let a = c.args in
    let g = replace_grown a.page.now a.place (search rules) (omega arith) a.t a.old c.linked_row.result in
    rw c.replace_row.ensures (omega (arith, g.size, g.rows))

pub returns : goal.returns
returns c =
    let a = c.args in
    c.append_row.ensures
    ∙ ap₂ append_row
    (c.replace_row.ensures
    ∙ ap (replace_words a.t a.page.now a.place a.old) c.linked_row.ensures)
    (c.new_row.ensures
    ∙ ap (new_row a.t a.upper.low a.upper.high a.upper.page) c.zero-nothing.ensures)
