use borrow.Author.Tests.{eq-eqb, ne_eqb}
use native.Mathlib.Omega.{arith}
use mathlib.Core.Path.{ap₂, ◌∙◌}
use Rattle.tree.specs.RowEdits.{append_row}
use Rattle.row_steps.proofs.EditSizes.{end_room}
use borrow.Author.Rules.{rules}
use Rattle.row_steps.proofs.steps.replace_row.Goals as goal

pub returns-then-old-t : goal.returns-then-old-t
returns-then-old-t c =
    let a = c.args in
    rw (eq-eqb a.old.birth a.t (omega (arith, c.if-old-t.true))) c.put_row.ensures

pub append_row-requires : goal.append_row-requires
append_row-requires c = let a = c.args in
    let room = end_room a.page.now a.place (search rules) (search rules) a.t in
    rw c.end_row.ensures (omega arith)

pub returns : goal.returns
returns c = rw (ne_eqb _ _ c.if-old-t.false) (c.append_row.ensures ∙ ap₂ append_row c.end_row.ensures c.born_at.ensures)
