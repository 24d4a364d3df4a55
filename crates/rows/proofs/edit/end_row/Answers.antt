use Rattle.rows.proofs.EditLaws.{end_word}
use borrow.Author.Rules.{rules}
use Rattle.rows.proofs.edit.end_row.Goals as goal

pub returns : goal.returns
returns c = let a = c.args in
    rw (c.life.ensures, c.birth_of.ensures, c.row_start-at.ensures) (end_word a.page.now a.place a.t (search rules))
