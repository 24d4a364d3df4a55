use Rattle.rows.proofs.EditLaws.{append_words}
use borrow.Author.Rules.{rules}
use Rattle.rows.proofs.edit.append_row.Goals as goal

pub returns : goal.returns
returns c = let a = c.args in
    append_words a.page.now a.row _ c.put_row.ensures (search rules)
