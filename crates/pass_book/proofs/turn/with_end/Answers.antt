use Rattle.pass_book.proofs.TurnLaws.{book_ended}
use mathlib.Core.Path.{refl}
use borrow.Author.Rules.{rules}
use Rattle.pass_book.proofs.turn.with_end.Goals as goal

pub returns : goal.returns
returns c =
    let a = c.args in
    book_ended a.passes.now a.book _ _ _ (search rules) (search rules) (search rules) refl
