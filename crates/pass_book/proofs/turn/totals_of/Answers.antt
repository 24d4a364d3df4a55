use native.Mathlib.Omega.{arith}
use mathlib.Core.Path.{ap, ◌∙◌}
use Rattle.store.specs.Book.{book_part}
use Rattle.pass_list.specs.PassList.{book_in}
use Rattle.pass_list.proofs.PassLaws.{passes_length}
use Rattle.pass_book.proofs.SaidLaws.{said_as}
use Rattle.pass_book.proofs.turn.totals_of.Goals as goal

pub returns : goal.returns
returns c =
    let a = c.args in
    ap book_part c.answer_of.ensures
    ∙ said_as (book_in a.passes.now a.book) (omega (arith, passes_length a.passes.now a.book.started c.requires)) c.totals.ensures.all a.asked c.totals.ensures.value
