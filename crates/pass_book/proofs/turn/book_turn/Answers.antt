use Rattle.store.proofs.RefusedNumbers.{numbered}
use Rattle.pass_book.proofs.TurnLaws.{stays_as, turn_refused, turn_does}
use Rattle.pass_book.proofs.turn.book_turn.Goals as goal

pub does-requires-clause-call_value : goal.does-requires-clause-call_value
does-requires-clause-call_value c = (turn_does _ _ _ c.in-Ok.ensures).0

pub returns-in-Ok : goal.returns-in-Ok
returns-in-Ok c = rw (turn_does _ _ _ c.in-Ok.ensures).1 c.does.ensures

pub returns-in-Err : goal.returns-in-Err
returns-in-Err c =
    let a = c.args in
    rw c.refused.ensures (stays_as a.passes.now a.book _ _ (turn_refused _ _ _ _ c.in-Err.ensures (numbered c.in-Err.refusal)))
