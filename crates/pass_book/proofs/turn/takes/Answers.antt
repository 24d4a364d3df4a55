use mathlib.Core.Path.{◌∙◌}
use Rattle.store.proofs.RefusedNumbers.{numbered}
use Rattle.store.proofs.Refusing.{told_on}
use Rattle.pass_book.proofs.TurnLaws.{refuses_own, refuses_fed}
use Rattle.pass_book.proofs.turn.takes.Goals as goal

pub returns-in_err-refusal : goal.returns-in_err-refusal
returns-in_err-refusal c =
    told_on _ c.from_residual.result c.from_residual.ensures.1
    ∙ refuses_own _ _ _ _ c.in_err-refusal.ensures (numbered c.in_err-refusal.field-0.0)

pub returns : goal.returns
returns c = refuses_fed _ _ _ _ c.in_ok-refusal.ensures c.lacking.ensures
