use mathlib.Core.Path.{ap, ◌∙◌}
use Prim.Native.Nat.{ℕ}
use lib.Dec.{ltb}
use borrow.Author.Tests.{le-leb, lt-leb}
use Rattle.live.proofs.LiveLaws.{ended_says}
use borrow.Author.Rules.{rules}
use Rattle.live.proofs.live.is_live_past.Goals as goal

pub returns-then-birth_of-t : goal.returns-then-birth_of-t
returns-then-birth_of-t c =
    let a = c.args in
    rw (← c.birth_of.ensures, le-leb _ _ c.if-birth_of-t.true)
    (ap (λ (n : ℕ). ltb n a.life) (search rules) ∙ ended_says a.life a.t)

pub returns-else-birth_of-t : goal.returns-else-birth_of-t
returns-else-birth_of-t c = rw (← c.birth_of.ensures, lt-leb _ _ c.if-birth_of-t.false)
