use borrow.Author.Tests.{le-leb, lt-leb}
use native.Mathlib.Omega.{arith}
use Rattle.rows.proofs.row.is_live.Goals as goal

pub returns-then-birth_of-t : goal.returns-then-birth_of-t
returns-then-birth_of-t c =
    rw (
      ← c.birth_of.ensures,
      ← c.end_of.ensures,
      le-leb c.birth_of.result c.args.t (omega (arith, c.if-birth_of-t.true)),
    )

pub returns-else-birth_of-t : goal.returns-else-birth_of-t
returns-else-birth_of-t c =
    rw (← c.birth_of.ensures, lt-leb c.birth_of.result c.args.t (omega (arith, c.if-birth_of-t.false)))
