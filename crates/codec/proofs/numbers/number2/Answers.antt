use native.Mathlib.Omega.{arith}
use Rattle.codec.proofs.ByteLaws.{spell2}
use Rattle.codec.proofs.numbers.number2.Goals as goal

pub returns : goal.returns
returns c =
    let a = c.args in
    omega (arith, c.from.ensures, c.from_le_bytes.ensures, spell2 a.bytes.now a.from c.requires)
