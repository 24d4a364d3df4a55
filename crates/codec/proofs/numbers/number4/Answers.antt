use native.Mathlib.Omega.{arith}
use Rattle.codec.proofs.ByteLaws.{spell4}
use Rattle.codec.proofs.numbers.number4.Goals as goal

pub returns : goal.returns
returns c =
    let a = c.args in
    omega (arith, c.from_le_bytes.ensures, spell4 a.bytes.now a.from c.requires)
