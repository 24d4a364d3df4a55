use native.Mathlib.Omega.{arith}
use Rattle.roots.proofs.search.passes_block.Goals as goal

pub returns-then-t-common_bits : goal.returns-then-t-common_bits
returns-then-t-common_bits c = λ _ i h. omega (arith, c.if-t-common_bits.true, c.common_bits.ensures i h)

pub returns : goal.returns
returns c = c.all_later.ensures
