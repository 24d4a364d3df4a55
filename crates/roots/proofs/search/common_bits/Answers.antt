use native.Mathlib.Omega.{arith}
use Rattle.roots.proofs.RootSearch.{common_more}
use Rattle.roots.proofs.search.common_bits.Goals as goal

pub loop-entry-preserved : goal.loop-entry-preserved
loop-entry-preserved c =
    let l = c.loop-entry in
    common_more c.args.block.now l.entry-index l.common c.root_birth-common.result l.invariant c.root_birth-common.ensures

pub returns : goal.returns
returns c = λ i h. c.loop-entry.invariant i (omega (arith, h))
