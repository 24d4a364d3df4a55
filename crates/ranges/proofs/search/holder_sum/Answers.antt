use native.Mathlib.Omega.{arith}
use lib.ListN.{get_or}
use Rattle.ranges.specs.Nearest.{holder_sum}
use Rattle.ranges.proofs.HolderLaws.{holder_small, holders_on, holders_done}
use Rattle.ranges.proofs.search.holder_sum.Goals as goal

pub overflow_add-sum : goal.overflow_add-sum
overflow_add-sum c =
    let a = c.args in
    let l = c.loop-at in
    omega (arith, holder_small a.key l.at (get_or a.ranges.now l.at 0) (omega arith), c.holder-sum.ensures, l.invariant.0)

pub loop-at-preserved : goal.loop-at-preserved
loop-at-preserved c =
    let a = c.args in
    let l = c.loop-at in (
      omega (arith, holder_small a.key l.at (get_or a.ranges.now l.at 0) (omega arith), c.holder-sum.ensures, l.invariant.0),
      rw c.holder-sum.ensures (holders_on a.key a.ranges.now l.at l.sum (holder_sum a.key 0 a.ranges.now) (omega arith) l.invariant.1),
    )

pub returns : goal.returns
returns c =
    let a = c.args in
    let l = c.loop-at in
    holders_done a.key a.ranges.now l.at l.sum (holder_sum a.key 0 a.ranges.now) (omega arith) l.invariant.1
