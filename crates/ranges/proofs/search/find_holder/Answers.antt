use Prim.Native.Nat.{◌%◌}
use native.Mathlib.Omega.{arith}
use mathlib.Core.Path.{sym}
use Rattle.ranges.proofs.HolderLaws.{one_holder, holder_place}
use Rattle.ranges.proofs.search.find_holder.Goals as goal

pub bounds-places-sum : goal.bounds-places-sum
bounds-places-sum c =
    let a = c.args in
    let is = c.holder_sum-sum.ensures in
    omega (arith, is, (one_holder a.key 0 a.ranges.now (omega arith) (omega (arith, is, c.if-sum-eq1.true)) (omega (arith, is, c.if-sum-eq1.true))).2)

pub overflow_cast-result-then-sum-eq1 : goal.overflow_cast-result-then-sum-eq1
overflow_cast-result-then-sum-eq1 c = omega (arith, c.shared_slice_known-then-sum-eq1-1.given (c.holder_sum-sum.result % 256))

pub returns-then-sum-eq1 : goal.returns-then-sum-eq1
returns-then-sum-eq1 c =
    let a = c.args in
    let is = c.holder_sum-sum.ensures in
    rw is (sym (holder_place a.key a.ranges.now a.places.now (omega arith) (omega (arith, is, c.if-sum-eq1.true))))
