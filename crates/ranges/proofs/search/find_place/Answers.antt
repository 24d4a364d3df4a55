use Prim.Native.Nat.{◌%◌, ◌<◌}
use native.Mathlib.Omega.{arith}
use borrow.Author.Tests.{le-leb, lt-leb}
use Rattle.ranges.specs.Nearest.{no_range, least}
use Rattle.ranges.proofs.NearestLaws.{least_inside}
use Rattle.ranges.proofs.search.find_place.Goals as goal

pub returns-then-best-ge-NO_RANGE : goal.returns-then-best-ge-NO_RANGE
returns-then-best-ge-NO_RANGE c = rw (← c.least_candidate-best.ensures, le-leb _ _ c.if-best-ge-NO_RANGE.true)

pub bounds-places-best : goal.bounds-places-best
bounds-places-best c =
    let a = c.args in
    let best = c.least_candidate-best.ensures in
    let some : least a.from a.below a.above 0 a.ranges.now < no_range = omega (arith, best, c.if-best-ge-NO_RANGE.false) in
    omega (arith, best, least_inside a.from a.below a.above 0 a.ranges.now (omega arith) some)

pub overflow_cast-result-2 : goal.overflow_cast-result-2
overflow_cast-result-2 c = omega (arith, c.shared_slice_known-3-1.given (c.least_candidate-best.result % 256))

pub returns : goal.returns
returns c = rw (← c.least_candidate-best.ensures, lt-leb _ _ c.if-best-ge-NO_RANGE.false)
