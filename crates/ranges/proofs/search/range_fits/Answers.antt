use native.Mathlib.Omega.{arith}
use mathlib.Core.Path.{◌≡◌}
use mathlib.Core.Bool.{true}
use lib.Dec.{leb, ltb}
use borrow.Author.Tests.{le-leb, lt-leb, lt-ltb, le-ltb}
use Rattle.ranges.specs.KeyRanges.{range_low}
use Rattle.ranges.proofs.search.range_fits.Goals as goal

pub returns-then-range_low-from : goal.returns-then-range_low-from
returns-then-range_low-from c =
    let a = c.args in
    rw (← c.range_low.ensures, lt-leb a.from c.range_low.result (omega (arith, c.if-range_low-from.true)))

pub returns-then-below-range_low : goal.returns-then-below-range_low
returns-then-below-range_low c =
    let a = c.args in
    let starts : leb a.from (range_low a.range) ≡ true = rw (← c.range_low.ensures) (le-leb _ _ c.if-range_low-from.false) in
    rw (starts, ← c.range_low-2.ensures, le-ltb _ _ c.if-below-range_low.true)

pub returns : goal.returns
returns c =
    let a = c.args in
    let starts : leb a.from (range_low a.range) ≡ true = rw (← c.range_low.ensures) (le-leb _ _ c.if-range_low-from.false) in
    let stays : ltb (range_low a.range) a.below ≡ true = rw (← c.range_low-2.ensures) (lt-ltb _ _ c.if-below-range_low.false) in
    rw (starts, stays, c.range_high.ensures)
