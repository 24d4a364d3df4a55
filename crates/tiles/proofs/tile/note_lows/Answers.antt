use Prim.Native.Nat.{ℕ, ◌%◌}
use native.Mathlib.Omega.{arith}
use mathlib.Core.Path.{◌≡◌}
use mathlib.Core.Bool.{true}
use Rattle.tree.proofs.Lists.{all_set}
use Rattle.tiles.specs.TileTest.{slots, may_stop}
use Rattle.tiles.proofs.NoteLaws.{all_same, low_may_stop, high_may_stop}
use borrow.Author.Rules.{rules}
use Rattle.tiles.proofs.tile.note_lows.Goals as goal

pub loop-range-init : goal.loop-range-init
loop-range-init c =
    let a = c.args in
    all_same (λ (q : ℕ). may_stop a.high a.ranges.now q ≡ true) slots a.high (high_may_stop a.high a.ranges.now)

pub loop-range-preserved : goal.loop-range-preserved
loop-range-preserved c =
    let a = c.args in
    let l = c.loop-range in
    let low = low_may_stop a.ranges.now l.range-index (omega arith) (search rules) a.high in
    all_set (λ (q : ℕ). may_stop a.high a.ranges.now q ≡ true) l.noted (c.range_low-low.result % slots) c.range_low-low.result
    (rw c.range_low-low.ensures low) l.invariant
