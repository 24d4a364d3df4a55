use native.Mathlib.Omega.{arith}
use mathlib.Core.Path.{sym, ◌∙◌}
use Rattle.tiles.specs.TileTest.{stops_well}
use Rattle.tiles.proofs.TileLaws.{every_on, every_stop, every_none}
use Rattle.tiles.proofs.tile.each_goes_on.Goals as goal

pub returns-then-not-stop_goes_on : goal.returns-then-not-stop_goes_on
returns-then-not-stop_goes_on c =
    let a = c.args in
    let l = c.loop-range in
    let stop = every_stop (stops_well a.low a.high a.ranges.now) a.ranges.now l.range-index (omega arith)
    (rw (← c.range_high.ensures) (sym c.stop_goes_on.ensures ∙ c.if-not-stop_goes_on.true)) in
    sym stop ∙ l.invariant

pub loop-range-preserved : goal.loop-range-preserved
loop-range-preserved c =
    let a = c.args in
    let l = c.loop-range in
    let on = every_on (stops_well a.low a.high a.ranges.now) a.ranges.now l.range-index (omega arith)
    (rw (← c.range_high.ensures) (sym c.stop_goes_on.ensures ∙ c.if-not-stop_goes_on.false)) in
    sym on ∙ l.invariant

pub returns : goal.returns
returns c =
    let a = c.args in
    let l = c.loop-range in
    sym (every_none (stops_well a.low a.high a.ranges.now) a.ranges.now l.range-index (omega arith)) ∙ l.invariant
