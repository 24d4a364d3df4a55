use mathlib.Core.Path.{◌≡◌, sym, ◌∙◌}
use mathlib.Core.Bool.{true, false}
use Rattle.ranges.specs.Nearest.{fits}
use Rattle.ranges.proofs.search.candidate.Goals as goal

pub returns-then-range_fits : goal.returns-then-range_fits
returns-then-range_fits c =
    let a = c.args in
    let good : fits a.from a.below a.above a.range ≡ true = sym c.range_fits.ensures ∙ c.if-range_fits.true in
    rw (good, c.range_low.ensures)

pub returns : goal.returns
returns c =
    let a = c.args in
    let bad : fits a.from a.below a.above a.range ≡ false = sym c.range_fits.ensures ∙ c.if-range_fits.false in
    rw bad
