use mathlib.Core.Path.{◌≡◌, sym, ◌∙◌}
use mathlib.Core.Bool.{true}
use Rattle.tree.specs.PageTest.{header_fits}
use Rattle.live.proofs.LiveReadings.{tested_says}
use Rattle.live.proofs.test.list_tested.Goals as goal

pub returns-then-tiles : goal.returns-then-tiles
returns-then-tiles c =
    let a = c.args in
    let e = a.expected in
    let fits : header_fits e.level e.low e.high a.page.now ≡ true = sym c.header_fits.ensures ∙ c.if-header_fits.true in
    (sym (tested_says a.t e.level e.low e.high a.page.now _ _ e.low_lt_high fits _ c.list_live-count.ensures) ∙ sym c.tiles.ensures ∙ c.if-tiles.true, c.list_live-count.ensures)

pub returns-else-tiles : goal.returns-else-tiles
returns-else-tiles c =
    let a = c.args in
    let e = a.expected in
    let fits : header_fits e.level e.low e.high a.page.now ≡ true = sym c.header_fits.ensures ∙ c.if-header_fits.true in
    sym (tested_says a.t e.level e.low e.high a.page.now _ _ e.low_lt_high fits _ c.list_live-count.ensures) ∙ sym c.tiles.ensures ∙ c.if-tiles.false
