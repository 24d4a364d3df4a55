use mathlib.Core.Path.{◌∙◌}
use Rattle.live.proofs.LiveReadings.{opened_fits, opened_held}
use Rattle.live.proofs.held.read_page.Goals as goal

pub held_tested-requires : goal.held_tested-requires
held_tested-requires c =
    let a = c.args in
    opened_fits a.tree a.t a.expected _ _ _ c.open_page-tested.ensures

pub returns : goal.returns
returns c =
    let a = c.args in
    c.held_tested.ensures ∙ opened_held a.tree a.t a.expected _ _ a.k _ c.open_page-tested.ensures
