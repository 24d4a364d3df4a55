use mathlib.Core.Path.{◌∙◌}
use Rattle.live.proofs.LiveReadings.{opened_fits, opened_held}
use Rattle.live.proofs.held.read_page_for_two.Goals as goal

pub held_tested-lower-requires : goal.held_tested-lower-requires
held_tested-lower-requires c =
    let a = c.args in
    opened_fits a.tree a.t a.expected _ _ _ c.open_page-tested.ensures

pub held_tested-upper-requires : goal.held_tested-upper-requires
held_tested-upper-requires c =
    let a = c.args in
    opened_fits a.tree a.t a.expected _ _ _ c.open_page-tested.ensures

pub returns : goal.returns
returns c =
    let a = c.args in
    record {
      lower_value = c.held_tested-lower.ensures ∙ opened_held a.tree a.t a.expected _ _ a.lower_key _ c.open_page-tested.ensures;
      upper_value = c.held_tested-upper.ensures ∙ opened_held a.tree a.t a.expected _ _ a.upper_key _ c.open_page-tested.ensures;
    }
