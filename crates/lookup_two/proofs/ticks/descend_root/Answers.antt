use Prim.Native.Nat.{◌-◌}
use native.Mathlib.Omega.{arith}
use mathlib.Core.Path.{◌∙◌}
use Rattle.tree.specs.Taking.{tree_of_pages}
use Rattle.lookup_two.proofs.AheadLaws.{alone, few_below}
use Rattle.lookup_two.proofs.ticks.descend_root.Goals as goal

pub returns-in_default-clause-lower_value : goal.returns-in_default-clause-lower_value
returns-in_default-clause-lower_value c =
    let a = c.args in
    c.descend_from.ensures ∙ alone (tree_of_pages a.tree) a.t a.keys.lower a.root.level a.root.held.lower c.zero-nothing.ensures

pub returns-in_default-clause-upper_value : goal.returns-in_default-clause-upper_value
returns-in_default-clause-upper_value c =
    let a = c.args in
    c.descend_from-in_default.ensures ∙ alone (tree_of_pages a.tree) a.t a.keys.upper a.root.level a.root.held.upper c.zero-nothing.ensures

pub add_page-requires : goal.add_page-requires
add_page-requires c =
    let a = c.args in
    let row = c.in-Some.shared.row in
    few_below (tree_of_pages a.tree) a.t a.keys.lower (a.root.level - 1) row.low row.high row.child
    (omega (arith, c.requires.level_le_top_level)) c.descend_from_page-below.ensures.lower_value

pub add_page-requires-2 : goal.add_page-requires-2
add_page-requires-2 c =
    let a = c.args in
    let row = c.in-Some.shared.row in
    few_below (tree_of_pages a.tree) a.t a.keys.upper (a.root.level - 1) row.low row.high row.child
    (omega (arith, c.requires.level_le_top_level)) c.descend_from_page-below.ensures.upper_value
