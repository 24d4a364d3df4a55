use Rattle.tree.specs.Taking.{tree_of_pages}
use Rattle.lookup_two.proofs.AheadLaws.{begins_at}
use Rattle.lookup_two.proofs.ticks.open_root.Goals as goal

pub returns-clause-begins : goal.returns-clause-begins
returns-clause-begins c =
    let a = c.args in
    begins_at (tree_of_pages a.tree) a.t a.keys.lower c.in-Ok.is c.read_page_for_two-held.ensures.lower_value

pub returns-clause-begins_2 : goal.returns-clause-begins_2
returns-clause-begins_2 c =
    let a = c.args in
    begins_at (tree_of_pages a.tree) a.t a.keys.upper c.in-Ok.is c.read_page_for_two-held.ensures.upper_value
