use Prim.Native.Nat.{◌+◌, ◌≤◌}
use Rattle.tree.specs.Tree.{Tree, top_level}
use Rattle.tree.specs.Taking.{tree_of_pages}
use Rattle.tree.specs.Lookup.{lookup_from}
use Rattle.lookup_two.proofs.TogetherLaws.{OnWay}
use Rattle.lookup_two.proofs.together.descend_from_page.Given as goal

-- The pages that both have and those to come are at most 4
abbrev pub invariant-loop-shared : goal.invariant-loop-shared
invariant-loop-shared l =
    let tree : Tree = tree_of_pages l.tree in
    (l.pages + l.level ≤ top_level)
    × OnWay tree l.t l.keys.lower (lookup_from tree l.t l.keys.lower l.fn.first.level l.fn.first.low l.fn.first.high l.fn.first.page) l.level l.held.lower l.lower_total l.pages
    × OnWay tree l.t l.keys.upper (lookup_from tree l.t l.keys.upper l.fn.first.level l.fn.first.low l.fn.first.high l.fn.first.page) l.level l.held.upper l.upper_total l.pages

abbrev pub decreases-loop-shared : goal.decreases-loop-shared
decreases-loop-shared l = l.level
