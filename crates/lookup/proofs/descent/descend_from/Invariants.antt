use Prim.Native.Nat.{◌+◌, ◌≤◌}
use mathlib.Core.Path.{◌≡◌}
use Rattle.tree.specs.Tree.{top_level}
use Rattle.tree.specs.Taking.{tree_of_pages}
use Rattle.lookup.specs.Descent.{onward, Wide, lookup_held}
use Rattle.lookup.proofs.descent.descend_from.Given as goal

-- What is left to add, put on the total and the pages so far, is the answer; the pages so far and those to come are at most 4
abbrev pub invariant-loop-found : goal.invariant-loop-found
invariant-loop-found l =
    (l.pages + l.level ≤ top_level)
    × Wide l.held
    × (onward l.total l.pages (lookup_held (tree_of_pages l.tree) l.t l.k l.level l.held)
    ≡ onward l.initial.total l.initial.pages (lookup_held (tree_of_pages l.tree) l.t l.k l.initial.level l.initial.held))

abbrev pub decreases-loop-found : goal.decreases-loop-found
decreases-loop-found l = l.level
