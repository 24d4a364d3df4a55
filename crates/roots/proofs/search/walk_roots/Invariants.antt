use mathlib.Core.Path.{◌≡◌}
use lib.ListN.{take}
use Rattle.tree.specs.Tree.{root_for}
use Rattle.roots.proofs.search.walk_roots.Given as goal

-- The root among the entries left is the root asked for
abbrev pub invariant-loop-entry : goal.invariant-loop-entry
invariant-loop-entry l = root_for l.t l.entry-iterator.iter.rest.now ≡ root_for l.t (take l.used l.roots)
