use mathlib.Core.Path.{◌∙◌}
use Rattle.tree.specs.Taking.{tree_with}
use Rattle.lookup.proofs.LookupLaws.{root_found}
use Rattle.lookup.proofs.descent.lookup.Goals as goal

pub returns : goal.returns
returns c =
    let a = c.args in
    c.lookup_at.ensures
    ∙ root_found (tree_with a.tree a.roots.now) a.t a.k c.find_root-root.result c.find_root-root.ensures
