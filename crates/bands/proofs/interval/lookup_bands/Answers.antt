use native.Mathlib.Omega.{arith}
use mathlib.Core.Path.{◌∙◌}
use Rattle.tree.specs.Tree.{Tree}
use Rattle.tree.specs.Taking.{tree_with}
use Rattle.bands.proofs.FewerRoots.{walked_same}
use Rattle.bands.proofs.interval.lookup_bands.Goals as goal

pub returns-then-t1-eq0 : goal.returns-then-t1-eq0
returns-then-t1-eq0 c =
    let a = c.args in
    let tree : Tree = tree_with a.tree a.roots.now in
    let left = c.skip_later-entries in
    let same = walked_same tree left.result a.band.k1 a.band.k2 a.t1 a.t2 (omega arith) left.ensures.by_index in
    record {
      until_value = c.lookup_in_turn.ensures.until_value ∙ same.0;
      before_value = c.lookup_in_turn.ensures.before_value ∙ same.1;
    }

pub returns : goal.returns
returns c =
    let a = c.args in
    let tree : Tree = tree_with a.tree a.roots.now in
    let left = c.skip_later-entries in
    let same = walked_same tree left.result a.band.k1 a.band.k2 a.t1 a.t2 (omega arith) left.ensures.by_index in
    record {
      until_value = c.lookup_together.ensures.until_value ∙ same.0;
      before_value = c.lookup_together.ensures.before_value ∙ same.1;
    }
