use native.Mathlib.Omega.{arith}
use mathlib.Core.Path.{refl, ◌∙◌}
use Rattle.tree.specs.Tree.{Tree}
use Rattle.tree.specs.Taking.{tree_of_pages}
use Rattle.lookup_two.proofs.TogetherLaws.{on_start, on_shared}
use borrow.Author.Rules.{rules}
use Rattle.lookup_two.proofs.together.descend_from_page.Goals as goal

pub loop-shared-init : goal.loop-shared-init
loop-shared-init c =
    let a = c.args in
    let tree : Tree = tree_of_pages a.tree in (
      search rules,
      on_start tree a.t a.keys.lower _ a.first.level a.first.low a.first.high a.first.page c.zero-lower_total.ensures c.read_page_for_two-held.ensures.lower_value refl,
      on_start tree a.t a.keys.upper _ a.first.level a.first.low a.first.high a.first.page c.zero-upper_total.ensures c.read_page_for_two-held.ensures.upper_value refl,
    )

pub loop-shared-preserved : goal.loop-shared-preserved
loop-shared-preserved c =
    let a = c.args in
    let tree : Tree = tree_of_pages a.tree in
    let l = c.loop-shared in
    let fork = c.in-Some.ensures in (
      omega arith,
      on_shared tree a.t a.keys.lower _ l.level c.in-Some.shared.row l.held.lower l.lower_total l.pages l.invariant.1 fork.0 fork.1 c.plus-lower_total.ensures c.read_page_for_two-held-in-loop-shared.ensures.lower_value,
      on_shared tree a.t a.keys.upper _ l.level c.in-Some.shared.row l.held.upper l.upper_total l.pages l.invariant.2 fork.0 fork.2 c.plus-upper_total.ensures c.read_page_for_two-held-in-loop-shared.ensures.upper_value,
    )

pub returns : goal.returns
returns c =
    let l = c.loop-shared in
    record {
      lower_value = c.descend_from.ensures ∙ l.invariant.1.1;
      upper_value = c.descend_from-in_default.ensures ∙ l.invariant.2.1;
    }
