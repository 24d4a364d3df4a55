use Prim.Native.Nat.{◌+◌, ◌-◌}
use native.Mathlib.Omega.{arith}
use mathlib.Core.Path.{ap, sym, ◌∙◌}
use Rattle.words.specs.declared.value.Value.{Value}
use Rattle.tree.specs.Lookup.{found}
use Rattle.tree.specs.Tree.{Tree}
use Rattle.tree.specs.Taking.{tree_of_pages}
use Rattle.lookup.proofs.HeldRanges.{opened_wide}
use Rattle.lookup.proofs.LookupLaws.{way_leaf, way_down}
use Rattle.lookup.proofs.descent.descend_from.Goals as goal

pub loop-found-preserved : goal.loop-found-preserved
loop-found-preserved c =
    let a = c.args in
    let tree : Tree = tree_of_pages a.tree in
    let l = c.loop-found in (
      omega arith,
      opened_wide tree a.t a.k (l.level - 1) c.in_ok-found.found.row.low c.in_ok-found.found.row.high c.in_ok-found.found.row.child c.read_page-held.ensures,
      rw c.plus-total.ensures
          (sym (way_down tree a.t a.k l.total l.pages l.level c.if-level-eq0.false c.in_ok-found.was c.read_page-held.ensures) ∙ l.invariant.2),
    )

pub returns : goal.returns
returns c =
    let a = c.args in
    let tree : Tree = tree_of_pages a.tree in
    let l = c.loop-found in
    ap (λ (v : Value). found v (l.pages + 1)) c.plus-total.ensures
    ∙ sym (way_leaf tree a.t a.k l.total l.pages l.level c.if-level-eq0.true c.in_ok-found.was)
    ∙ l.invariant.2
