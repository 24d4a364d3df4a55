use Prim.Native.Nat.{◌+◌}
use native.Mathlib.Omega.{arith}
use mathlib.Core.Path.{ap, ◌∙◌}
use Rattle.words.specs.Words.{key_limit}
use Rattle.tree.specs.Limits.{most_made}
use Rattle.tree.specs.Tree.{Tree, last_root}
use Rattle.tree.specs.Taking.{tree_with}
use Rattle.plan.proofs.PlanBounds.{plan_within}
use Rattle.plan.proofs.PlanRoot.{plan_end, no_top_plan, low_top, some_last, opened_plan}
use Rattle.std.proofs.lemmas.Result.{err_from_is_err_and}
use borrow.Author.Rules.{rules}
use Rattle.plan.proofs.planning.plan.Goals as goal

pub returns-in_err-top : goal.returns-in_err-top
returns-in_err-top c =
    let a = c.args in
    let p = err_from_is_err_and c.from_residual.result c.from_residual.ensures.1 in
    let tree : Tree = tree_with a.tree a.roots.now in
    λ v. rw p.1 (no_top_plan tree a.t c.find_root-root.ensures c.in_err-top.ensures a.k v)

pub plan_from-requires : goal.plan_from-requires
plan_from-requires c =
    let a = c.args in
    low_top (tree_with a.tree a.roots.now) a.t c.find_root-root.ensures c.in_ok-top.ensures

pub returns-in_err-planned : goal.returns-in_err-planned
returns-in_err-planned c =
    let a = c.args in
    let tree : Tree = tree_with a.tree a.roots.now in
    let p = err_from_is_err_and c.from_residual-in_err-planned.result c.from_residual-in_err-planned.ensures.1 in
    λ v. rw p.1 (ap (plan_end _ (last_root tree) a.t) c.in_err-planned.ensures ∙ opened_plan tree a.t c.find_root-root.ensures c.in_ok-top.ensures (search rules) a.k v)

pub overflow_sub-last : goal.overflow_sub-last
overflow_sub-last c =
    let a = c.args in
    let some = some_last (tree_with a.tree a.roots.now) a.t c.find_root-root.ensures c.in_ok-top.ensures in
    omega arith

pub bounds-roots-tree : goal.bounds-roots-tree
bounds-roots-tree c =
    let a = c.args in
    let some = some_last (tree_with a.tree a.roots.now) a.t c.find_root-root.ensures c.in_ok-top.ensures in
    omega arith

pub plan_top-requires : goal.plan_top-requires
plan_top-requires c =
    let a = c.args in
    let low = low_top (tree_with a.tree a.roots.now) a.t c.find_root-root.ensures c.in_ok-top.ensures in
    (plan_within a.tree.table.now a.tree.used a.t a.k (most_made + 1) _ 0 key_limit _ (omega (arith, low)) c.in_ok-planned.ensures).0

pub returns : goal.returns
returns c =
    let a = c.args in
    let tree : Tree = tree_with a.tree a.roots.now in
    λ v. c.plan_top.ensures ∙ ap (plan_end _ (last_root tree) a.t) c.in_ok-planned.ensures ∙ opened_plan tree a.t c.find_root-root.ensures c.in_ok-top.ensures (search rules) a.k v
