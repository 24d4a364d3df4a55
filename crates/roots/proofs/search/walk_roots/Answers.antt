use Prim.Native.Nat.{◌≤◌, ◌<◌}
use native.Mathlib.Omega.{arith}
use mathlib.Core.Path.{◌≡◌, ap, sym, ◌∙◌}
use borrow.Author.Rules.{rules}
use lib.ListN.{take}
use Rattle.words.specs.Words.{root_birth}
use Rattle.tree.specs.Tree.{root_for}
use Rattle.std.specs.Prelude.{Some}
use Rattle.roots.proofs.RootSearch.{root_empty, root_last_hit, root_last_miss}
use Rattle.roots.proofs.search.walk_roots.Goals as goal

pub loop-entry-init : goal.loop-entry-init
loop-entry-init c =
    let a = c.args in
    let all : c.into_iter-entry-iterator.result.iter.rest.now ≡ take a.used a.roots.now = search rules in
    ap (root_for a.t) all

pub returns-then-root_birth-t : goal.returns-then-root_birth-t
returns-then-root_birth-t c =
    let a = c.args in
    let born : root_birth c.in-Some.entry.now ≤ a.t = omega (arith, c.root_birth.ensures, c.if-root_birth-t.true) in
    let step = c.in-Some.ensures.steps in
    ap Some c.root_page.ensures ∙ sym (root_last_hit a.t c.next.new.self.iter.rest.now c.in-Some.entry.now born) ∙ ap (root_for a.t) (sym step) ∙ c.loop-entry.invariant

pub loop-entry-preserved : goal.loop-entry-preserved
loop-entry-preserved c =
    let a = c.args in
    let later : a.t < root_birth c.in-Some.entry.now = omega (arith, c.root_birth.ensures, c.if-root_birth-t.false) in
    let step = c.in-Some.ensures.steps in
    sym (root_last_miss a.t c.next.new.self.iter.rest.now c.in-Some.entry.now later) ∙ ap (root_for a.t) (sym step) ∙ c.loop-entry.invariant

pub returns : goal.returns
returns c = sym (root_empty c.args.t c.loop-entry.entry-iterator.iter.rest.now c.in-None.ensures.steps.0) ∙ c.loop-entry.invariant
