use Prim.Native.Nat.{◌≤◌, ◌<◌}
use native.Mathlib.Omega.{arith}
use lib.ListN.{get_or}
use borrow.Author.Tests.{eqb-true}
use Rattle.words.specs.Words.{root_birth}
use Rattle.roots.proofs.RootSearch.{counted_small, counted_later, later_more}
use Rattle.roots.proofs.search.all_later.Goals as goal

pub loop-entry-init : goal.loop-entry-init
loop-entry-init c = (omega arith, λ _ i h. absurd (omega (arith, h)))

pub overflow_add-later : goal.overflow_add-later
overflow_add-later c = omega (arith, counted_small _ c.from-later.result c.from-later.ensures)

pub loop-entry-preserved : goal.loop-entry-preserved
loop-entry-preserved c =
    let a = c.args in
    let l = c.loop-entry in
    let small = counted_small _ c.from-later.result c.from-later.ensures in
    let last : 1 ≤ c.from-later.result → a.t < root_birth (get_or a.block.now l.entry-index 0) = λ h. omega (arith, counted_later a.t c.root_birth.result c.from-later.result c.from-later.ensures h, c.root_birth.ensures) in
    (omega (arith, small), later_more a.block.now a.t l.entry-index l.later c.from-later.result l.invariant.0 l.invariant.1 small last)

pub returns : goal.returns
returns c = λ e i h.
    let all = eqb-true c.loop-entry.later 32 e in
    c.loop-entry.invariant.1 (omega arith) i (omega (arith, h))
