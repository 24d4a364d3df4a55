use Prim.Native.Nat.{ℕ, ◌+◌, ◌-◌, ◌<◌}
use native.Mathlib.Omega.{arith}
use mathlib.Core.Path.{◌≡◌, refl, ap, sym, ◌∙◌}
use lib.ListN.{take, get_or}
use Rattle.words.specs.Words.{root_birth}
use Rattle.tree.specs.Tree.{root_for}
use Rattle.roots.proofs.RootSearch.{root_skip, block_entry}
use borrow.Author.Rules.{rules}
use Rattle.roots.proofs.search.skip_later.Goals as goal

pub loop-left-init : goal.loop-left-init
loop-left-init c = (search rules, search rules, λ u earlier. refl)

pub loop-left-preserved : goal.loop-left-preserved
loop-left-preserved c =
    let a = c.args in
    let l = c.loop-left in
    let whole : l.left - 32 + 32 ≡ l.left = omega arith in
    let born : (i : ℕ) → i < 32 → a.t < root_birth (get_or a.roots.now (l.left - 32 + i) 0) =
    λ i inside. rw (← block_entry a.roots.now (l.left - 32) l.left i (omega arith)) (c.passes_block.ensures (c.if-not-passes_block.false) i inside) in (
      omega (arith, l.invariant.0),
      l.invariant.1,
      λ u earlier.
          sym (root_skip a.roots.now u (l.left - 32) 32 (omega (arith, l.invariant.0, l.invariant.1)) (λ i inside. omega (arith, born i inside)))
          ∙ ap (λ (k : ℕ). root_for u (take k a.roots.now)) whole
          ∙ l.invariant.2 u earlier,
    )
