use mathlib.Core.Path.{◌≡◌, ap, sym, ◌∙◌}
use Prim.Native.Nat.{ℕ}
use lib.ListN.{length, take}
use native.Mathlib.Omega.{arith}
use Rattle.tree.proofs.Lists.{length_mapped}
use Rattle.store.specs.Head.{open_limit, no_pass, find_pass}
use Rattle.open_passes.proofs.FindLaws.{find_here, find_next, find_none, take_listed}
use borrow.Author.Rules.{rules}
use Rattle.open_passes.proofs.passes.find_pass.Goals as goal

pub loop-place-init : goal.loop-place-init
loop-place-init c = let h = c.args.head in
    let full : length h.passes ≡ open_limit = search (rules, length_mapped) in
    ap (λ (n : ℕ). find_pass c.args.number 0 (take n h.passes)) c.listed-count.ensures ∙ ap (find_pass c.args.number 0) (take_listed h.passes h.count full)

pub returns-then-pass-number : goal.returns-then-pass-number
returns-then-pass-number c = sym (find_here _ _ c.loop-place.place no_pass c.loop-place-test.true c.if-pass-number.true) ∙ c.loop-place.invariant

pub loop-place-preserved : goal.loop-place-preserved
loop-place-preserved c = sym (find_next _ _ c.loop-place.place no_pass c.loop-place-test.true c.if-pass-number.false) ∙ c.loop-place.invariant

pub returns : goal.returns
returns c = sym (find_none _ c.args.number c.loop-place.place (omega arith)) ∙ c.loop-place.invariant
