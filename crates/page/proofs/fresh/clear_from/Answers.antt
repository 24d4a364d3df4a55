use Prim.Native.Nat.{ℕ, ◌-◌}
use native.Mathlib.Omega.{arith}
use mathlib.Core.Path.{ap, ◌∙◌}
use lib.ListN.{length, replicate}
use borrow.Rule.Slice.PartMut.{mid_len}
use Rattle.words.proofs.OverwriteLaws.{put_part}
use Rattle.tree.specs.Fresh.{zeros}
use Rattle.page.proofs.FreshLaws.{zeros_length}
use Rattle.page.proofs.fresh.clear_from.Goals as goal

pub returns : goal.returns
unfolding zeros
returns c =
    let a = c.args in
    let words = a.words.now in
    let left : ℕ = length words - a.from in
    put_part words a.from (length words) (zeros left) c.requires (omega (arith, zeros_length left))
    (c.fill.ensures.after (λ y e. e) ∙ ap (λ (n : ℕ). replicate n 0) (mid_len a.from (length words) words (omega arith)))
