use native.Mathlib.Omega.{arith}
use mathlib.Core.Path.{refl, ◌∙◌}
use lib.ListN.{length-set}
use Rattle.c_heads.specs.Heads.{field_numbers, passes_from}
use Rattle.c_heads.proofs.HeadNumbers.{read_more}
use borrow.Author.Rules.{rules}
use Rattle.c_heads.proofs.head_read.read_head.Goals as goal

pub loop-place-init : goal.loop-place-init
unfolding passes_from
loop-place-init c = (search rules, refl)

pub loop-place-preserved : goal.loop-place-preserved
loop-place-preserved c =
    let l = c.loop-place in
    let so_far = l.invariant in
    (length-set l.pass-items l.place _ ∙ so_far.0, rw c.read_pass.ensures (read_more c.args.numbers.now field_numbers l.pass-items l.place (omega arith) so_far.1))
