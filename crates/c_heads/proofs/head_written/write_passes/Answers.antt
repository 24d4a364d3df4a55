use native.Mathlib.Omega.{arith}
use lib.ListN.{take, length-take}
use Rattle.store.specs.Head.{no_pass}
use Rattle.c_heads.proofs.HeadNumbers.{write_none, write_more}
use borrow.Author.Rules.{rules}
use Rattle.c_heads.proofs.head_written.write_passes.Goals as goal

pub loop-place-init : goal.loop-place-init
loop-place-init c = write_none c.args.numbers.now c.args.head.passes

pub loop-place-preserved : goal.loop-place-preserved
loop-place-preserved c =
    let a = c.args in
    let l = c.loop-place in
    rw (c.write_pass.ensures, l.invariant)
    (write_more a.numbers.now (take a.places a.head.passes) (omega (arith, length-take a.places a.head.passes)) (search rules) no_pass l.place c.loop-place-test.true)
