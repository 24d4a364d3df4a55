use Prim.Native.Nat.{◌+◌, ◌-◌}
use native.Mathlib.Omega.{arith}
use mathlib.Core.Path.{◌≡◌, sym, ◌∙◌}
use lib.ListN.{length}
use borrow.Rule.Slice.PartMut.{mid_of, mid_len}
use Rattle.words.proofs.OverwriteLaws.{put_part}
use Rattle.codec.specs.Bytes.{bytes_of}
use Rattle.codec.proofs.ByteLaws.{bytes_length, byte_written, all_written}
use Rattle.codec.proofs.numbers.put_number.Goals as goal

pub loop-byte-preserved : goal.loop-byte-preserved
loop-byte-preserved c =
    let a = c.args in
    let l = c.loop-byte in
    let long = mid_len a.from (a.from + a.count) a.out.now c.requires in
    byte_written l.byte-items l.byte-index a.count l.rest (omega arith) (omega arith) ∙ l.invariant

pub returns : goal.returns
returns c =
    let a = c.args in
    let l = c.loop-byte in
    let long : length (mid_of a.from (a.from + a.count - a.from) a.out.now) ≡ a.count = mid_len a.from (a.from + a.count) a.out.now c.requires ∙ omega arith in
    put_part a.out.now a.from (a.from + a.count) (bytes_of a.count a.number) (omega arith) (omega (arith, bytes_length a.count a.number))
    (sym (all_written l.byte-items l.byte-index a.count l.rest (omega arith) (omega arith)) ∙ l.invariant)
