use Prim.Native.Nat.{◌+◌}
use native.Mathlib.Omega.{arith}
use lib.ListN.{length}
use Rattle.words.proofs.OverwriteLaws.{put_part}
use Rattle.codec.proofs.numbers.put_bytes.Goals as goal

pub returns : goal.returns
returns c =
    let a = c.args in
    put_part a.out.now a.from (a.from + length a.bytes.now) a.bytes.now (omega arith) (omega arith) c.copy_from_slice.ensures.after
