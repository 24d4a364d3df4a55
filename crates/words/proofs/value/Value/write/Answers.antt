use Rattle.std.proofs.Common.{add-one, arith}
use lib.Seq.{sets-eq}
use Rattle.words.specs.Overwrite.{overwrite}
use Rattle.words.specs.Value.{encode_value}
use Rattle.words.proofs.value.Value.write.Goals as goal

pub returns : goal.returns
unfolding overwrite
returns c =
    let a = c.args in
    rw (add-one) (sets-eq (encode_value a.self) a.words.now a.at (omega arith))
