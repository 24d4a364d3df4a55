use Rattle.c_heads.proofs.HeadNumbers.{four_set}
use Rattle.c_heads.proofs.head_written.write_pass.Goals as goal

pub returns : goal.returns
returns c =
    let a = c.args in
    four_set a.numbers.now a.at a.pass.number a.pass.key a.pass.weight a.pass.start c.requires
