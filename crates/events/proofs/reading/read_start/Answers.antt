use mathlib.Core.Path.{sym}
use Rattle.command.specs.Stream.{start_command}
use Rattle.command.proofs.KindLaws.{cut_short}
use Rattle.events.proofs.ReadLaws.{start_read}
use Rattle.events.proofs.reading.read_start.Goals as goal

pub returns-then-operands-lt8 : goal.returns-then-operands-lt8
returns-then-operands-lt8 c = λ s. sym (cut_short s c.args.operands.now 8 start_command c.if-operands-lt8.true)

pub returns : goal.returns
returns c = λ s.
    start_read s c.args.operands.now c.if-operands-lt8.false c.number4.ensures c.number2.ensures c.number2-2.ensures
