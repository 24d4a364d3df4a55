use mathlib.Core.Path.{sym}
use Rattle.command.specs.Stream.{end_command}
use Rattle.command.proofs.KindLaws.{cut_short}
use Rattle.events.proofs.ReadLaws.{end_read}
use Rattle.events.proofs.reading.read_end.Goals as goal

pub returns-then-operands-lt8 : goal.returns-then-operands-lt8
returns-then-operands-lt8 c = λ s. sym (cut_short s c.args.operands.now 8 end_command c.if-operands-lt8.true)

pub returns : goal.returns
returns c = λ s.
    end_read s c.args.operands.now c.if-operands-lt8.false c.number4.ensures c.number4-2.ensures
