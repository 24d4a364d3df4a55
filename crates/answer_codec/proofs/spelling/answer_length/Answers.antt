use Rattle.std.proofs.Common.{sym}
use Rattle.command.proofs.AnswerLengths.{started_length, totals_length, bat_time_length}
use Rattle.answer_codec.proofs.AnswerLaws.{one_byte}
use Rattle.answer_codec.proofs.spelling.answer_length.Goals as goal

pub returns-in-Started : goal.returns-in-Started
returns-in-Started c = rw c.in-Started.is (sym (started_length _))

pub returns-in-Totals : goal.returns-in-Totals
returns-in-Totals c = rw c.in-Totals.is (sym (totals_length _ _ _))

pub returns-in-BatTime : goal.returns-in-BatTime
returns-in-BatTime c = rw c.in-BatTime.is (sym (bat_time_length _ _))

pub returns-in_default : goal.returns-in_default
returns-in_default c = one_byte c.args.answer c.in_default.not-Started c.in_default.not-Totals c.in_default.not-BatTime
