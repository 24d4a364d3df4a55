use Rattle.firmware.proofs.ExportedLaws.{told}
use borrow.Author.Rules.{rules}
use Rattle.firmware.proofs.question.nimbleshale_question.Goals as goal

pub returns : goal.returns
returns c = search (told, rules)
