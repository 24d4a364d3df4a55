use Rattle.firmware.proofs.ExportedLaws.{told}
use borrow.Author.Rules.{rules}
use Rattle.firmware.proofs.bat_time.nimbleshale_bat_time.Goals as goal

pub returns : goal.returns
returns c = search (told, rules)
