use Rattle.firmware.proofs.ExportedLaws.{told}
use borrow.Author.Rules.{rules}
use Rattle.firmware.proofs.lookups.nimbleshale_lookup_starts.Goals as goal

pub returns : goal.returns
returns c = search (told, rules)
