use mathlib.Core.Path.{sym}
use Rattle.tree.proofs.UseLaws.{taken_is}
use Rattle.split.proofs.split.taken_page.Goals as goal

pub returns : goal.returns
returns c = sym (taken_is _ _)
