use mathlib.Core.Path.{sym}
use Rattle.tree.proofs.UseLaws.{in_use_is}
use Rattle.rows.proofs.table.in_use.Goals as goal

pub returns : goal.returns
returns c = sym (in_use_is _ _)
