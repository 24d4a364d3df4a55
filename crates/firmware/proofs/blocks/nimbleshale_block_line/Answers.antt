use mathlib.Core.Path.{ap, ◌∙◌}
use mathlib.Core.Bool.{Bool, cond}
use Rattle.firmware.proofs.PacketLaws.{as_byte}
use borrow.Author.Rules.{rules}
use Rattle.firmware.proofs.blocks.nimbleshale_block_line.Goals as goal

pub returns : goal.returns
returns c = as_byte c.line_high.result ∙ ap (λ (x : Bool). cond x 1 0) c.line_high.ensures
