use mathlib.Core.Path.{◌∙◌}
use Rattle.turn_input.proofs.BufferLaws.{rest_moved}
use Rattle.turn_input.proofs.input.keep_rest.Goals as goal

pub returns : goal.returns
returns c =
    let a = c.args in
    c.copy_within.ensures.after ∙ rest_moved a.buffer.now a.taken a.end c.requires.taken_le_end c.requires.end_in_bounds
