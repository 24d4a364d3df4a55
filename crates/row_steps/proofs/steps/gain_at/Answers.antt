use Rattle.row_steps.proofs.steps.gain_at.Goals as goal

pub returns : goal.returns
returns c = rw (c.replace_row.ensures, c.gained_row.ensures, c.row_at-old.ensures)
