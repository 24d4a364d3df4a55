use Rattle.rows.proofs.row.gained_row.Goals as goal

pub returns : goal.returns
returns c = cc
