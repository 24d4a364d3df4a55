use Rattle.rows.proofs.row.row_at.Goals as goal

pub returns : goal.returns
returns c = cc
