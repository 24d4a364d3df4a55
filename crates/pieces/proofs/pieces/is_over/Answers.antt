use Rattle.pieces.proofs.PieceRuns.{over_off, over_waiting, over_taken}
use Rattle.pieces.proofs.pieces.is_over.Goals as goal

pub returns-then-not-on : goal.returns-then-not-on
returns-then-not-on c = let a = c.args in over_off a.at a.count a.ended (c.if-not-on.true)

pub returns-then-at-count : goal.returns-then-at-count
returns-then-at-count c = let a = c.args in over_waiting a.at a.count a.ended (c.if-not-on.false) c.if-at-count.true

pub returns : goal.returns
returns c = let a = c.args in over_taken a.at a.count a.ended (c.if-not-on.false) c.if-at-count.false
