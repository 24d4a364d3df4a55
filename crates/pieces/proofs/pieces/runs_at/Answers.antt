use Prim.Native.Nat.{◌+◌, ◌-◌}
use native.Mathlib.Omega.{arith}
use lib.ListN.{length, drop, length-drop}
use lib.Seq.{take_all}
use Rattle.pieces.proofs.PieceRuns.{over_rests, none_rests, one_runs}
use Rattle.pieces.proofs.pieces.runs_at.Goals as goal

pub returns-then-not-on : goal.returns-then-not-on
returns-then-not-on c =
    let a = c.args in over_rests a.room a.ended a.input.now a.at (c.if-not-on.true)

pub returns-then-input-at : goal.returns-then-input-at
returns-then-input-at c =
    let a = c.args in none_rests a.room a.ended a.input.now a.at (c.if-not-on.false) c.if-input-at.true

pub returns : goal.returns
returns c =
    let a = c.args in
    let all = take_all (length a.input.now - (a.at + 1)) (drop (a.at + 1) a.input.now) (omega (arith, length-drop (a.at + 1) a.input.now)) in
    one_runs a.room a.ended a.input.now a.at (c.if-not-on.false) c.if-input-at.false all c.must_wait.ensures
