use Rattle.std.proofs.Common.{List, ℕ, length, take, arith}
use lib.Seq.{length-take-le}
use Rattle.store.specs.Lending.{words_of, store_with}
use Rattle.command.proofs.PieceReadings.{takes_inside, writes_inside}
use Rattle.turns.proofs.turn.run_front.Goals as goal

pub returns-clause-taken_le_count : goal.returns-clause-taken_le_count
returns-clause-taken_le_count c =
    let a = c.args in
    let s = store_with a.head (words_of a.starts.now) (words_of a.ends.now) (words_of a.time.now) in
    let front : List ℕ = take a.count a.buffer.now in
    omega (arith, c.run_piece.ensures.fed.taken, takes_inside (length a.out.now) a.ended s front, length-take-le a.count a.buffer.now c.requires)

pub returns-clause-written_in_bounds : goal.returns-clause-written_in_bounds
returns-clause-written_in_bounds c =
    let a = c.args in
    let s = store_with a.head (words_of a.starts.now) (words_of a.ends.now) (words_of a.time.now) in
    let front : List ℕ = take a.count a.buffer.now in
    omega (arith, c.run_piece.ensures.fed.size, writes_inside (length a.out.now) a.ended s front, c.run_piece.auto.out)
