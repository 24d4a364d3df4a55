use Rattle.std.proofs.Common.{◌+◌, ◌*◌, ◌≤◌, length, refl, arith}
use Rattle.std.proofs.lemmas.Result.{err_from_is_err_and}
use Rattle.store.specs.Lending.{words_of, store_with}
use Rattle.command.specs.Stream.{longest_answer}
use Rattle.turns.proofs.TurnLaws.{turned_on, waits_short, cut_turn}
use Rattle.turns.proofs.turn.turn.Goals as goal

pub returns-in_err-write_front-clause-cut_short : goal.returns-in_err-write_front-clause-cut_short
returns-in_err-write_front-clause-cut_short g c =
    let a = c.args in
    let s = store_with a.head (words_of a.starts.now) (words_of a.ends.now) (words_of a.time.now) in
    let read = c.in_ok-came.ensures in
    let p = err_from_is_err_and c.from_residual-in_err-write_front.result c.from_residual-in_err-write_front.ensures.1 in
    rw p.1 (cut_turn s (length a.out.now) a.buffer.now a.waiting c.read_behind.new.buffer c.in_ok-came.came read.buffer_unchanged read.result_in_bounds c.run_front-fed.ensures.fed)

pub returns-clause-moves : goal.returns-clause-moves
returns-clause-moves g c =
    let a = c.args in
    let s = store_with a.head (words_of a.starts.now) (words_of a.ends.now) (words_of a.time.now) in
    let read = c.in_ok-came.ensures in
    let roomy : 2 * length c.read_behind.new.buffer + longest_answer ≤ length a.out.now = omega (arith, read.same_length, c.requires.longest_answer_in_bounds) in
    turned_on s (length a.out.now) a.buffer.now a.waiting c.read_behind.new.buffer c.in_ok-came.came read.buffer_unchanged read.result_in_bounds c.run_front-fed.ensures.fed c.keep_rest.ensures refl roomy
    read.read_once.0 c.in_ok-write_front.ensures

pub returns-clause-turned : goal.returns-clause-turned
returns-clause-turned g c = (returns-clause-moves g c).turned

pub returns-clause-waiting_le_most_waiting_2 : goal.returns-clause-waiting_le_most_waiting_2
returns-clause-waiting_le_most_waiting_2 g c =
    let a = c.args in
    let s = store_with a.head (words_of a.starts.now) (words_of a.ends.now) (words_of a.time.now) in
    let read = c.in_ok-came.ensures in
    let roomy : 2 * length c.read_behind.new.buffer + longest_answer ≤ length a.out.now = omega (arith, read.same_length, c.requires.longest_answer_in_bounds) in
    waits_short s (length a.out.now) a.buffer.now a.waiting c.read_behind.new.buffer c.in_ok-came.came read.buffer_unchanged read.result_in_bounds c.run_front-fed.ensures.fed c.keep_rest.ensures refl roomy
