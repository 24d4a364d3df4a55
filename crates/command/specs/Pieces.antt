-- The stream in pieces: what firmware or the program hands over is as much of the input as has come, and so much room for answers.
use Rattle.std.specs.Prelude.{ℕ, zero, suc, ◌+◌, ◌-◌, min, ◌≡◌, List, [], ◌∷◌, ◌++◌, Bool, true, false, cond, not, ◌&&◌, ◌||◌, length, drop, ltb}
use Rattle.store.specs.Trees.{Store}
use Rattle.command.specs.Stream.{kind_of, operand_bytes, longest_answer, Ran, run_one, program_store}

-- What a piece comes to: how many of its bytes are taken, what is written, what is left, and whether the run is over
pub record Fed : Type 0 where
  pub taken : ℕ
  pub output : List ℕ
  pub store : Store
  pub over : Bool

abbrev pub takes_nothing : Store → Bool → Fed
takes_nothing s over = record { taken = 0; output = []; store = s; over = over }

-- So many bytes taken and these written, then what the rest of the piece comes to
abbrev pub followed : ℕ → List ℕ → Fed → Fed
followed taken output f = record { taken = taken + f.taken; output = output ++ f.output; store = f.store; over = f.over }

-- A command byte and what has come of its operands
abbrev pub command_length : ℕ → List ℕ → ℕ
command_length byte bytes = suc (min (operand_bytes (kind_of byte)) (length bytes))

-- Some of its operands have not come. "7 command cut short" is said of it only where the input has ended
abbrev pub is_unfinished : ℕ → List ℕ → Bool
is_unfinished byte bytes = ltb (length bytes) (operand_bytes (kind_of byte))

-- A command waits where an answer might not have room, and while operands of it may still come
abbrev pub must_wait : (room : ℕ) (ended : Bool) → ℕ → List ℕ → Bool
must_wait room ended byte bytes = ltb room longest_answer || (not ended && is_unfinished byte bytes)

-- "After 6 or 7 nothing more is read."
abbrev pub over_after : Ran → Fed
over_after r = takes_nothing r.store true

-- A command that ran, then the rest of the piece
abbrev pub then_piece : (Ran → Fed) → ℕ → Ran → Fed
then_piece onward taken r = followed taken r.output (cond r.on (onward r) (over_after r))

-- As many commands as the piece and the room allow. "Input that ends between commands ends the run, with nothing written."
-- The first number bounds the commands, as in run_for.
unfoldable pub run_piece_for : ℕ → (room : ℕ) (ended : Bool) → Store → List ℕ → Fed
run_piece_for zero room ended s bytes = takes_nothing s ended
run_piece_for (suc n) room ended s [] = takes_nothing s ended
run_piece_for (suc n) room ended s (b ∷ bytes) =
    cond (must_wait room ended b bytes) (takes_nothing s false)
    (then_piece (λ (r : Ran). run_piece_for n (room - length r.output) ended r.store (drop (operand_bytes (kind_of b)) bytes)) (command_length b bytes) (run_one s b bytes))

abbrev pub run_piece : (room : ℕ) (ended : Bool) → Store → List ℕ → Fed
run_piece room ended s bytes = run_piece_for (length bytes) room ended s bytes

-- One call: the bytes that came since the last one, the room for answers, and whether the input ends with these bytes
pub record Piece : Type 0 where
  pub bytes : List ℕ
  pub room : ℕ
  pub ended : Bool

-- Between two calls: the store, the bytes that were handed over and not taken, and whether the run is over
pub record Feed : Type 0 where
  pub store : Store
  pub waiting : List ℕ
  pub over : Bool

-- The program's, before the first byte
abbrev pub program_feed : Feed
program_feed = record { store = program_store; waiting = []; over = false }

-- What was not taken is handed over again, with what came since behind it
abbrev pub handed_over : Feed → Piece → List ℕ
handed_over f p = f.waiting ++ p.bytes

abbrev pub fed_with : Feed → Piece → Fed
fed_with f p = cond f.over (takes_nothing f.store true) (run_piece p.room p.ended f.store (handed_over f p))

abbrev pub feed_after : Feed → Piece → Feed
feed_after f p = record { store = (fed_with f p).store; waiting = drop (fed_with f p).taken (handed_over f p); over = (fed_with f p).over }

-- Any number of calls: what is left after them, and what they write
unfoldable pub feed_all : Feed → List Piece → Feed
feed_all f [] = f
feed_all f (p ∷ pieces) = feed_all (feed_after f p) pieces

unfoldable pub written_all : Feed → List Piece → List ℕ
written_all f [] = []
written_all f (p ∷ pieces) = (fed_with f p).output ++ written_all (feed_after f p) pieces

-- The input that pieces are of
unfoldable pub input_of : List Piece → List ℕ
input_of [] = []
input_of (p ∷ pieces) = p.bytes ++ input_of pieces

-- No byte comes after the input's end
unfoldable pub EndsOnce : List Piece → Type 0
EndsOnce [] = Unit {0}
EndsOnce (p ∷ pieces) = (p.ended ≡ true → input_of pieces ≡ []) × EndsOnce pieces
