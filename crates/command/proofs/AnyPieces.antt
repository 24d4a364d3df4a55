-- Any pieces of an input, each run with any room for answers, write what the whole input writes.
use Prim.Native.Nat.{ℕ, ◌-◌, ◌≤◌}
use native.Mathlib.Omega.{arith}
use mathlib.Core.Path.{◌≡◌, refl, ap, sym, ◌∙◌}
use mathlib.Core.Bool.{Bool, true, false, cond}
use mathlib.Core.Logic.{◌⊎◌, inl, inr}
use mathlib.Core.List.{List, [], ◌∷◌, ◌++◌, append_assoc, append-nil}
use lib.ListN.{length, drop, length-drop}
use lib.Seq.{take-append-le, drop-append-le}
use lib.Dec.{ltb}
use borrow.Author.Tests.{ltb-false}
use Rattle.store.specs.Trees.{Store}
use Rattle.store.proofs.RefusalLaws.{or_false}
use Rattle.command.specs.Stream.{kind_of, operand_bytes, longest_answer, Ran, run_one, then_rest, run_for, run_all, output}
use Rattle.command.specs.Pieces.{Fed, takes_nothing, followed, command_length, is_unfinished, must_wait, over_after, run_piece, Piece, Feed, program_feed, handed_over, fed_with, feed_after, feed_all, written_all, input_of, EndsOnce}
use Rattle.command.proofs.StreamLaws.{any_bound, front_enough}
use Rattle.command.proofs.PieceSteps.{on_whole, taken_on, each_piece}

-- A whole input, one command at a time
run_none : (s : Store) → run_all s [] ≡ []
unfolding run_for
run_none s = refl

run_more : (s : Store) (b : ℕ) (bytes : List ℕ)
    → run_all s (b ∷ bytes) ≡ then_rest run_all (drop (operand_bytes (kind_of b)) bytes) (run_one s b bytes)
unfolding run_for
run_more s b bytes =
    let r : Ran = run_one s b bytes in
    let rest : List ℕ = drop (operand_bytes (kind_of b)) bytes in
    let less : length rest ≤ length bytes = simp length-drop (omega arith) in
    ap (λ (l : List ℕ). r.output ++ cond r.on l []) (any_bound (length bytes) (length rest) r.store rest less (omega arith))

-- What comes behind a whole command does not count
behind_whole : (s : Store) (b : ℕ) (bytes later : List ℕ) → operand_bytes (kind_of b) ≤ length bytes → run_one s b (bytes ++ later) ≡ run_one s b bytes
behind_whole s b bytes later h =
    sym (front_enough s b (bytes ++ later))
    ∙ ap (run_one s b) (take-append-le (operand_bytes (kind_of b)) bytes later h)
    ∙ front_enough s b bytes

-- A command that does not wait: all of it has come, or nothing more comes
does_not_wait : (room : ℕ) (ended : Bool) (b : ℕ) (bytes : List ℕ) → must_wait room ended b bytes ≡ false
    → (operand_bytes (kind_of b) ≤ length bytes) ⊎ (ended ≡ true)
does_not_wait room true b bytes e = inr refl
does_not_wait room false b bytes e = inl (ltb-false (length bytes) (operand_bytes (kind_of b)) (or_false (ltb room longest_answer) (is_unfinished b bytes) e).1)

-- What a piece writes, then what the input from there on writes
abbrev pub onward : Fed → List ℕ → List ℕ
onward f rest = f.output ++ cond f.over [] (run_all f.store rest)

-- The bytes from the piece's end on may be any, unless the input ends with the piece
abbrev pub Runs : (room : ℕ) (ended : Bool) → Store → List ℕ → Fed → Type 0
Runs room ended s bytes f = (later : List ℕ) → (ended ≡ true → later ≡ []) → run_all s (bytes ++ later) ≡ onward f (drop f.taken bytes ++ later)

runs_none : (room : ℕ) (ended : Bool) (s : Store) → Runs room ended s [] (takes_nothing s ended)
runs_none room true s later none = ap (run_all s) (none refl) ∙ run_none s
runs_none room false s later none = refl

module _ (room : ℕ) (ended : Bool) (s : Store) (b : ℕ) (bytes : List ℕ) (ready : must_wait room ended b bytes ≡ false) where
  abbrev r : Ran
  r = run_one s b bytes

  abbrev operands : ℕ
  operands = operand_bytes (kind_of b)

  same_command : (later : List ℕ) → (ended ≡ true → later ≡ []) → (operands ≤ length bytes) ⊎ (ended ≡ true) → run_one s b (bytes ++ later) ≡ r
  same_command later none (inl h) = behind_whole s b bytes later h
  same_command later none (inr e) = ap (run_one s b) (ap (λ (l : List ℕ). bytes ++ l) (none e) ∙ append-nil bytes)

  -- The whole input begins with the same command
  first_command : (later : List ℕ) → (ended ≡ true → later ≡ []) → (on : Bool) → r.on ≡ on
      → run_all s (b ∷ (bytes ++ later)) ≡ r.output ++ cond on (run_all r.store (drop operands (bytes ++ later))) []
  first_command later none on e =
      run_more s b (bytes ++ later)
      ∙ ap (then_rest run_all (drop operands (bytes ++ later))) (same_command later none (does_not_wait room ended b bytes ready))
      ∙ ap (λ (x : Bool). r.output ++ cond x (run_all r.store (drop operands (bytes ++ later))) []) e

  runs_last : r.on ≡ false → Runs room ended s (b ∷ bytes) (followed (command_length b bytes) r.output (over_after r))
  runs_last off later none = first_command later none false off ∙ sym (append-nil (r.output ++ []))

  runs_more : (f : Fed) → r.on ≡ true → Runs (room - length r.output) ended r.store (drop operands bytes) f
      → Runs room ended s (b ∷ bytes) (followed (command_length b bytes) r.output f)
  runs_more f on h later none =
      let enough = on_whole s b bytes on in
      first_command later none true on
      ∙ ap (λ (l : List ℕ). r.output ++ run_all r.store l) (drop-append-le operands bytes later enough)
      ∙ ap (◌++◌ r.output) (h later none)
      ∙ sym (append_assoc r.output f.output (cond f.over [] (run_all f.store (drop f.taken (drop operands bytes) ++ later))))
      ∙ ap (λ (l : List ℕ). (r.output ++ f.output) ++ cond f.over [] (run_all f.store (l ++ later))) (sym (taken_on b bytes f.taken enough))

piece_runs : (room : ℕ) (ended : Bool) (s : Store) (bytes : List ℕ) → Runs room ended s bytes (run_piece room ended s bytes)
piece_runs =
    each_piece Runs runs_none
    (λ room ended s b bytes w later none. refl)
    (λ room ended s b bytes w off. runs_last room ended s b bytes w off)
    (λ room ended s b bytes f w on h. runs_more room ended s b bytes w f on h)

-- What is still to be written, of what waits and what is to come
abbrev pub rest_of : Feed → List ℕ → List ℕ
rest_of f input = cond f.over [] (run_all f.store (f.waiting ++ input))

one_piece : (f : Feed) (p : Piece) (later : List ℕ) → (p.ended ≡ true → later ≡ [])
    → rest_of f (p.bytes ++ later) ≡ (fed_with f p).output ++ rest_of (feed_after f p) later
one_piece f p later none = go f.over
  where
    fed : Bool → Fed
    fed x = cond x (takes_nothing f.store true) (run_piece p.room p.ended f.store (handed_over f p))

    go : (x : Bool) → cond x [] (run_all f.store (f.waiting ++ (p.bytes ++ later))) ≡ onward (fed x) (drop (fed x).taken (handed_over f p) ++ later)
    go true = refl
    go false =
        ap (run_all f.store) (sym (append_assoc f.waiting p.bytes later))
        ∙ piece_runs p.room p.ended f.store (handed_over f p) later none

-- Whatever the pieces and the rooms: what the calls write, then what is still to be written, is what the whole input writes
pub pieces_run : (f : Feed) (pieces : List Piece) → EndsOnce pieces → rest_of f (input_of pieces) ≡ written_all f pieces ++ rest_of (feed_all f pieces) []
unfolding input_of EndsOnce written_all feed_all
pieces_run f [] ends = refl
pieces_run f (p ∷ pieces) ends =
    one_piece f p (input_of pieces) ends.0
    ∙ ap (◌++◌ (fed_with f p).output) (pieces_run (feed_after f p) pieces ends.1)
    ∙ sym (append_assoc (fed_with f p).output (written_all (feed_after f p) pieces) (rest_of (feed_all (feed_after f p) pieces) []))

-- From the opened store on, once a call says that the run is over, the output is complete
pub any_pieces : (pieces : List Piece) → EndsOnce pieces → (feed_all program_feed pieces).over ≡ true → written_all program_feed pieces ≡ output (input_of pieces)
unfolding output
any_pieces pieces ends done =
    sym
    (pieces_run program_feed pieces ends
    ∙ ap (λ (x : Bool). written_all program_feed pieces ++ cond x [] (run_all (feed_all program_feed pieces).store ((feed_all program_feed pieces).waiting ++ []))) done
    ∙ append-nil (written_all program_feed pieces))
