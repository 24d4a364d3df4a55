-- What a call takes of a piece, in words: why it takes no more, that it takes no byte twice, and how much room is always enough.
use Prim.Native.Nat.{ℕ, ◌+◌, ◌-◌, ◌*◌, ◌≤◌, ◌<◌}
use native.Mathlib.Omega.{arith}
use mathlib.Core.Path.{◌≡◌, refl, ap, sym, subst, ◌∙◌}
use mathlib.Core.Bool.{Bool, true, false, true≢false, not, ◌&&◌, ◌||◌}
use mathlib.Core.Logic.{◌⊎◌, inl, inr}
use mathlib.Core.List.{List, [], ◌∷◌, ◌++◌}
use lib.ListN.{length, drop, length-append, length-drop}
use lib.Dec.{ltb}
use borrow.Author.Tests.{ltb-true, not-false}
use Rattle.store.specs.Trees.{Store}
use Rattle.store.specs.Answers.{Answered}
use Rattle.command.specs.Stream.{Kind, unknown, command, kind_of, operand_bytes, written, longest_answer, goes_on, run_kind, run_one}
use Rattle.command.specs.Pieces.{Fed, command_length, is_unfinished, must_wait, run_piece}
use Rattle.command.proofs.KindLaws.{by_kind, few_operands, cut_short}
use Rattle.command.proofs.AnswerLengths.{code_length, output_fits}
use Rattle.command.proofs.PieceSteps.{on_whole, has_room, taken_on, each_piece}

-- A command byte with its operands has 9 bytes at least; 6 and 7 are one byte
kind_long : (b : ℕ) (bytes : List ℕ) → goes_on bytes (kind_of b) ≡ true → 8 ≤ operand_bytes (kind_of b)
kind_long b bytes =
    by_kind (λ (kind : Kind). goes_on bytes kind ≡ true → 8 ≤ operand_bytes kind)
    (λ e. omega arith)
    (λ e. omega arith)
    (λ code e. omega arith)
    (λ e. absurd (true≢false (sym e)))
    b

stop_short : (s : Store) (bytes : List ℕ) (kind : Kind) → goes_on bytes kind ≡ false → length (run_kind s bytes kind).output ≡ 1
stop_short s bytes unknown e = code_length 6
stop_short s bytes (command n call) e =
    ap (λ (a : Answered). length (written a.answer)) (cut_short s bytes n call (ltb-true (length bytes) n (not-false (ltb (length bytes) n) e)))
    ∙ code_length 7

-- No more bytes than there are
pub takes_inside : (room : ℕ) (ended : Bool) (s : Store) (bytes : List ℕ) → (run_piece room ended s bytes).taken ≤ length bytes
takes_inside room ended s bytes =
    each_piece (λ (room : ℕ) (ended : Bool) (s : Store) (bytes : List ℕ) (f : Fed). f.taken ≤ length bytes)
    (λ room ended s. omega arith)
    (λ room ended s b bytes w. omega arith)
    (λ room ended s b bytes w o. omega arith)
    (λ room ended s b bytes f w o h. omega (arith, h, length-drop (operand_bytes (kind_of b)) bytes, on_whole s b bytes o))
    room ended s bytes

-- At most two bytes written for a byte taken
pub writes_few : (room : ℕ) (ended : Bool) (s : Store) (bytes : List ℕ) → length (run_piece room ended s bytes).output ≤ 2 * (run_piece room ended s bytes).taken
writes_few room ended s bytes =
    each_piece (λ (room : ℕ) (ended : Bool) (s : Store) (bytes : List ℕ) (f : Fed). length f.output ≤ 2 * f.taken)
    (λ room ended s. omega arith)
    (λ room ended s b bytes w. omega arith)
    (λ room ended s b bytes w o. omega (arith, length-append (run_one s b bytes).output [], stop_short s bytes (kind_of b) o))
    (λ room ended s b bytes f w o h.
    omega (
      arith,
      h,
      length-append (run_one s b bytes).output f.output,
      output_fits s b bytes,
      kind_long b bytes o,
      on_whole s b bytes o,
    ))
    room ended s bytes

-- No more bytes written than there is room for
pub writes_inside : (room : ℕ) (ended : Bool) (s : Store) (bytes : List ℕ) → length (run_piece room ended s bytes).output ≤ room
writes_inside room ended s bytes =
    each_piece (λ (room : ℕ) (ended : Bool) (s : Store) (bytes : List ℕ) (f : Fed). length f.output ≤ room)
    (λ room ended s. omega arith)
    (λ room ended s b bytes w. omega arith)
    (λ room ended s b bytes w o.
    omega (arith, length-append (run_one s b bytes).output [], output_fits s b bytes, has_room room ended b bytes w))
    (λ room ended s b bytes f w o h.
    omega (arith, h, length-append (run_one s b bytes).output f.output, output_fits s b bytes, has_room room ended b bytes w))
    room ended s bytes

-- Nothing, or a command whose operands have not all come
abbrev pub Unfinished : List ℕ → Type 0
Unfinished [] = Unit {0}
Unfinished (b ∷ bytes) = is_unfinished b bytes ≡ true

-- A run that is not over waits for bytes, which may still come, or for room
abbrev pub Waits : (room : ℕ) (ended : Bool) → Store → List ℕ → Fed → Type 0
Waits room ended s bytes f = f.over ≡ false → ((ended ≡ false) × Unfinished (drop f.taken bytes)) ⊎ (room < length f.output + longest_answer)

pub why_it_waits : (room : ℕ) (ended : Bool) (s : Store) (bytes : List ℕ) → Waits room ended s bytes (run_piece room ended s bytes)
why_it_waits room ended s bytes =
    each_piece Waits
    (λ room ended s e. inl (e, tt))
    (λ room ended s b bytes w e. waits room ended b bytes w)
    (λ room ended s b bytes w o e. absurd (true≢false e))
    (λ room ended s b bytes f w o h e. behind room ended s b bytes f o (h e))
    room ended s bytes
  where
    waits : (room : ℕ) (ended : Bool) (b : ℕ) (bytes : List ℕ) → must_wait room ended b bytes ≡ true
        → ((ended ≡ false) × (is_unfinished b bytes ≡ true)) ⊎ (room < 0 + longest_answer)
    waits room ended b bytes = go (ltb room longest_answer) ended (is_unfinished b bytes) refl
      where
        go : (x e u : Bool) → ltb room longest_answer ≡ x → x || (not e && u) ≡ true → ((e ≡ false) × (u ≡ true)) ⊎ (room < 0 + longest_answer)
        go true e u t w = inr (omega (arith, ltb-true room longest_answer t))
        go false true u t w = absurd (true≢false (sym w))
        go false false u t w = inl (refl, w)

    behind : (room : ℕ) (ended : Bool) (s : Store) (b : ℕ) (bytes : List ℕ) (f : Fed) → (run_one s b bytes).on ≡ true
        → ((ended ≡ false) × Unfinished (drop f.taken (drop (operand_bytes (kind_of b)) bytes)))
        ⊎ (room - length (run_one s b bytes).output < length f.output + longest_answer)
        → ((ended ≡ false) × Unfinished (drop (command_length b bytes + f.taken) (b ∷ bytes)))
        ⊎ (room < length ((run_one s b bytes).output ++ f.output) + longest_answer)
    behind room ended s b bytes f o (inl h) = inl (h.0, subst Unfinished (sym (taken_on b bytes f.taken (on_whole s b bytes o))) h.1)
    behind room ended s b bytes f o (inr h) = inr (omega (arith, h, length-append (run_one s b bytes).output f.output))

-- Room for twice the bytes and one answer more is always enough
pub room_enough : (room : ℕ) (ended : Bool) (s : Store) (bytes : List ℕ) → 2 * length bytes + longest_answer ≤ room
    → (run_piece room ended s bytes).over ≡ false → (ended ≡ false) × Unfinished (drop (run_piece room ended s bytes).taken bytes)
room_enough room ended s bytes h e = go (why_it_waits room ended s bytes e)
  where
    go : ((ended ≡ false) × Unfinished (drop (run_piece room ended s bytes).taken bytes)) ⊎ (room < length (run_piece room ended s bytes).output + longest_answer)
        → (ended ≡ false) × Unfinished (drop (run_piece room ended s bytes).taken bytes)
    go (inl x) = x
    go (inr less) = absurd (omega (arith, h, less, writes_few room ended s bytes, takes_inside room ended s bytes))

-- Where the input has ended, each call with room for an answer takes a byte or is the last
pub ended_goes_on : (room : ℕ) (s : Store) (bytes : List ℕ) → longest_answer ≤ room
    → ((run_piece room true s bytes).over ≡ true) ⊎ (0 < (run_piece room true s bytes).taken)
ended_goes_on room s bytes h = go (run_piece room true s bytes).over refl
  where
    go : (x : Bool) → (run_piece room true s bytes).over ≡ x → ((run_piece room true s bytes).over ≡ true) ⊎ (0 < (run_piece room true s bytes).taken)
    go true e = inl e
    go false e = inr (took (why_it_waits room true s bytes e))
      where
        took : ((true ≡ false) × Unfinished (drop (run_piece room true s bytes).taken bytes)) ⊎ (room < length (run_piece room true s bytes).output + longest_answer)
            → 0 < (run_piece room true s bytes).taken
        took (inl x) = absurd (true≢false x.0)
        took (inr less) = omega (arith, h, less, writes_few room true s bytes)

-- What waits for bytes is no longer than a question without its last byte
pub unfinished_short : (bytes : List ℕ) → Unfinished bytes → length bytes ≤ 12
unfinished_short [] h = omega arith
unfinished_short (b ∷ bytes) h = omega (arith, ltb-true (length bytes) (operand_bytes (kind_of b)) h, few_operands b)
