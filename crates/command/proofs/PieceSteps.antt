-- A piece of the stream, one command at a time.
use Prim.Native.Nat.{ℕ, zero, suc, ◌+◌, ◌-◌, ◌≤◌}
use native.Mathlib.Omega.{arith}
use mathlib.Core.Path.{◌≡◌, refl, ap, sym, ◌∙◌}
use mathlib.Core.Bool.{Bool, true, false, true≢false, cond}
use mathlib.Core.List.{List, [], ◌∷◌, ◌++◌, append-nil}
use lib.ListN.{length, drop, length-drop, drop_of_length-le}
use lib.Seq.{drop-drop}
use lib.Dec.{ltb}
use borrow.Author.Tests.{ltb-false, not-true}
use Rattle.store.specs.Trees.{Store}
use Rattle.store.proofs.RefusalLaws.{or_false}
use Rattle.command.specs.Stream.{Kind, unknown, command, kind_of, operand_bytes, longest_answer, goes_on, Ran, run_one}
use Rattle.command.specs.Pieces.{Fed, takes_nothing, followed, command_length, must_wait, over_after, then_piece, run_piece_for, run_piece}

-- A run goes on only after a whole command
kind_whole : (bytes : List ℕ) (kind : Kind) → goes_on bytes kind ≡ true → operand_bytes kind ≤ length bytes
kind_whole bytes unknown e = absurd (true≢false (sym e))
kind_whole bytes (command n call) e = ltb-false (length bytes) n (not-true (ltb (length bytes) n) e)

pub on_whole : (s : Store) (b : ℕ) (bytes : List ℕ) → (run_one s b bytes).on ≡ true → operand_bytes (kind_of b) ≤ length bytes
on_whole s b bytes = kind_whole bytes (kind_of b)

-- A command that does not wait has room for its answer
pub has_room : (room : ℕ) (ended : Bool) (b : ℕ) (bytes : List ℕ) → must_wait room ended b bytes ≡ false → longest_answer ≤ room
has_room room ended b bytes e = ltb-false room longest_answer (or_false (ltb room longest_answer) _ e).0

-- What is taken of a piece is the command and what is taken of the rest behind it
pub taken_on : (b : ℕ) (bytes : List ℕ) (t : ℕ) → operand_bytes (kind_of b) ≤ length bytes
    → drop (command_length b bytes + t) (b ∷ bytes) ≡ drop t (drop (operand_bytes (kind_of b)) bytes)
taken_on b bytes t h =
    let e : command_length b bytes + t ≡ suc (operand_bytes (kind_of b) + t) = omega arith in
    ap (λ (n : ℕ). drop n (b ∷ bytes)) e ∙ sym (drop-drop t (operand_bytes (kind_of b)) bytes)

-- The bound on the number of commands is no limit here either
same_onward : (f g : Ran → Fed) (taken : ℕ) (r : Ran) → f r ≡ g r → then_piece f taken r ≡ then_piece g taken r
same_onward f g taken r h = ap (λ (x : Fed). followed taken r.output (cond r.on x (over_after r))) h

any_piece_bound : (m n room : ℕ) (ended : Bool) (s : Store) (bytes : List ℕ) → length bytes ≤ m → length bytes ≤ n
    → run_piece_for m room ended s bytes ≡ run_piece_for n room ended s bytes
unfolding run_piece_for
any_piece_bound zero zero room ended s bytes p q = refl
any_piece_bound zero (suc n) room ended s [] p q = refl
any_piece_bound zero (suc n) room ended s (b ∷ bytes) p q = absurd (omega arith)
any_piece_bound (suc m) zero room ended s [] p q = refl
any_piece_bound (suc m) zero room ended s (b ∷ bytes) p q = absurd (omega arith)
any_piece_bound (suc m) (suc n) room ended s [] p q = refl
any_piece_bound (suc m) (suc n) room ended s (b ∷ bytes) p q =
    let r : Ran = run_one s b bytes in
    let rest : List ℕ = drop (operand_bytes (kind_of b)) bytes in
    let less : length rest ≤ length bytes = simp length-drop (omega arith) in
    ap (cond (must_wait room ended b bytes) (takes_nothing s false))
    (same_onward (λ (x : Ran). run_piece_for m (room - length x.output) ended x.store rest) (λ (x : Ran). run_piece_for n (room - length x.output) ended x.store rest)
    (command_length b bytes) r (any_piece_bound m n (room - length r.output) ended r.store rest (omega arith) (omega arith)))

-- A piece, one command at a time
module _ (room : ℕ) (ended : Bool) (s : Store) where
  pub piece_none : run_piece room ended s [] ≡ takes_nothing s ended
  unfolding run_piece_for
  piece_none = refl

  module _ (b : ℕ) (bytes : List ℕ) where
    pub piece_waits : must_wait room ended b bytes ≡ true → run_piece room ended s (b ∷ bytes) ≡ takes_nothing s false
    unfolding run_piece_for
    piece_waits e = ap (λ (x : Bool). cond x (takes_nothing s false) (then_piece (λ (r : Ran). run_piece_for (length bytes) (room - length r.output) ended r.store (drop (operand_bytes (kind_of b)) bytes)) (command_length b bytes) (run_one s b bytes))) e

    ready : must_wait room ended b bytes ≡ false
        → run_piece room ended s (b ∷ bytes)
        ≡ then_piece (λ (r : Ran). run_piece (room - length r.output) ended r.store (drop (operand_bytes (kind_of b)) bytes)) (command_length b bytes) (run_one s b bytes)
    unfolding run_piece_for
    ready e =
        let r : Ran = run_one s b bytes in
        let rest : List ℕ = drop (operand_bytes (kind_of b)) bytes in
        let less : length rest ≤ length bytes = simp length-drop (omega arith) in
        ap (λ (x : Bool). cond x (takes_nothing s false) (then_piece (λ (r : Ran). run_piece_for (length bytes) (room - length r.output) ended r.store rest) (command_length b bytes) r)) e
        ∙ same_onward (λ (x : Ran). run_piece_for (length bytes) (room - length x.output) ended x.store rest) (λ (x : Ran). run_piece (room - length x.output) ended x.store rest)
        (command_length b bytes) r (any_piece_bound (length bytes) (length rest) (room - length r.output) ended r.store rest less (omega arith))

    pub piece_stops : must_wait room ended b bytes ≡ false → (run_one s b bytes).on ≡ false
        → run_piece room ended s (b ∷ bytes) ≡ followed (command_length b bytes) (run_one s b bytes).output (over_after (run_one s b bytes))
    piece_stops e off =
        ready e
        ∙ ap (λ (x : Bool). followed (command_length b bytes) (run_one s b bytes).output (cond x (run_piece (room - length (run_one s b bytes).output) ended (run_one s b bytes).store (drop (operand_bytes (kind_of b)) bytes)) (over_after (run_one s b bytes)))) off

    pub piece_goes_on : must_wait room ended b bytes ≡ false → (run_one s b bytes).on ≡ true
        → run_piece room ended s (b ∷ bytes)
        ≡ followed (command_length b bytes) (run_one s b bytes).output (run_piece (room - length (run_one s b bytes).output) ended (run_one s b bytes).store (drop (operand_bytes (kind_of b)) bytes))
    piece_goes_on e on =
        ready e
        ∙ ap (λ (x : Bool). followed (command_length b bytes) (run_one s b bytes).output (cond x (run_piece (room - length (run_one s b bytes).output) ended (run_one s b bytes).store (drop (operand_bytes (kind_of b)) bytes)) (over_after (run_one s b bytes)))) on

-- One induction for all that is said of a piece: nothing there, a command that waits, one that ends the run, and one with the rest behind it
module _ (P : (room : ℕ) (ended : Bool) (s : Store) (bytes : List ℕ) → Fed → Type 0)
    (none : (room : ℕ) (ended : Bool) (s : Store) → P room ended s [] (takes_nothing s ended))
    (waits : (room : ℕ) (ended : Bool) (s : Store) (b : ℕ) (bytes : List ℕ) → must_wait room ended b bytes ≡ true → P room ended s (b ∷ bytes) (takes_nothing s false))
    (last : (room : ℕ) (ended : Bool) (s : Store) (b : ℕ) (bytes : List ℕ) → must_wait room ended b bytes ≡ false → (run_one s b bytes).on ≡ false
    → P room ended s (b ∷ bytes) (followed (command_length b bytes) (run_one s b bytes).output (over_after (run_one s b bytes))))
    (more : (room : ℕ) (ended : Bool) (s : Store) (b : ℕ) (bytes : List ℕ) (f : Fed) → must_wait room ended b bytes ≡ false → (run_one s b bytes).on ≡ true
    → P (room - length (run_one s b bytes).output) ended (run_one s b bytes).store (drop (operand_bytes (kind_of b)) bytes) f
    → P room ended s (b ∷ bytes) (followed (command_length b bytes) (run_one s b bytes).output f)) where
  each_bound : (n room : ℕ) (ended : Bool) (s : Store) (bytes : List ℕ) → length bytes ≤ n → P room ended s bytes (run_piece_for n room ended s bytes)
  unfolding run_piece_for
  each_bound zero room ended s [] less = none room ended s
  each_bound zero room ended s (b ∷ bytes) less = absurd (omega arith)
  each_bound (suc n) room ended s [] less = none room ended s
  each_bound (suc n) room ended s (b ∷ bytes) less =
      go (must_wait room ended b bytes) (run_one s b bytes).on refl refl
      (each_bound n (room - length (run_one s b bytes).output) ended (run_one s b bytes).store (drop (operand_bytes (kind_of b)) bytes)
      (omega (arith, length-drop (operand_bytes (kind_of b)) bytes)))
    where
      next : Fed
      next = run_piece_for n (room - length (run_one s b bytes).output) ended (run_one s b bytes).store (drop (operand_bytes (kind_of b)) bytes)

      go : (w on : Bool) → must_wait room ended b bytes ≡ w → (run_one s b bytes).on ≡ on
          → P (room - length (run_one s b bytes).output) ended (run_one s b bytes).store (drop (operand_bytes (kind_of b)) bytes) next
          → P room ended s (b ∷ bytes)
          (cond w (takes_nothing s false) (followed (command_length b bytes) (run_one s b bytes).output (cond on next (over_after (run_one s b bytes)))))
      go true on w o h = waits room ended s b bytes w
      go false true w o h = more room ended s b bytes next w o h
      go false false w o h = last room ended s b bytes w o

  pub each_piece : (room : ℕ) (ended : Bool) (s : Store) (bytes : List ℕ) → P room ended s bytes (run_piece room ended s bytes)
  each_piece room ended s bytes = each_bound (length bytes) room ended s bytes (omega arith)

-- A piece that is one command, with no byte behind its operands, where no more comes and an answer has room: that command, and nothing else
module _ (s : Store) (b : ℕ) (bytes : List ℕ) (whole : length bytes ≤ operand_bytes (kind_of b)) where
  abbrev one : Ran
  one = run_one s b bytes

  -- What comes of the rest, whether or not the run goes on
  abbrev after_one : Bool → List ℕ → Fed
  after_one on rest = cond on (run_piece_for (length bytes) (longest_answer - length one.output) true one.store rest) (over_after one)

  nothing_more : (on : Bool) (n : ℕ) (room : ℕ) → ((cond on (run_piece_for n room true one.store []) (over_after one)).output ≡ []) × ((cond on (run_piece_for n room true one.store []) (over_after one)).store ≡ one.store)
  unfolding run_piece_for
  nothing_more true zero room = (refl, refl)
  nothing_more true (suc n) room = (refl, refl)
  nothing_more false n room = (refl, refl)

  rest_empty : drop (operand_bytes (kind_of b)) bytes ≡ []
  rest_empty = drop_of_length-le bytes {i = operand_bytes (kind_of b)} whole

  pub one_output : (run_piece longest_answer true s (b ∷ bytes)).output ≡ one.output
  unfolding run_piece_for
  one_output =
      ap (λ (rest : List ℕ). one.output ++ (after_one one.on rest).output) rest_empty
      ∙ ap (◌++◌ one.output) (nothing_more one.on (length bytes) (longest_answer - length one.output)).0
      ∙ append-nil one.output

  pub one_store : (run_piece longest_answer true s (b ∷ bytes)).store ≡ one.store
  unfolding run_piece_for
  one_store =
      ap (λ (rest : List ℕ). (after_one one.on rest).store) rest_empty
      ∙ (nothing_more one.on (length bytes) (longest_answer - length one.output)).1
