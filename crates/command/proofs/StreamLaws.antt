-- The bound on the number of commands is no limit: an input has no more commands than bytes, so that every bound from the input's length on
-- gives the same output. And a command reads no more than its operands, so that a program may read them alone.
use Prim.Native.Nat.{ℕ, zero, suc, ◌+◌, ◌≤◌}
use native.Mathlib.Omega.{arith}
use mathlib.Core.Path.{◌≡◌, refl, ap, ap₂, sym, ◌∙◌}
use mathlib.Core.Bool.{Bool, true, false, cond, not}
use mathlib.Core.List.{List, [], ◌∷◌, ◌++◌}
use lib.ListN.{length, take, drop, length-take, length-drop}
use lib.Dec.{ltb, eqb}
use lib.Seq.{take-take}
use native.Mathlib.Decide.{dec_le}
use borrow.Author.Tests.{lt-ltb, le-ltb}
use Rattle.store.specs.Trees.{Store}
use Rattle.store.specs.Answers.{Answered, refused_with}
use Rattle.store.specs.Calls.{Call, start, end, question, bat_time}
use Rattle.store.specs.Performing.{perform}
use Rattle.codec.specs.Bytes.{number_of, operand}
use Rattle.command.specs.Stream.{Kind, command, start_command, end_command, query_command, question_command, bat_time_command, kind_of, operand_bytes, written, Ran, run_kind, run_one, then_rest, run_for}
use Rattle.command.proofs.KindLaws.{by_kind}

-- The rest of the input, where two ways to go on agree on it
same_rest : (f g : Store → List ℕ → List ℕ) (rest : List ℕ) (r : Ran) → f r.store rest ≡ g r.store rest → then_rest f rest r ≡ then_rest g rest r
same_rest f g rest r h = ap (λ (l : List ℕ). r.output ++ cond r.on l []) h

pub any_bound : (m n : ℕ) (s : Store) (bytes : List ℕ) → length bytes ≤ m → length bytes ≤ n → run_for m s bytes ≡ run_for n s bytes
unfolding run_for
any_bound zero zero s bytes p q = refl
any_bound zero (suc n) s [] p q = refl
any_bound zero (suc n) s (b ∷ bytes) p q = absurd (omega arith)
any_bound (suc m) zero s [] p q = refl
any_bound (suc m) zero s (b ∷ bytes) p q = absurd (omega arith)
any_bound (suc m) (suc n) s [] p q = refl
any_bound (suc m) (suc n) s (b ∷ bytes) p q =
    let r : Ran = run_one s b bytes in
    let rest : List ℕ = drop (operand_bytes (kind_of b)) bytes in
    let less : length rest ≤ length bytes = simp length-drop (omega arith) in
    same_rest (λ (s' : Store) (l : List ℕ). run_for m s' l) (λ (s' : Store) (l : List ℕ). run_for n s' l) rest r
    (any_bound m n r.store rest (omega arith) (omega arith))

-- A command reads no more than its operands: what stands behind them does not count
front_drop : (l : List ℕ) (k i m : ℕ) → i + m ≤ k → take m (drop i (take k l)) ≡ take m (drop i l)
front_drop l k zero m h = take-take m k l (omega arith)
front_drop [] zero (suc i) m h = refl
front_drop [] (suc k) (suc i) m h = refl
front_drop (x ∷ l) zero (suc i) m h = absurd (omega arith)
front_drop (x ∷ l) (suc k) (suc i) m h = front_drop l k i m (omega arith)

operand_front : (bytes : List ℕ) (n from m : ℕ) → from + m ≤ n → operand (take n bytes) from m ≡ operand bytes from m
operand_front bytes n from m h = ap number_of (front_drop bytes n from m h)

start_front : (bytes : List ℕ) → start_command (take 8 bytes) ≡ start_command bytes
start_front bytes =
    let tick = operand_front bytes 8 0 4 (omega arith) in
    let key = operand_front bytes 8 4 2 (omega arith) in
    let weight = operand_front bytes 8 6 2 (omega arith) in
    λ i. start (tick i) (key i) (weight i)

end_front : (bytes : List ℕ) → end_command (take 8 bytes) ≡ end_command bytes
end_front bytes = ap₂ end (operand_front bytes 8 0 4 (omega arith)) (operand_front bytes 8 4 4 (omega arith))

query_front : (call : (k1 k2 t1 t2 : ℕ) → Call) (bytes : List ℕ) → query_command call (take 12 bytes) ≡ query_command call bytes
query_front call bytes =
    let k1 = operand_front bytes 12 0 2 (omega arith) in
    let k2 = operand_front bytes 12 2 2 (omega arith) in
    let t1 = operand_front bytes 12 4 4 (omega arith) in
    let t2 = operand_front bytes 12 8 4 (omega arith) in
    λ i. call (k1 i) (k2 i) (t1 i) (t2 i)

-- Enough bytes for so many, in the front as in the whole
cut_same : (bytes : List ℕ) (n : ℕ) → ltb (length (take n bytes)) n ≡ ltb (length bytes) n
cut_same bytes n = go (dec_le n (length bytes))
  where
    go : Dec (n ≤ length bytes) → ltb (length (take n bytes)) n ≡ ltb (length bytes) n
    go (yes h) = le-ltb (length (take n bytes)) n (omega (arith, length-take n bytes)) ∙ sym (le-ltb (length bytes) n h)
    go (no h) = short (λ i. h i)
      where
        short : (n ≤ length bytes → ⊥) → ltb (length (take n bytes)) n ≡ ltb (length bytes) n
        short f = lt-ltb (length (take n bytes)) n (omega (arith, length-take n bytes, f)) ∙ sym (lt-ltb (length bytes) n (omega (arith, f)))

one_front : (s : Store) (bytes : List ℕ) (n : ℕ) (call : List ℕ → Call) → call (take n bytes) ≡ call bytes
    → run_kind s (take n bytes) (command n call) ≡ run_kind s bytes (command n call)
one_front s bytes n call same =
    ap₂ (λ (x : Bool) (c : Call). ran x (cond x (refused_with 7 s) (perform s c))) (cut_same bytes n) same
  where
    ran : Bool → Answered → Ran
    ran x a = record { output = written a.answer; store = a.store; on = not x }

pub front_enough : (s : Store) (byte : ℕ) (bytes : List ℕ) → run_one s byte (take (operand_bytes (kind_of byte)) bytes) ≡ run_one s byte bytes
front_enough s byte bytes =
    by_kind (λ (kind : Kind). run_kind s (take (operand_bytes kind) bytes) kind ≡ run_kind s bytes kind)
    (one_front s bytes 8 start_command (start_front bytes))
    (one_front s bytes 8 end_command (end_front bytes))
    (λ code. query (eqb code 4))
    refl
    byte
  where
    query : (x : Bool) → run_kind s (take 12 bytes) (command 12 (cond x bat_time_command question_command)) ≡ run_kind s bytes (command 12 (cond x bat_time_command question_command))
    query true = one_front s bytes 12 bat_time_command (query_front bat_time bytes)
    query false = one_front s bytes 12 question_command (query_front question bytes)
