-- The number that a few bytes spell, and the bytes of a number written one after the other.
use Prim.Native.Nat.{ℕ, zero, suc, ◌+◌, ◌*◌, ◌-◌, ◌/◌, ◌%◌, ◌≤◌, ◌<◌}
use native.Mathlib.Omega.{arith}
use mathlib.Core.Path.{◌≡◌, refl, ap, sym, ◌∙◌}
use mathlib.Core.List.{List, [], ◌∷◌, ◌++◌, append_assoc, append-nil}
use native.Mathlib.Numerals.{add-one}
use lib.ListN.{length, get_or, set, take, drop}
use lib.Seq.{take-suc-set, drop-cons, take_all}
use Rattle.codec.specs.Bytes.{number_of, bytes_of, operand}

-- The first bytes from a place on
front2 : (bytes : List ℕ) (from : ℕ) → from + 2 ≤ length bytes → take 2 (drop from bytes) ≡ get_or bytes from 0 ∷ (get_or bytes (from + 1) 0 ∷ [])
front2 bytes from h =
    let next : suc from ≡ from + 1 = omega arith in
    ap (take 2)
    (drop-cons bytes from 0 (omega arith)
    ∙ ap (◌∷◌ (get_or bytes from 0))
    (ap (λ (i : ℕ). drop i bytes) next ∙ drop-cons bytes (from + 1) 0 (omega arith)))

pub spell2 : (bytes : List ℕ) (from : ℕ) → from + 2 ≤ length bytes → get_or bytes from 0 + 256 * get_or bytes (from + 1) 0 ≡ operand bytes from 2
unfolding number_of
spell2 bytes from h = omega arith ∙ sym (ap number_of (front2 bytes from h))

front4 : (bytes : List ℕ) (from : ℕ) → from + 4 ≤ length bytes
    → take 4 (drop from bytes)
    ≡ get_or bytes from 0 ∷ (get_or bytes (from + 1) 0 ∷ (get_or bytes (from + 2) 0 ∷ (get_or bytes (from + 3) 0 ∷ [])))
front4 bytes from h =
    let next : suc from ≡ from + 1 = omega arith in
    let next2 : suc (from + 1) ≡ from + 2 = omega arith in
    let next3 : suc (from + 2) ≡ from + 3 = omega arith in
    let at3 = ap (λ (i : ℕ). drop i bytes) next3 ∙ drop-cons bytes (from + 3) 0 (omega arith) in
    let at2 = ap (λ (i : ℕ). drop i bytes) next2 ∙ drop-cons bytes (from + 2) 0 (omega arith) ∙ ap (◌∷◌ (get_or bytes (from + 2) 0)) at3 in
    let at1 = ap (λ (i : ℕ). drop i bytes) next ∙ drop-cons bytes (from + 1) 0 (omega arith) ∙ ap (◌∷◌ (get_or bytes (from + 1) 0)) at2 in
    ap (take 4) (drop-cons bytes from 0 (omega arith) ∙ ap (◌∷◌ (get_or bytes from 0)) at1)

pub spell4 : (bytes : List ℕ) (from : ℕ) → from + 4 ≤ length bytes
    → get_or bytes from 0 + 256 * get_or bytes (from + 1) 0 + 65536 * (get_or bytes (from + 2) 0 + 256 * get_or bytes (from + 3) 0) ≡ operand bytes from 4
unfolding number_of
spell4 bytes from h = omega arith ∙ sym (ap number_of (front4 bytes from h))

pub bytes_length : (n x : ℕ) → length (bytes_of n x) ≡ n
unfolding bytes_of
bytes_length zero x = refl
bytes_length (suc n) x = ap suc (bytes_length n (x / 256))

-- One more byte of a number written: the bytes so far, and those of what is left of the number, stay the same
pub byte_written : (bytes : List ℕ) (i n rest : ℕ) → i < length bytes → i < n
    → take (i + 1) (set bytes i (rest % 256)) ++ bytes_of (n - (i + 1)) (rest / 256) ≡ take i bytes ++ bytes_of (n - i) rest
unfolding bytes_of
byte_written bytes i n rest h m =
    let more : n - i ≡ suc (n - suc i) = omega arith in
    rw (add-one, take-suc-set bytes i (rest % 256) h, more) (append_assoc (take i bytes) (rest % 256 ∷ []) (bytes_of (n - suc i) (rest / 256)))

-- All of them written
pub all_written : (bytes : List ℕ) (i n rest : ℕ) → length bytes ≡ n → n ≤ i → take i bytes ++ bytes_of (n - i) rest ≡ bytes
unfolding bytes_of
all_written bytes i n rest l h =
    let none : n - i ≡ 0 = omega arith in
    rw (take_all i bytes (omega arith), none) (append-nil bytes)
