-- An answer's bytes, written one number after the other.
use Prim.Native.Nat.{ℕ, ◌≤◌}
use native.Mathlib.Omega.{arith}
use mathlib.Core.Path.{◌≡◌, refl, ap, sym, ◌∙◌}
use mathlib.Core.List.{List, [], ◌++◌, append_assoc, append-nil}
use lib.ListN.{length, take, length-append}
use Rattle.std.proofs.Math.Seq.{take-append_seam}
use Rattle.words.specs.Overwrite.{overwrite}
use Rattle.words.proofs.OverwriteLaws.{overwrite_more}
use Rattle.store.specs.declared.types.Answer.{Answer}
use Rattle.store.specs.declared.types.Answer.TheVariants.{Refused, Opened, Started, Ended, Totals, BatTime}
use Rattle.command.proofs.AnswerLengths.{code_length}
use Rattle.codec.specs.Bytes.{bytes_of}
use Rattle.command.specs.Stream.{written, longest_answer}
use Rattle.codec.proofs.ByteLaws.{bytes_length}

module _ (out : List ℕ) (room : longest_answer ≤ length out) where
  pub started_bytes : (n : ℕ) → overwrite (overwrite out 0 (bytes_of 1 0)) 1 (bytes_of 4 n) ≡ overwrite out 0 (written (Started n))
  unfolding bytes_of
  started_bytes n =
      overwrite_more out 0 (bytes_of 1 0) (omega arith) 1 (bytes_of 4 n) (omega arith)
      ∙ ap (λ (l : List ℕ). overwrite out 0 (bytes_of 1 0 ++ l)) (sym (append-nil (bytes_of 4 n)))

  pub totals_bytes : (count sum pages : ℕ)
      → overwrite (overwrite (overwrite (overwrite out 0 (bytes_of 1 0)) 1 (bytes_of 8 count)) 9 (bytes_of 8 sum)) 17 (bytes_of 1 pages)
      ≡ overwrite out 0 (written (Totals count sum pages))
  totals_bytes count sum pages =
      let code : List ℕ = bytes_of 1 0 in
      let first : List ℕ = code ++ bytes_of 8 count in
      let second : List ℕ = first ++ bytes_of 8 sum in
      let l0 : length code ≡ 1 = bytes_length 1 0 in
      let l1 : length first ≡ 9 = length-append code (bytes_of 8 count) ∙ omega (arith, l0, bytes_length 8 count) in
      let l2 : length second ≡ 17 = length-append first (bytes_of 8 sum) ∙ omega (arith, l1, bytes_length 8 sum) in
      ap (λ (l : List ℕ). overwrite (overwrite l 9 (bytes_of 8 sum)) 17 (bytes_of 1 pages))
      (overwrite_more out 0 code (omega arith) 1 (bytes_of 8 count) (omega arith))
      ∙ ap (λ (l : List ℕ). overwrite l 17 (bytes_of 1 pages)) (overwrite_more out 0 first (omega arith) 9 (bytes_of 8 sum) (omega arith))
      ∙ overwrite_more out 0 second (omega arith) 17 (bytes_of 1 pages) (omega arith)
      ∙ ap (overwrite out 0) (regroup code (bytes_of 8 count) (bytes_of 8 sum) (bytes_of 1 pages))
    where
      regroup : (a b c d : List ℕ) → ((a ++ b) ++ c) ++ d ≡ a ++ (b ++ (c ++ (d ++ [])))
      regroup a b c d =
          append_assoc (a ++ b) c d ∙ append_assoc a b (c ++ d) ∙ ap (λ (l : List ℕ). a ++ (b ++ (c ++ l))) (sym (append-nil d))

  pub bat_time_bytes : (total pages : ℕ)
      → overwrite (overwrite (overwrite out 0 (bytes_of 1 0)) 1 (bytes_of 8 total)) 9 (bytes_of 1 pages)
      ≡ overwrite out 0 (written (BatTime total pages))
  bat_time_bytes total pages =
      let code : List ℕ = bytes_of 1 0 in
      let first : List ℕ = code ++ bytes_of 8 total in
      let l0 : length code ≡ 1 = bytes_length 1 0 in
      let l1 : length first ≡ 9 = length-append code (bytes_of 8 total) ∙ omega (arith, l0, bytes_length 8 total) in
      ap (λ (l : List ℕ). overwrite l 9 (bytes_of 1 pages)) (overwrite_more out 0 code (omega arith) 1 (bytes_of 8 total) (omega arith))
      ∙ overwrite_more out 0 first (omega arith) 9 (bytes_of 1 pages) (omega arith)
      ∙ ap (overwrite out 0)
      (append_assoc code (bytes_of 8 total) (bytes_of 1 pages) ∙ ap (λ (l : List ℕ). code ++ (bytes_of 8 total ++ l)) (sym (append-nil (bytes_of 1 pages))))

-- An answer that says no more than its refusal has one byte
pub one_byte : (a : Answer) → ((n : ℕ) → a ≡ Started n → ⊥) → ((count sum pages : ℕ) → a ≡ Totals count sum pages → ⊥)
    → ((total pages : ℕ) → a ≡ BatTime total pages → ⊥) → 1 ≡ length (written a)
one_byte (Refused n) s t b = sym (code_length n)
one_byte Opened s t b = sym (code_length 0)
one_byte (Started n) s t b = absurd (s n refl)
one_byte Ended s t b = sym (code_length 0)
one_byte (Totals count sum pages) s t b = absurd (t count sum pages refl)
one_byte (BatTime total pages) s t b = absurd (b total pages refl)

-- Bytes that were written at the front, taken from there
pub at_front : (zeros new : List ℕ) (n : ℕ) {bytes : List ℕ} → bytes ≡ overwrite zeros 0 new → n ≡ length new → take n bytes ≡ new
unfolding overwrite
at_front zeros new n e long = rw (e, long) (take-append_seam new _)
