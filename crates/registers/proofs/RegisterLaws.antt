-- What the code of the registers tests and writes.
use Prim.Native.Nat.{ℕ, zero, suc, ◌-◌, ◌≤◌}
use native.Mathlib.Nat.{zero-add}
use native.Mathlib.Omega.{arith}
use mathlib.Core.Path.{◌≡◌, ap, ap₂, ◌∙◌}
use mathlib.Core.List.{List, [], ◌∷◌, ◌++◌}
use lib.ListN.{length, get_or, set, take, drop, replicate, length-append, length-replicate}
use lib.Seq.{take_all}
use Rattle.words.specs.Overwrite.{overwrite}
use Rattle.command.specs.Stream.{longest_answer}
use Rattle.register_block.specs.Block.{Block, command_at, status_at, flags_at, result_at, result_count, flag_byte, flags_shown, status_shown, zero_filled, result_shown, marked, showing}
use Rattle.register_block.proofs.BlockBytes.{filled_byte}

-- Bytes at the front of zeros are bytes that are zero filled
fewer_zeros : (n k : ℕ) → drop {A = ℕ} k (replicate n 0) ≡ replicate (n - k) 0
fewer_zeros n zero = let e : n ≡ n - 0 = omega arith in ap (λ (m : ℕ). replicate m 0) e
fewer_zeros zero (suc k) = let e : 0 ≡ 0 - suc k = omega arith in ap (λ (m : ℕ). replicate m 0) e
fewer_zeros (suc n) (suc k) = let e : n - k ≡ suc n - suc k = omega arith in fewer_zeros n k ∙ ap (λ (m : ℕ). replicate m 0) e

filled : (count : ℕ) (bytes : List ℕ) → overwrite (replicate count 0) 0 bytes ≡ zero_filled count bytes
unfolding overwrite
filled count bytes = ap (λ (n : ℕ). bytes ++ drop n (replicate count 0)) (zero-add (length bytes)) ∙ ap (◌++◌ bytes) (fewer_zeros count (length bytes))

result_of : (output : List ℕ) → 1 ≤ length output → length output ≤ longest_answer → take result_count (drop 1 (zero_filled longest_answer output)) ≡ result_shown output
result_of [] some short = absurd (omega (arith, some))
result_of (x ∷ rest) some short =
    let zeros : longest_answer - suc (length rest) ≡ result_count - length rest = omega (arith, short) in
    ap (λ (n : ℕ). take result_count (rest ++ replicate n 0)) zeros
    ∙ take_all result_count (zero_filled result_count rest)
    (omega (arith, short, length-append rest (replicate (result_count - length rest) 0), length-replicate {A = ℕ} (result_count - length rest) 0))

-- The block that showing an answer leaves, byte by byte as the code writes it
abbrev pub shown_from : (stored : Block) (answer : List ℕ) (open_count : ℕ) → Block
shown_from stored answer open_count =
    overwrite (set (set stored status_at (get_or answer 0 0)) flags_at (flag_byte (flags_shown (get_or answer 0 0) open_count))) result_at (take result_count (drop 1 answer))

-- A command that is stored, and its answer shown
pub answer_shown : (b : Block) (command : ℕ) (output : List ℕ) (open_count : ℕ) → 1 ≤ length output → length output ≤ longest_answer
    → {answer : List ℕ} → answer ≡ overwrite (replicate longest_answer 0) 0 output → {stored : Block} → stored ≡ set b command_at command
    → {after : Block} → after ≡ shown_from stored answer open_count → after ≡ showing b command output open_count
unfolding marked
answer_shown b command output open_count some short {answer} front {stored} cs last =
    let is = front ∙ filled longest_answer output in
    let status : get_or answer 0 0 ≡ status_shown output = ap (λ (l : List ℕ). get_or l 0 0) is ∙ filled_byte longest_answer output 0 (omega arith) in
    let result : take result_count (drop 1 answer) ≡ result_shown output = ap (λ (l : List ℕ). take result_count (drop 1 l)) is ∙ result_of output some short in
    last
    ∙ ap₂ (λ (x : Block) (n : ℕ). overwrite (set (set x status_at n) flags_at (flag_byte (flags_shown n open_count))) result_at (take result_count (drop 1 answer))) cs status
    ∙ ap (overwrite (marked b command (status_shown output) (flag_byte (flags_shown (status_shown output) open_count))) result_at) result
