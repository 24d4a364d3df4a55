-- How many bytes a command writes: one for a refusal, and never more than a question's answer.
use Prim.Native.Nat.{ℕ, ◌≤◌}
use native.Mathlib.Omega.{arith}
use mathlib.Core.Path.{◌≡◌, ap, ◌∙◌}
use mathlib.Core.List.{List, [], ◌++◌, append-nil}
use lib.ListN.{length, length-append}
use Rattle.store.specs.declared.types.Answer.{Answer}
use Rattle.store.specs.declared.types.Answer.TheVariants.{Refused, Opened, Started, Ended, Totals, BatTime}
use Rattle.store.specs.Trees.{Store}
use Rattle.codec.specs.Bytes.{bytes_of}
use Rattle.codec.proofs.ByteLaws.{bytes_length}
use Rattle.store.specs.Answers.{refusal_of, values_of}
use Rattle.command.specs.Stream.{kind_of, widths_of, spelled, written, longest_answer, answered, run_one}

-- A code with no value behind it
pub code_only : (n : ℕ) → bytes_of 1 n ++ [] ≡ bytes_of 1 n
code_only n = append-nil (bytes_of 1 n)

pub code_length : (n : ℕ) → length (bytes_of 1 n ++ []) ≡ 1
code_length n = ap length (code_only n) ∙ bytes_length 1 n

pub started_length : (n : ℕ) → length (written (Started n)) ≡ 5
started_length n =
    omega (
      arith,
      length-append (bytes_of 1 0) (bytes_of 4 n ++ []),
      ap length (append-nil (bytes_of 4 n)),
      bytes_length 1 0,
      bytes_length 4 n,
    )

pub totals_length : (count sum pages : ℕ) → length (written (Totals count sum pages)) ≡ longest_answer
totals_length count sum pages =
    omega (
      arith,
      length-append (bytes_of 1 0) (bytes_of 8 count ++ (bytes_of 8 sum ++ (bytes_of 1 pages ++ []))),
      length-append (bytes_of 8 count) (bytes_of 8 sum ++ (bytes_of 1 pages ++ [])),
      length-append (bytes_of 8 sum) (bytes_of 1 pages ++ []),
      code_length pages,
      bytes_length 1 0,
      bytes_length 8 count,
      bytes_length 8 sum,
    )

pub bat_time_length : (total pages : ℕ) → length (written (BatTime total pages)) ≡ 10
bat_time_length total pages =
    omega (
      arith,
      length-append (bytes_of 1 0) (bytes_of 8 total ++ (bytes_of 1 pages ++ [])),
      length-append (bytes_of 8 total) (bytes_of 1 pages ++ []),
      code_length pages,
      bytes_length 1 0,
      bytes_length 8 total,
    )

pub written_fits : (a : Answer) → length (written a) ≤ longest_answer
written_fits (Refused n) = omega (arith, code_length n)
written_fits Opened = omega (arith, code_length 0)
written_fits (Started n) = omega (arith, started_length n)
written_fits Ended = omega (arith, code_length 0)
written_fits (Totals count sum pages) = omega (arith, totals_length count sum pages)
written_fits (BatTime total pages) = omega (arith, bat_time_length total pages)

pub output_fits : (s : Store) (code : ℕ) (bytes : List ℕ) → length (run_one s code bytes).output ≤ longest_answer
output_fits s code bytes = written_fits (answered s bytes (kind_of code)).answer

-- Whatever a command answers begins with a byte
pub output_begins : (s : Store) (code : ℕ) (bytes : List ℕ) → 1 ≤ length (run_one s code bytes).output
output_begins s code bytes =
    let a : Answer = (answered s bytes (kind_of code)).answer in
    omega (arith, length-append (bytes_of 1 (refusal_of a)) (spelled (widths_of a) (values_of a)), bytes_length 1 (refusal_of a))
