-- A value in plain numbers: its count, and its weight sum. Both are 0 of the zero and add modulo 2^64,
-- so that a statement about values is proved once for a measure and then holds of the count and of the sum.
use Rattle.std.proofs.Common.{◌≡◌, ℕ, ◌+◌, ◌%◌, ◌^◌, refl, arith}
use Rattle.words.specs.declared.value.Value.{Value}
use Rattle.words.specs.Value.{zero, plus}
use Rattle.words.proofs.ValueLaws.{value_path, Stored}

pub record Measure (measure : Value → ℕ) : Type 0 where
  pub of_zero : measure zero ≡ 0
  pub of_plus : (a b : Value) → measure (plus a b) ≡ (measure a + measure b) % 2 ^ 64

abbrev pub count_of : Value → ℕ
count_of v = v.count

abbrev pub sum_of : Value → ℕ
sum_of v = v.sum

pub count_measure : Measure count_of
unfolding plus
count_measure = record { of_zero = refl; of_plus = λ a b. refl }

pub sum_measure : Measure sum_of
unfolding plus
sum_measure = record { of_zero = refl; of_plus = λ a b. refl }

-- The measures together tell one stored value from another
pub by_measures : (a b : Value) → Stored a → Stored b → ((measure : Value → ℕ) → Measure measure → measure a % 2 ^ 64 ≡ measure b % 2 ^ 64) → a ≡ b
by_measures a b h k same =
    value_path (omega (arith, h.0, k.0, same count_of count_measure)) (omega (arith, h.1, k.1, same sum_of sum_measure))
