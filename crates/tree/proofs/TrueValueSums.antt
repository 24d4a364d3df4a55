-- True values in plain numbers: the count of a row's true value is its own count plus the counts of the live rows with a lower low key,
-- added as natural numbers and taken modulo 2^64; its weight sum likewise.
use Prim.Native.Nat.{ℕ, ◌+◌, ◌%◌, ◌^◌}
use native.Mathlib.Omega.{arith}
use mathlib.Core.Path.{◌≡◌, ◌∙◌}
use mathlib.Core.Bool.{Bool, true, false, cond}
use mathlib.Core.List.{List, [], ◌∷◌}
use Rattle.words.specs.declared.value.Value.{Value}
use Rattle.words.specs.Value.{zero}
use Rattle.words.proofs.Measure.{Measure, count_of, sum_of, count_measure, sum_measure}
use Rattle.tree.specs.declared.types.Row.{Row}
use Rattle.tree.specs.TrueValue.{total_where, row_value, lower_at, true_value}
use Rattle.tree.proofs.Lists.{sum_by}

-- A number of an item where the item passes a test
abbrev pub number_if : {A : Type 0} → (A → ℕ) → (A → Bool) → A → ℕ
number_if number test x = cond (test x) (number x) 0

module _ (measure : Value → ℕ) (m : Measure measure) where
  pub total_measure : {A : Type 0} (value_of : A → Value) (test : A → Bool) (xs : List A)
      → measure (total_where value_of test xs) ≡ sum_by (number_if (λ (x : A). measure (value_of x)) test) xs % 2 ^ 64
  unfolding total_where
  total_measure value_of test [] = m.of_zero
  total_measure {A} value_of test (x ∷ xs) = m.of_plus _ _ ∙ go (test x) (total_measure value_of test xs)
    where
      go : (b : Bool) → measure (total_where value_of test xs) ≡ sum_by (number_if (λ (y : A). measure (value_of y)) test) xs % 2 ^ 64
          → (measure (cond b (value_of x) zero) + measure (total_where value_of test xs)) % 2 ^ 64
          ≡ (cond b (measure (value_of x)) 0 + sum_by (number_if (λ (y : A). measure (value_of y)) test) xs) % 2 ^ 64
      go true ih = omega arith
      go false ih = omega (arith, m.of_zero)

  pub true_measure : (t : ℕ) (rows : List Row) (r : Row)
      → measure (true_value t rows r) ≡ (measure r.value + sum_by (number_if (λ (s : Row). measure s.value) (lower_at t r)) rows) % 2 ^ 64
  true_measure t rows r = m.of_plus _ _ ∙ omega (arith, total_measure row_value (lower_at t r) rows)

pub true_count : (t : ℕ) (rows : List Row) (r : Row)
    → (true_value t rows r).count ≡ (r.value.count + sum_by (number_if (λ (s : Row). s.value.count) (lower_at t r)) rows) % 2 ^ 64
true_count = true_measure count_of count_measure

pub true_sum : (t : ℕ) (rows : List Row) (r : Row)
    → (true_value t rows r).sum ≡ (r.value.sum + sum_by (number_if (λ (s : Row). s.value.sum) (lower_at t r)) rows) % 2 ^ 64
true_sum = true_measure sum_of sum_measure
