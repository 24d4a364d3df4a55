-- Numbers added up over the items of a list that pass a test.
use Prim.Native.Nat.{ℕ, ◌+◌, ◌*◌, ◌%◌, ◌^◌, ◌≤◌}
use native.Mathlib.Omega.{arith}
use mathlib.Core.Path.{◌≡◌, refl, ap, ◌∙◌}
use mathlib.Core.Bool.{Bool, true, false, cond}
use mathlib.Core.List.{List, [], ◌∷◌, ◌++◌}
use lib.ListN.{length}
use Rattle.words.specs.Lists.{All}
use Rattle.words.specs.declared.value.Value.{Value}
use Rattle.words.proofs.Measure.{Measure}
use Rattle.tree.specs.TrueValue.{total_where}
use Rattle.tree.proofs.Lists.{sum_by}
use Rattle.tree.proofs.TrueValueSums.{number_if, total_measure}
use Rattle.store.specs.Passes.{sum_where}

module _ {A : Type 0} where
  pub sum_where_append : (f : A → ℕ) (test : A → Bool) (xs ys : List A) → sum_where f test (xs ++ ys) ≡ sum_where f test xs + sum_where f test ys
  unfolding sum_where
  sum_where_append f test [] ys = omega arith
  sum_where_append f test (x ∷ xs) ys = omega (arith, sum_where_append f test xs ys)

  pub sum_where_one : (f : A → ℕ) (test : A → Bool) (x : A) → sum_where f test (x ∷ []) ≡ cond (test x) (f x) 0
  unfolding sum_where
  sum_where_one f test x = omega arith

  pub sum_where_all : (xs : List A) → sum_where (λ (x : A). 1) (λ (x : A). true) xs ≡ length xs
  unfolding sum_where
  sum_where_all [] = refl
  sum_where_all (x ∷ xs) = omega (arith, sum_where_all xs)

  -- Two tests that say the same
  pub sum_where_same : (f : A → ℕ) (test other : A → Bool) → ((x : A) → test x ≡ other x) → (xs : List A) → sum_where f test xs ≡ sum_where f other xs
  unfolding sum_where
  sum_where_same f test other h [] = refl
  sum_where_same f test other h (x ∷ xs) =
      ap (λ (b : Bool). cond b (f x) 0 + sum_where f test xs) (h x)
      ∙ ap (λ (n : ℕ). cond (other x) (f x) 0 + n) (sum_where_same f test other h xs)

  pub sum_where_none : (f : A → ℕ) (test : A → Bool) → ((x : A) → test x ≡ false) → (xs : List A) → sum_where f test xs ≡ 0
  unfolding sum_where
  sum_where_none f test h [] = refl
  sum_where_none f test h (x ∷ xs) = rw (h x) (omega (arith, sum_where_none f test h xs))

  -- Every item
  abbrev pub every : A → Bool
  every x = true

  -- Numbers no less, and of every item
  pub sum_where_less : (f g : A → ℕ) (test : A → Bool) → ((x : A) → f x ≤ g x) → (xs : List A) → sum_where f test xs ≤ sum_where g every xs
  unfolding sum_where
  sum_where_less f g test h [] = omega arith
  sum_where_less f g test h (x ∷ xs) = go (test x) (sum_where_less f g test h xs)
    where
      go : (b : Bool) → sum_where f test xs ≤ sum_where g every xs → cond b (f x) 0 + sum_where f test xs ≤ g x + sum_where g every xs
      go true ih = omega (arith, h x)
      go false ih = omega arith

  -- No more than so much for each item
  pub sum_where_most : (f : A → ℕ) (test : A → Bool) (most : ℕ) (xs : List A) → All (λ (x : A). f x ≤ most) xs
      → sum_where f test xs ≤ most * length xs
  unfolding sum_where
  sum_where_most f test most [] h = omega arith
  sum_where_most f test most (x ∷ xs) h = go (test x) (sum_where_most f test most xs h.1)
    where
      go : (b : Bool) → sum_where f test xs ≤ most * length xs → cond b (f x) 0 + sum_where f test xs ≤ most * length (x ∷ xs)
      go true ih = omega (arith, h.0)
      go false ih = omega arith

  -- A total of values, measured
  by_items : (f : A → ℕ) (test : A → Bool) (xs : List A) → sum_by (number_if f test) xs ≡ sum_where f test xs
  unfolding sum_where
  by_items f test [] = refl
  by_items f test (x ∷ xs) = ap (λ (n : ℕ). cond (test x) (f x) 0 + n) (by_items f test xs)

  pub total_is_sum : (measure : Value → ℕ) → Measure measure → (value_of : A → Value) (test : A → Bool) (xs : List A)
      → measure (total_where value_of test xs) ≡ sum_where (λ (x : A). measure (value_of x)) test xs % 2 ^ 64
  total_is_sum measure m value_of test xs =
      total_measure measure m value_of test xs ∙ ap (λ (n : ℕ). n % 2 ^ 64) (by_items (λ (x : A). measure (value_of x)) test xs)
