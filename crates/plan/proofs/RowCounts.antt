-- How many items pass a test after one item was replaced and others were added; the live rows of a page, counted.
use Prim.Native.Nat.{ℕ, zero, suc, ◌+◌, ◌≤◌, ◌<◌}
use native.Mathlib.Omega.{arith}
use mathlib.Core.Path.{◌≡◌, refl, sym, ap, ◌∙◌}
use mathlib.Core.Bool.{Bool, true, false, cond}
use mathlib.Core.List.{List, [], ◌∷◌, ◌++◌}
use lib.ListN.{length, get_or, set, length-map}
use Rattle.tree.specs.declared.types.Row.{Row}
use Rattle.tree.specs.Row.{row_words, rows_from, live}
use Rattle.tree.specs.KeyOrder.{Placed, key_order}
use Rattle.tree.specs.Edit.{born_at}
use Rattle.tree.proofs.Lists.{sum_by, sum_append, one_if, count}
use Rattle.tree.proofs.Places.{order_sum}
use Rattle.tree.specs.Overflow.{copied_rows}

module _ {A : Type 0} (test : A → Bool) where
  pub count_set : (xs : List A) (i : ℕ) (x d : A) → i < length xs
      → one_if test (get_or xs i d) + count test (set xs i x) ≡ one_if test x + count test xs
  count_set [] i x d h = absurd (omega arith)
  count_set (y ∷ ys) zero x d h = omega arith
  count_set (y ∷ ys) (suc i) x d h = omega (arith, count_set ys i x d (omega arith))

  pub count_at_most : (xs : List A) → count test xs ≤ length xs
  count_at_most [] = omega arith
  count_at_most (x ∷ xs) = go (test x) (count_at_most xs)
    where
      go : (b : Bool) → count test xs ≤ length xs → cond b 1 0 + count test xs ≤ suc (length xs)
      go true ih = omega arith
      go false ih = omega arith

  one_if_is : (x : A) {b : Bool} → test x ≡ b → one_if test x ≡ cond b 1 0
  one_if_is x e = ap (λ (c : Bool). cond c 1 0) e

  -- An item that passes, replaced by one that does, with others added behind; and by one that does not
  module _ (xs : List A) (i : ℕ) (d : A) (inside : i < length xs) (here : test (get_or xs i d) ≡ true) (x : A) (more : List A) where
    pub count_kept : test x ≡ true → count test (set xs i x ++ more) ≡ count test xs + count test more
    count_kept e =
        omega (arith, sum_append (one_if test) (set xs i x) more, count_set xs i x d inside, one_if_is (get_or xs i d) here, one_if_is x e)

    pub count_lost : test x ≡ false → count test (set xs i x ++ more) + 1 ≡ count test xs + count test more
    count_lost e =
        omega (arith, sum_append (one_if test) (set xs i x) more, count_set xs i x d inside, one_if_is (get_or xs i d) here, one_if_is x e)

-- The live rows, counted in key order, and in a page's copy
pub live_count : (t : ℕ) (rows : List Row) → length (key_order t rows) ≡ count (live t) rows
live_count t rows = sym (ones (key_order t rows)) ∙ order_sum t (λ (r : Row). 1) rows
  where
    ones : (xs : List Placed) → sum_by (λ (x : Placed). 1) xs ≡ length xs
    ones [] = refl
    ones (x ∷ xs) = omega (arith, ones xs)

pub copied_count : (t : ℕ) (rows : List Row) → length (copied_rows t rows) ≡ count (live t) rows
copied_count t rows = length-map (key_order t rows) (λ (x : Placed). born_at t x.row) ∙ live_count t rows

pub rows_count : (words : List ℕ) (at n : ℕ) → length (rows_from words at n) ≡ n
unfolding rows_from
rows_count words at zero = refl
rows_count words at (suc n) = ap suc (rows_count words (at + row_words) n)
