-- Bat-time from the time that was gathered: before t2 less before t1, for the keys below k2 less those below k1.
use Prim.Native.Nat.{ℕ, ◌+◌, ◌*◌, ◌^◌, ◌≤◌, ◌<◌, max}
use native.Mathlib.Omega.{arith}
use native.Mathlib.Nat.{le_trans}
use mathlib.Core.Path.{◌≡◌, refl, ap}
use mathlib.Core.Bool.{Bool, true, false, cond, ◌&&◌}
use mathlib.Core.List.{List, [], ◌∷◌}
use mathlib.Core.Logic.{◌⊎◌, inl, inr}
use lib.Dec.{leb, ltb}
use borrow.Author.Tests.{le-leb, lt-leb, lt-ltb, le-ltb}
use Rattle.words.specs.Words.{open_end}
use Rattle.tree.proofs.ReplacedRows.{split}
use Rattle.store.specs.Head.{weight_limit, open_limit, pass_limit}
use Rattle.store.specs.Passes.{Pass, sum_where}
use Rattle.store.specs.BatTime.{shared_ticks, bat_time_of}
use Rattle.store.specs.Book.{Book}
use Rattle.store.proofs.SumLaws.{sum_where_less}
use Rattle.store.proofs.LivedTicks.{ticks_before, lived, shared_lived, none_lived, lived_rise}
use Rattle.store.proofs.BookPasses.{BookKept, later_within}

ruleset tests = (le-leb, lt-leb, lt-ltb, le-ltb)

-- Weight times the ticks lived before t, of the passes with keys below k
abbrev pub lived_below : (t k : ℕ) → List Pass → ℕ
lived_below t k passes = sum_where (lived t) (λ (p : Pass). ltb p.key k) passes

module _ (k1 k2 t1 t2 : ℕ) (keys : k1 < k2) (ticks : t1 < t2) where
  -- One key, with what a pass had lived before t1 and before t2, and what it lived between
  one_key : (key before until between : ℕ) → between + before ≡ until
      → cond (ltb key k2) until 0 + cond (ltb key k1) before 0
      ≡ cond (leb k1 key && ltb key k2) between 0 + (cond (ltb key k2) before 0 + cond (ltb key k1) until 0)
  one_key key before until between e = go (split k1 key) (split k2 key)
    where
      go : (k1 ≤ key) ⊎ (key < k1) → (k2 ≤ key) ⊎ (key < k2)
          → cond (ltb key k2) until 0 + cond (ltb key k1) before 0
          ≡ cond (leb k1 key && ltb key k2) between 0 + (cond (ltb key k2) before 0 + cond (ltb key k1) until 0)
      go (inl x) (inl y) = simp tests (omega arith)
      go (inl x) (inr y) = simp tests (omega arith)
      go (inr x) (inl y) = absurd (omega arith)
      go (inr x) (inr y) = simp tests (omega arith)

  one_pass : (p : Pass) → p.weight * shared_ticks t1 t2 p.start p.end + lived t1 p ≡ lived t2 p
  one_pass p = omega (arith, ap (λ (n : ℕ). p.weight * n) (shared_lived t1 t2 p.start p.end (omega arith)))

  pub four_lived : (passes : List Pass)
      → lived_below t2 k2 passes + lived_below t1 k1 passes ≡ bat_time_of k1 k2 t1 t2 passes + (lived_below t1 k2 passes + lived_below t2 k1 passes)
  unfolding sum_where
  four_lived [] = refl
  four_lived (p ∷ passes) =
      omega (
        arith,
        one_key p.key (lived t1 p) (lived t2 p) (p.weight * shared_ticks t1 t2 p.start p.end) (one_pass p),
        four_lived passes,
      )

-- Nothing is lived before tick 0, and no key is below 0
pub none_before_0 : (k : ℕ) (passes : List Pass) → lived_below 0 k passes ≡ 0
unfolding sum_where
none_before_0 k [] = refl
none_before_0 k (p ∷ passes) = go (ltb p.key k) (none_lived 0 p.start p.end (omega arith)) (none_before_0 k passes)
  where
    go : (b : Bool) → ticks_before 0 p.start p.end ≡ 0 → lived_below 0 k passes ≡ 0 → cond b (lived 0 p) 0 + lived_below 0 k passes ≡ 0
    go true none ih = omega (arith, ap (λ (n : ℕ). p.weight * n) none)
    go false none ih = omega arith

pub none_below_0 : (t : ℕ) (passes : List Pass) → lived_below t 0 passes ≡ 0
unfolding sum_where
none_below_0 t [] = refl
none_below_0 t (p ∷ passes) = let x : 0 ≤ p.key = omega arith in rw (le-ltb p.key 0 x) (omega (arith, none_below_0 t passes))

-- 10,000 × (64 × (2^32 - 1) + 1,000,000)
abbrev pub most_time : ℕ
most_time = weight_limit * (open_limit * open_end + pass_limit)

pub most_fits : most_time < 2 ^ 52
most_fits = omega arith

-- The bound of a book: before every tick that a call may have, over any choice of passes
pub lived_most : (b : Book) → BookKept b → (t : ℕ) → t ≤ open_end → (test : Pass → Bool) → sum_where (lived t) test b.passes ≤ most_time
lived_most b kept t h test =
    let u = max b.last t in
    le_trans (sum_where_less (lived t) (lived (u + 1)) test (lived_rise t (u + 1) (omega arith)) b.passes)
    (omega (arith, later_within b kept u (omega arith), kept.now, kept.few))
