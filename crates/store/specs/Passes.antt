-- Passes, and Definition 1 of source document 002 over them.
use Rattle.std.specs.Prelude.{ℕ, ◌+◌, List, [], ◌∷◌, Bool, true, cond, ◌&&◌, leb, ltb}

-- "its end or open"
pub data End : Type 0 where
  still_open : End
  ended_at : ℕ → End

-- "A pass is one bat going by: a key, a weight, a life." "A pass lives at s to e" (document 02, Paper 2), so that a click has one tick; "an open pass has no last tick"
pub record Pass : Type 0 where
  pub key : ℕ
  pub weight : ℕ
  pub start : ℕ
  pub end : End

-- Either open or "e ≥ t1" (Paper 2)
abbrev pub not_ended_before : ℕ → End → Bool
not_ended_before t1 still_open = true
not_ended_before t1 (ended_at e) = leb t1 e

-- Definition 1: records "whose keys are in R and whose time intervals intersect I". "It counts the passes with k1 ≤ key < k2", and a pass "meets a question if s < t2
-- and e ≥ t1" (Paper 2). `proofs/ClosedLives` has the reading by ticks
abbrev pub meets : (k1 k2 t1 t2 : ℕ) → Pass → Bool
meets k1 k2 t1 t2 p = leb k1 p.key && (ltb p.key k2 && (ltb p.start t2 && not_ended_before t1 p.end))

-- The sum of a number over the items that pass a test
unfoldable pub sum_where : {A : Type 0} → (A → ℕ) → (A → Bool) → List A → ℕ
sum_where f test [] = 0
sum_where f test (x ∷ xs) = cond (test x) (f x) 0 + sum_where f test xs

abbrev pub count_where : {A : Type 0} → (A → Bool) → List A → ℕ
count_where {A} test xs = sum_where (λ (x : A). 1) test xs

-- "counts the passes .. and sums their weights"
abbrev pub question_count : (k1 k2 t1 t2 : ℕ) → List Pass → ℕ
question_count k1 k2 t1 t2 passes = count_where (meets k1 k2 t1 t2) passes

abbrev pub question_sum : (k1 k2 t1 t2 : ℕ) → List Pass → ℕ
question_sum k1 k2 t1 t2 passes = sum_where (λ (p : Pass). p.weight) (meets k1 k2 t1 t2) passes
