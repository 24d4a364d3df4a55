-- How many rows a step makes: no two live rows have one low key, so only one row is replaced.
use Prim.Native.Nat.{ℕ, ◌+◌, ◌≤◌, ◌<◌}
use native.Mathlib.Omega.{arith}
use native.Mathlib.Decide.{ℕ_discrete}
use mathlib.Core.Path.{◌≡◌, refl}
use mathlib.Core.List.{List, [], ◌∷◌}
use mathlib.Core.Bool.{Bool, true, false, cond}
use mathlib.Core.Logic.{◌⊎◌, inl, inr}
use lib.Dec.{leb, ltb, eqb}
use lib.ListN.{length}
use Rattle.tree.proofs.ModelPages.{only_if, Entry, Row, sum_live, replaced, field_holding}
use Rattle.tree.proofs.ModelTrees.{Slot, sum_slots, Chain}
use Rattle.tree.proofs.ModelSteps.{plus_amount, none_further, gained}
use Rattle.tree.proofs.ModelPromise.{sum_below}
use Rattle.tree.proofs.ReplacedRows.{tests, split, length_replaced}
use Rattle.tree.proofs.GainedSlots.{more_first}

-- One live row at most has a low key.
pub starts_once : {A : Type 0} (P : ℕ → ℕ → ℕ → A → Type 0) (m j lo hi : ℕ) (tr : List (Slot A)) → Chain P lo hi tr
    → sum_slots (λ e. only_if (eqb e.low m) j) tr ≤ only_if (leb lo m) j
starts_once P m j lo hi [] c = omega arith
starts_once P m j lo hi (e ∷ es) c =
    go (ℕ_discrete e.entry.low m) (split lo m) (split e.entry.high m) (starts_once P m j e.entry.high hi es c.rest)
  where
    go : Dec (e.entry.low ≡ m) → (lo ≤ m) ⊎ (m < lo) → (e.entry.high ≤ m) ⊎ (m < e.entry.high)
        → sum_slots (λ e. only_if (eqb e.low m) j) es ≤ only_if (leb e.entry.high m) j
        → sum_slots (λ e. only_if (eqb e.low m) j) (e ∷ es) ≤ only_if (leb lo m) j
    go (yes a) (inl b) (inl d) h = absurd (omega arith)
    go (yes a) (inl b) (inr d) h = simp tests (omega (arith, simp tests at h))
    go (yes a) (inr b) d h = absurd (omega arith)
    go (no a) (inl b) (inl d) h = simp tests (omega (arith, simp tests at h))
    go (no a) (inl b) (inr d) h = simp tests (omega (arith, simp tests at h))
    go (no a) (inr b) (inl d) h = absurd (omega arith)
    go (no a) (inr b) (inr d) h = simp tests (omega (arith, simp tests at h))

pub one_start : {A : Type 0} (P : ℕ → ℕ → ℕ → A → Type 0) (m j lo hi : ℕ) (tr : List (Slot A)) → Chain P lo hi tr
    → sum_slots (λ e. only_if (eqb e.low m) j) tr ≤ j
one_start P m j lo hi tr c = go (leb lo m) (starts_once P m j lo hi tr c)
  where
    go : (b : Bool) → sum_slots (λ e. only_if (eqb e.low m) j) tr ≤ only_if b j → sum_slots (λ e. only_if (eqb e.low m) j) tr ≤ j
    go true h = h
    go false h = omega arith

-- How many rows a step makes.
module _ {A : Type 0} (P : ℕ → ℕ → ℕ → A → Type 0) (t lo hi : ℕ) (tr : List (Slot A)) (rs : List Row) (c : Chain P lo hi tr)
    (same : (f : Entry → ℕ) → sum_slots f tr ≡ sum_live t f rs) where
  pub one_more : (m : ℕ) (a : Entry → Entry) → length (replaced t m a none_further rs) ≤ length rs + 1
  one_more m a = omega (arith, length_replaced t m a none_further rs, same (λ e. only_if (eqb e.low m) 1), one_start P m 1 lo hi tr c)

  pub gained_length : (k v : ℕ) → length (gained t k v rs) ≤ length rs + 1
  gained_length k v = one_more (cond (ltb (field_holding t k (λ e. e.low) rs) k) (field_holding t k (λ e. e.high) rs) k) (plus_amount v)

  pub two_more : (m : ℕ) (a b : Entry → Entry) → length (replaced t m a (λ e. b e ∷ []) rs) ≤ length rs + 2
  two_more m a b =
      omega (arith, length_replaced t m a (λ e. b e ∷ []) rs, same (λ e. only_if (eqb e.low m) 2), one_start P m 2 lo hi tr c)

pub length_more : {A : Type 0} (v : ℕ) (ys : List (Slot A)) → length (more_first v ys) ≡ length ys
length_more v [] = refl
length_more v (y ∷ ys) = refl

pub below_more : {A : Type 0} (R : ℕ → A → ℕ) (v : ℕ) (ys : List (Slot A)) → sum_below R (more_first v ys) ≡ sum_below R ys
below_more R v [] = refl
below_more R v (y ∷ ys) = refl
