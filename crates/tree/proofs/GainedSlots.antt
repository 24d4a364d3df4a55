-- Steps 2 and 3 in the slots of a page, around the one that holds the key.
use Prim.Native.Nat.{ℕ, ◌≤◌, ◌<◌}
use native.Mathlib.Omega.{arith}
use mathlib.Core.Path.{◌≡◌, refl, ap, ◌∙◌}
use mathlib.Core.List.{List, [], ◌∷◌, ◌++◌}
use mathlib.Core.Logic.{◌⊎◌, inl, inr}
use lib.Dec.{leb, ltb}
use Rattle.words.specs.Words.{open_end}
use Rattle.tree.proofs.ModelPages.{only_if, Entry, Row, sum_live, replaced, after, field_holding}
use Rattle.tree.proofs.ModelTrees.{Slot, sum_slots, Chain}
use Rattle.tree.proofs.ModelSteps.{plus_amount, none_further, gained, cut_row, lower_part, upper_part}
use Rattle.tree.proofs.ReplacedRows.{tests, sum_live_replaced}
use Rattle.tree.proofs.HeldTrees.{chain_le}
use Rattle.tree.proofs.SlotCuts.{sum_slots_append, after_other, same_replaced}

module _ {A : Type 0} where
  -- A slot with v more, and slots whose first has v more.
  abbrev pub more : ℕ → Slot A → Slot A
  more v y = record { entry = plus_amount v y.entry; below = y.below }

  abbrev pub more_first : ℕ → List (Slot A) → List (Slot A)
  more_first v [] = []
  more_first v (y ∷ ys) = more v y ∷ ys

  -- A leaf slot cut at k, the upper part worth v
  abbrev pub lower_slot : ℕ → Slot A → Slot A
  lower_slot k y = record { entry = lower_part k y.entry; below = y.below }

  abbrev pub upper_slot : ℕ → ℕ → Slot A → Slot A
  upper_slot k v y = record { entry = upper_part k v y.entry; below = y.below }

module _ {A : Type 0} (P : ℕ → ℕ → ℕ → A → Type 0) (k : ℕ) where
  -- Slots beside the key add nothing to a field at the key.
  at_other : (g : Entry → ℕ) (lo hi : ℕ) (xs : List (Slot A)) → Chain P lo hi xs → (k < lo) ⊎ (hi ≤ k)
      → sum_slots (λ e. only_if (leb e.low k) (only_if (ltb k e.high) (g e))) xs ≡ 0
  at_other g lo hi [] c h = refl
  at_other g lo hi (e ∷ es) c (inl h) =
      let n : k < e.entry.low = omega arith in
      simp (tests, at_other g e.entry.high hi es c.rest (inl (omega arith)))
  at_other g lo hi (e ∷ es) c (inr h) =
      let l = chain_le P e.entry.high hi es c.rest in
      let n : e.entry.low ≤ k = omega arith in
      let o : e.entry.high ≤ k = omega arith in
      simp (tests, at_other g e.entry.high hi es c.rest (inr h))

  after_first : (v : ℕ) (f : Entry → ℕ) (m hi : ℕ) (ys : List (Slot A)) → Chain P m hi ys
      → sum_slots (after m (plus_amount v) none_further f) ys ≡ sum_slots f (more_first v ys)
  after_first v f m hi [] d = refl
  after_first v f m hi (z ∷ zs) d =
      let e : z.entry.low ≡ m = d.first in
      simp (tests, after_other P m (plus_amount v) none_further f z.entry.high hi zs d.rest (inl d.some)) (omega arith)

  module _ (t lo hi : ℕ) (xs : List (Slot A)) (y : Slot A) (ys : List (Slot A)) (rs : List Row) (c : Chain P lo y.entry.low xs)
      (i : y.entry.low ≤ k) (j : k < y.entry.high) (d : Chain P y.entry.high hi ys)
      (same : (f : Entry → ℕ) → sum_slots f (xs ++ (y ∷ ys)) ≡ sum_live t f rs) where
    pub at_cut : (g : Entry → ℕ) → field_holding t k g rs ≡ g y.entry
    at_cut g =
        rw
        (← (same (λ e. only_if (leb e.low k) (only_if (ltb k e.high) (g e)))), sum_slots_append)
        (simp (tests, at_other g lo y.entry.low xs c (inr i), at_other g y.entry.high hi ys d (inl j)) (omega arith))

    module _ (now : t < open_end) (v : ℕ) where
      -- Step 3 where the key is the slot's low key.
      pub gained_here : y.entry.low ≡ k → (f : Entry → ℕ) → sum_slots f (xs ++ (more v y ∷ ys)) ≡ sum_live t f (gained t k v rs)
      gained_here e f =
          let h : k ≤ y.entry.low = omega arith in
          simp
          (at_cut, tests)
          (same_replaced P t now (plus_amount v) none_further lo hi xs y ys (more v y ∷ []) rs c d (omega arith) same (λ f'. refl) f ∙
          ap (λ (m : ℕ). sum_live t f (replaced t m (plus_amount v) none_further rs)) e)

      -- Step 3 where the key is inside the slot: the next slot gains.
      pub gained_next : y.entry.low < k → (f : Entry → ℕ) → sum_slots f (xs ++ (y ∷ more_first v ys)) ≡ sum_live t f (gained t k v rs)
      gained_next l f =
          let m = y.entry.high in
          let e₁ = after_other P m (plus_amount v) none_further f lo y.entry.low xs c (inr (omega arith)) in
          let e₂ = after_first v f m hi ys d in
          let e₃ = same (after m (plus_amount v) none_further f) in
          let n : y.entry.low ≡ m → ⊥ = omega arith in
          simp (at_cut, tests) (simp (sum_live_replaced t now f m (plus_amount v) none_further rs, ← e₃, sum_slots_append, tests)
          (omega arith))

      -- Step 2.
      pub cut_here : y.entry.low < k → (f : Entry → ℕ)
          → sum_slots f (xs ++ (lower_slot k y ∷ (upper_slot k v y ∷ ys))) ≡ sum_live t f (cut_row t k v rs)
      cut_here l f =
          rw
          (at_cut (λ e. e.low))
          (same_replaced P t now _ _ lo hi xs y ys
          (lower_slot k y ∷
          (upper_slot k v y ∷ [])) rs c d
          (omega arith) same (λ f'. omega arith) f)
