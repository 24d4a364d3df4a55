-- What a lookup adds in the slots of a page after a step: the amount more, for keys from the point's key on.
use Prim.Native.Nat.{ℕ, ◌+◌, ◌≤◌, ◌<◌}
use native.Mathlib.Omega.{arith}
use mathlib.Core.Path.{◌≡◌}
use mathlib.Core.List.{List, ◌∷◌, ◌++◌}
use mathlib.Core.Logic.{◌⊎◌, inl, inr}
use lib.Dec.{leb, ltb}
use Rattle.tree.proofs.ModelPages.{◌≈◌, only_if}
use Rattle.tree.proofs.ModelTrees.{Slot, lookup_slots, Chain}
use Rattle.tree.proofs.ReplacedRows.{tests, split}
use Rattle.tree.proofs.SlotCuts.{lookup_append}
use Rattle.tree.proofs.GainedSlots.{more, more_first, lower_slot, upper_slot}
use Rattle.tree.proofs.SlotLaws.{chain_more, lookup_above, lookup_more}

-- The values of a page's slots after a step.
module _ {A : Type 0} (P : ℕ → ℕ → ℕ → A → Type 0) (F : A → ℕ) (q k v lo hi : ℕ) (xs : List (Slot A)) (y : Slot A) (ys : List (Slot A))
    (c : Chain P lo y.entry.low xs) (d : Chain P y.entry.high hi ys) (i : y.entry.low ≤ k) (j : k < y.entry.high)
    (b : q < hi) where
  pub lookup_here : y.entry.low ≡ k → lookup_slots q F (xs ++ (more v y ∷ ys)) ≈ lookup_slots q F (xs ++ (y ∷ ys)) + only_if (leb k q) v
  lookup_here e = go (split k q)
    where
      go : (k ≤ q) ⊎ (q < k) → lookup_slots q F (xs ++ (more v y ∷ ys)) ≈ lookup_slots q F (xs ++ (y ∷ ys)) + only_if (leb k q) v
      go (inl h) = let l : y.entry.low ≤ q = omega arith in simp (lookup_append, tests) (omega arith)
      go (inr h) = let l : q < y.entry.low = omega arith in simp (lookup_append, tests) (omega arith)

  -- Slots zs for the slot y, over its range.
  pub lookup_next : (zs : List (Slot A))
      → lookup_slots q F zs ≈ only_if (leb y.entry.low q)
      (y.entry.amount + only_if (ltb q y.entry.high) (F y.below + only_if (leb k q) v))
      → y.entry.low < k → lookup_slots q F (xs ++ (zs ++ more_first v ys)) ≈ lookup_slots q F (xs ++ (y ∷ ys)) + only_if (leb k q) v
  lookup_next zs e l = go (split k q) (split y.entry.high q) (split y.entry.low q)
    where
      go : (k ≤ q) ⊎ (q < k) → (y.entry.high ≤ q) ⊎ (q < y.entry.high) → (y.entry.low ≤ q) ⊎ (q < y.entry.low)
          → lookup_slots q F (xs ++ (zs ++ more_first v ys)) ≈ lookup_slots q F (xs ++ (y ∷ ys)) + only_if (leb k q) v
      go (inl h) (inl m) z =
          let n : y.entry.low ≤ q = omega arith in
          simp (lookup_append, tests) (omega (arith, simp tests at e, lookup_more P q F v y.entry.high hi ys d (omega arith) m))
      go (inr h) (inl m) z = absurd (omega arith)
      go h (inr m) (inl z) =
          simp (
            lookup_append,
            tests,
            lookup_above P q F y.entry.high hi ys d m,
            lookup_above P q F y.entry.high hi (more_first v ys)
                (chain_more P v y.entry.high hi ys d) m,
          )
          (omega (arith, simp tests at e))
      go h (inr m) (inr z) =
          let n : q < k = omega arith in
          simp (
            lookup_append,
            tests,
            lookup_above P q F y.entry.high hi ys d m,
            lookup_above P q F y.entry.high hi (more_first v ys)
                (chain_more P v y.entry.high hi ys d) m,
          )
          (omega (arith, simp tests at e))

  -- In a leaf nothing stands under a slot.
  pub lookup_cut : ((x : A) → F x ≡ 0) → y.entry.low < k
      → lookup_slots q F (xs ++ (lower_slot k y ∷ (upper_slot k v y ∷ ys))) ≈ lookup_slots q F (xs ++ (y ∷ ys)) + only_if (leb k q) v
  lookup_cut z l = go (split k q) (split y.entry.low q)
    where
      go : (k ≤ q) ⊎ (q < k) → (y.entry.low ≤ q) ⊎ (q < y.entry.low)
          → lookup_slots q F (xs ++ (lower_slot k y ∷ (upper_slot k v y ∷ ys))) ≈ lookup_slots q F (xs ++ (y ∷ ys)) + only_if (leb k q) v
      go (inl h) w = let n : y.entry.low ≤ q = omega arith in simp (lookup_append, z, tests) (omega arith)
      go (inr h) (inl w) = let n : q < y.entry.high = omega arith in simp (lookup_append, z, tests) (omega arith)
      go (inr h) (inr w) = simp (lookup_append, z, tests) (omega arith)
