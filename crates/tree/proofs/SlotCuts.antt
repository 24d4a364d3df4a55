-- The slots of a page around the one that holds a key, and the slots after that one was replaced.
use Prim.Native.Nat.{ℕ, ◌+◌, ◌≤◌, ◌<◌}
use native.Mathlib.Omega.{arith}
use mathlib.Core.Path.{◌≡◌, refl, sym}
use mathlib.Core.List.{List, [], ◌∷◌, ◌++◌}
use mathlib.Core.Logic.{◌⊎◌, inl, inr}
use Rattle.words.specs.Words.{open_end}
use Rattle.tree.proofs.ModelPages.{Entry, Row, sum_live, replaced, sum_entries, after}
use Rattle.tree.proofs.ModelTrees.{Slot, sum_slots, lookup_slots, Chain}
use Rattle.tree.proofs.ReplacedRows.{tests, split, sum_live_replaced}
use Rattle.tree.proofs.HeldTrees.{chain_le}

module _ {A : Type 0} (P : ℕ → ℕ → ℕ → A → Type 0) where
  -- A page's slots around the one that holds the key k.
  pub data Cut (lo hi k : ℕ) : List (Slot A) → Type 0 where
    cut : (xs : List (Slot A)) (y : Slot A) (ys : List (Slot A)) → Chain P lo y.entry.low xs → y.entry.low ≤ k
        → k < y.entry.high → P y.entry.low y.entry.high y.entry.page y.below → Chain P y.entry.high hi ys
        → Cut lo hi k (xs ++ (y ∷ ys))

  pub cut_at : (lo hi k : ℕ) (tr : List (Slot A)) → Chain P lo hi tr → lo ≤ k → k < hi → Cut lo hi k tr
  cut_at lo hi k [] c i j = absurd (omega arith)
  cut_at lo hi k (e ∷ es) c i j = go (split e.entry.high k) (λ h. cut_at e.entry.high hi k es c.rest h j)
    where
      more : Cut e.entry.high hi k es → (es' : List (Slot A)) → Cut e.entry.high hi k es' → Cut lo hi k (e ∷ es')
      more z es' (cut xs y ys a b d f g) =
          cut (e ∷ xs) y ys (record { first = c.first; some = c.some; under = c.under; rest = a }) b d f g

      go : (e.entry.high ≤ k) ⊎ (k < e.entry.high) → (e.entry.high ≤ k → Cut e.entry.high hi k es) → Cut lo hi k (e ∷ es)
      go (inl h) ih = more (ih h) es (ih h)
      go (inr h) ih = cut [] e es (sym c.first) (omega arith) h (rw (← c.first) at c.under) c.rest

  pub chain_join : (lo mid hi : ℕ) (xs ys : List (Slot A)) → Chain P lo mid xs → Chain P mid hi ys → Chain P lo hi (xs ++ ys)
  chain_join lo mid hi [] ys c d = rw c d
  chain_join lo mid hi (x ∷ xs) ys c d =
      record { first = c.first; some = c.some; under = c.under; rest = chain_join x.entry.high mid hi xs ys c.rest d }

module _ {A : Type 0} where
  pub sum_slots_append : (f : Entry → ℕ) (x y : List (Slot A)) → sum_slots f (x ++ y) ≡ sum_slots f x + sum_slots f y
  sum_slots_append f [] y = omega arith
  sum_slots_append f (r ∷ x) y = rw (sum_slots_append f x y) (omega arith)

  pub lookup_append : (q : ℕ) (F : A → ℕ) (x y : List (Slot A)) → lookup_slots q F (x ++ y) ≡ lookup_slots q F x + lookup_slots q F y
  lookup_append q F [] y = omega arith
  lookup_append q F (r ∷ x) y = rw (lookup_append q F x y) (omega arith)

  -- Slots with no low key m are not replaced.
  pub after_other : (P : ℕ → ℕ → ℕ → A → Type 0) (m : ℕ) (a : Entry → Entry) (b : Entry → List Entry) (f : Entry → ℕ) (lo hi : ℕ)
      (xs : List (Slot A))
      → Chain P lo hi xs → (m < lo) ⊎ (hi ≤ m) → sum_slots (after m a b f) xs ≡ sum_slots f xs
  after_other P m a b f lo hi [] c h = refl
  after_other P m a b f lo hi (e ∷ es) c (inl h) =
      let n : e.entry.low ≡ m → ⊥ = omega arith in
      simp (tests, after_other P m a b f e.entry.high hi es c.rest (inl (omega arith)))
  after_other P m a b f lo hi (e ∷ es) c (inr h) =
      let n : e.entry.low ≡ m → ⊥ = omega (arith, chain_le P e.entry.high hi es c.rest) in
      simp (tests, after_other P m a b f e.entry.high hi es c.rest (inr h))

  -- The rows with one live row replaced hold the slots with that slot replaced.
  pub same_replaced : (P : ℕ → ℕ → ℕ → A → Type 0) (t : ℕ) (now : t < open_end) (a : Entry → Entry) (b : Entry → List Entry) (lo hi : ℕ)
      (xs : List (Slot A)) (y : Slot A) (ys zs : List (Slot A)) (rs : List Row)
      → Chain P lo y.entry.low xs → Chain P y.entry.high hi ys → y.entry.low < y.entry.high
      → ((f : Entry → ℕ) → sum_slots f (xs ++ (y ∷ ys)) ≡ sum_live t f rs)
      → ((f : Entry → ℕ) → sum_slots f zs ≡ f (a y.entry) + sum_entries f (b y.entry)) → (f : Entry → ℕ)
      → sum_slots f (xs ++ (zs ++ ys)) ≡ sum_live t f (replaced t y.entry.low a b rs)
  same_replaced P t now a b lo hi xs y ys zs rs c d l same new f =
      let m = y.entry.low in
      let e₁ = after_other P m a b f lo m xs c (inr (omega arith)) in
      let e₂ = after_other P m a b f y.entry.high hi ys d (inl l) in
      let e₃ = same (after m a b f) in
      let r : m ≡ m = refl in
      simp (sum_live_replaced t now f m a b rs, ← e₃, sum_slots_append, new, tests) (omega arith)
