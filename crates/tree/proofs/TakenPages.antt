-- Pages in use and pages that a call takes, whatever says which they are: a predicate and an allocation.
use Prim.Native.Nat.{ℕ, suc, ◌≤◌, ◌<◌}
use native.Mathlib.Omega.{arith}
use native.Mathlib.Decide.{ℕ_discrete}
use mathlib.Core.Path.{◌≡◌, sym, ap, ◌∙◌}
use mathlib.Core.Logic.{◌⊎◌, inl, inr}

-- One of the first m pages of an allocation
pub record Taken (alloc : ℕ → ℕ) (m x : ℕ) : Type 0 where
  pub place : ℕ
  pub early : place < m
  pub is : x ≡ alloc place

-- In use after the first m pages were taken
abbrev pub After : (ℕ → Type 0) → (ℕ → ℕ) → ℕ → ℕ → Type 0
After In alloc m x = In x ⊎ Taken alloc m x

-- None of the pages that are still to be taken
abbrev pub Untaken : (ℕ → ℕ) → ℕ → ℕ → Type 0
Untaken alloc m x = (i : ℕ) → m ≤ i → x ≡ alloc i → ⊥

-- An allocation takes pages that are not in use, each once
pub record Allocates (In : ℕ → Type 0) (alloc : ℕ → ℕ) : Type 0 where
  pub new : (x i : ℕ) → In x → x ≡ alloc i → ⊥
  pub once : (i j : ℕ) → alloc i ≡ alloc j → i ≡ j

module _ (In : ℕ → Type 0) (alloc : ℕ → ℕ) where
  pub after_none : (x : ℕ) → After In alloc 0 x → In x
  after_none x (inl h) = h
  after_none x (inr h) = absurd (omega (arith, h.early))

  pub after_more : (m k x : ℕ) → m ≤ k → After In alloc m x → After In alloc k x
  after_more m k x l (inl h) = inl h
  after_more m k x l (inr h) = inr (record { place = h.place; early = omega (arith, h.early); is = h.is })

  pub after_new : (i m x : ℕ) → i < m → x ≡ alloc i → After In alloc m x
  after_new i m x l e = inr (record { place = i; early = l; is = e })

  pub after_less : (m x : ℕ) → (x ≡ alloc m → ⊥) → After In alloc (suc m) x → After In alloc m x
  after_less m x n (inl h) = inl h
  after_less m x n (inr h) = go (ℕ_discrete h.place m)
    where
      go : Dec (h.place ≡ m) → After In alloc m x
      go (yes e) = absurd (n (h.is ∙ ap alloc e))
      go (no e) = inr (record { place = h.place; early = omega (arith, h.early); is = h.is })

  pub untaken : Allocates In alloc → (m x : ℕ) → After In alloc m x → Untaken alloc m x
  untaken al m x (inl h) i l e = al.new x i h e
  untaken al m x (inr h) i l e = omega (arith, h.early, al.once h.place i (sym h.is ∙ e))
