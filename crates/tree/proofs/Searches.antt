-- The rows that the steps of an entry look for, in a page whose live rows are the slots of a chain.
-- Around the slot that holds the key: the row with the key inside, and the first row at the key or above.
use Prim.Native.Nat.{ℕ, ◌≤◌, ◌<◌}
use native.Mathlib.Omega.{arith}
use mathlib.Core.Path.{◌≡◌, refl, ◌∙◌}
use mathlib.Core.Bool.{Bool, true, false, cond, ◌&&◌}
use mathlib.Core.List.{List, [], ◌∷◌, ◌++◌, map}
use lib.Dec.{leb, ltb}
use Rattle.words.specs.Lists.{All}
use Rattle.tree.specs.TrueValue.{Search, none, one, first}
use Rattle.tree.proofs.ModelPages.{Entry}
use Rattle.tree.proofs.ModelTrees.{Slot, Chain}
use Rattle.tree.proofs.ReplacedRows.{tests}
use Rattle.tree.proofs.HeldTrees.{chain_le}
use Rattle.tree.proofs.OrderedSlots.{entries_of}

-- What a search found has what all items have
pub first_has : {A : Type 0} (P : A → Type 0) (test : A → Bool) (xs : List A) → All P xs → {x : A} → first test xs ≡ one x → P x
unfolding first
first_has P test [] h {x} e = let z : ◌≡◌ {A = ℕ} 0 1 = cc in absurd (omega arith)
first_has {A} P test (y ∷ ys) h {x} e = go (test y) (λ f. first_has P test ys h.1 f) e
  where
    go : (b : Bool) → (first test ys ≡ one x → P x) → cond b (one y) (first test ys) ≡ one x → P x
    go true ih f = let g : y ≡ x = cc in rw (← g) h.0
    go false ih f = ih f

-- and passes its test
pub first_passes : {A : Type 0} (test : A → Bool) (xs : List A) {x : A} → first test xs ≡ one x → test x ≡ true
unfolding first
first_passes test [] {x} e = let z : ◌≡◌ {A = ℕ} 0 1 = cc in absurd (omega arith)
first_passes {A} test (y ∷ ys) {x} e = go (test y) refl (λ f. first_passes test ys f) e
  where
    go : (b : Bool) → test y ≡ b → (first test ys ≡ one x → test x ≡ true) → cond b (one y) (first test ys) ≡ one x → test x ≡ true
    go true h ih f = let g : y ≡ x = cc in rw (← g) h
    go false h ih f = ih f

-- A search that looks at items through a function
abbrev pub map_search : {A B : Type 0} → (A → B) → Search A → Search B
map_search f none = none
map_search f (one x) = one (f x)

pub first_map : {A B : Type 0} (f : A → B) (test : B → Bool) (xs : List A)
    → map_search f (first (λ (x : A). test (f x)) xs) ≡ first test (map f xs)
unfolding first
first_map f test [] = refl
first_map {A} f test (x ∷ xs) = go (test (f x)) (first_map f test xs)
  where
    go : (b : Bool) → map_search f (first (λ (x : A). test (f x)) xs) ≡ first test (map f xs)
        → map_search f (cond b (one x) (first (λ (x : A). test (f x)) xs)) ≡ cond b (one (f x)) (first test (map f xs))
    go true ih = refl
    go false ih = ih

-- "low key < k < high key"
abbrev pub inside : ℕ → Entry → Bool
inside k e = ltb e.low k && ltb k e.high

-- "with low key ≥ k"
abbrev pub from : ℕ → Entry → Bool
from k e = leb k e.low

-- "low key ≤ k < high key"
abbrev pub holding : ℕ → Entry → Bool
holding k e = leb e.low k && ltb k e.high

module _ {A : Type 0} (P : ℕ → ℕ → ℕ → A → Type 0) (k : ℕ) where
  -- Slots below the key are passed over
  inside_below : (lo mid : ℕ) (xs rest : List (Slot A)) → Chain P lo mid xs → mid ≤ k
      → first (inside k) (entries_of (xs ++ rest)) ≡ first (inside k) (entries_of rest)
  unfolding first
  inside_below lo mid [] rest c h = refl
  inside_below lo mid (x ∷ xs) rest c h =
      let l = chain_le P x.entry.high mid xs c.rest in
      let a : x.entry.low < k = omega arith in
      let b : x.entry.high ≤ k = omega arith in
      simp tests (inside_below x.entry.high mid xs rest c.rest h)

  from_below : (lo mid : ℕ) (xs rest : List (Slot A)) → Chain P lo mid xs → mid ≤ k
      → first (from k) (entries_of (xs ++ rest)) ≡ first (from k) (entries_of rest)
  unfolding first
  from_below lo mid [] rest c h = refl
  from_below lo mid (x ∷ xs) rest c h =
      let l = chain_le P x.entry.high mid xs c.rest in
      let a : x.entry.low < k = omega arith in
      simp tests (from_below x.entry.high mid xs rest c.rest h)

  holding_below : (lo mid : ℕ) (xs rest : List (Slot A)) → Chain P lo mid xs → mid ≤ k
      → first (holding k) (entries_of (xs ++ rest)) ≡ first (holding k) (entries_of rest)
  unfolding first
  holding_below lo mid [] rest c h = refl
  holding_below lo mid (x ∷ xs) rest c h =
      let l = chain_le P x.entry.high mid xs c.rest in
      let a : x.entry.low ≤ k = omega arith in
      let b : x.entry.high ≤ k = omega arith in
      simp tests (holding_below x.entry.high mid xs rest c.rest h)

  -- Slots above the key do not have it inside
  inside_above : (lo hi : ℕ) (ys : List (Slot A)) → Chain P lo hi ys → k < lo → first (inside k) (entries_of ys) ≡ none
  unfolding first
  inside_above lo hi [] c h = refl
  inside_above lo hi (y ∷ ys) c h =
      let a : k ≤ y.entry.low = omega arith in
      simp tests (inside_above y.entry.high hi ys c.rest (omega arith))

  module _ (lo hi : ℕ) (xs : List (Slot A)) (y : Slot A) (ys : List (Slot A)) (c : Chain P lo y.entry.low xs)
      (i : y.entry.low ≤ k) (j : k < y.entry.high) (d : Chain P y.entry.high hi ys) where
    pub holding_some : first (holding k) (entries_of (xs ++ (y ∷ ys))) ≡ one y.entry
    unfolding first
    holding_some = holding_below lo y.entry.low xs (y ∷ ys) c i ∙ here
      where
        here : first (holding k) (y.entry ∷ entries_of ys) ≡ one y.entry
        here = simp tests

    pub inside_some : y.entry.low < k → first (inside k) (entries_of (xs ++ (y ∷ ys))) ≡ one y.entry
    unfolding first
    inside_some l = inside_below lo y.entry.low xs (y ∷ ys) c i ∙ here
      where
        here : first (inside k) (y.entry ∷ entries_of ys) ≡ one y.entry
        here = simp tests

    pub inside_none : k ≤ y.entry.low → first (inside k) (entries_of (xs ++ (y ∷ ys))) ≡ none
    unfolding first
    inside_none l = inside_below lo y.entry.low xs (y ∷ ys) c i ∙ here
      where
        here : first (inside k) (y.entry ∷ entries_of ys) ≡ none
        here = simp tests (inside_above y.entry.high hi ys d j)

    pub from_here : k ≤ y.entry.low → first (from k) (entries_of (xs ++ (y ∷ ys))) ≡ one y.entry
    unfolding first
    from_here l = from_below lo y.entry.low xs (y ∷ ys) c i ∙ here
      where
        here : first (from k) (y.entry ∷ entries_of ys) ≡ one y.entry
        here = simp tests

    pub from_last : y.entry.low < k → ys ≡ [] → first (from k) (entries_of (xs ++ (y ∷ ys))) ≡ none
    unfolding first
    from_last l e = from_below lo y.entry.low xs (y ∷ ys) c i ∙ here
      where
        here : first (from k) (y.entry ∷ entries_of ys) ≡ none
        here = rw e (simp tests)

    pub from_next : (z : Slot A) (zs : List (Slot A)) → y.entry.low < k → ys ≡ z ∷ zs → y.entry.high ≡ z.entry.low
        → first (from k) (entries_of (xs ++ (y ∷ ys))) ≡ one z.entry
    unfolding first
    from_next z zs l e f = from_below lo y.entry.low xs (y ∷ ys) c i ∙ here
      where
        here : first (from k) (y.entry ∷ entries_of ys) ≡ one z.entry
        here = let a : k ≤ z.entry.low = omega arith in rw e (simp tests)
