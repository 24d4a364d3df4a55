-- A tree is still held, with the same potential, where the pages of its levels and key range stay alike.
use Prim.Native.Nat.{ℕ, suc, zero, ◌≤◌, ◌<◌}
use native.Mathlib.Omega.{arith}
use mathlib.Core.Path.{◌≡◌, refl, sym, ◌∙◌}
use mathlib.Core.List.{List, [], ◌∷◌}
use Rattle.tree.proofs.ModelPages.{Page}
use Rattle.tree.proofs.ModelTrees.{Slot, Tree, Chain, Held, Holds, Seen}
use Rattle.tree.proofs.ModelPromise.{sum_below, potential}

pub chain_le : {A : Type 0} (P : ℕ → ℕ → ℕ → A → Type 0) (lo hi : ℕ) (tr : List (Slot A)) → Chain P lo hi tr → lo ≤ hi
chain_le P lo hi [] c = omega arith
chain_le P lo hi (e ∷ es) c = omega (arith, chain_le P e.entry.high hi es c.rest)

-- A tree is still held where the pages of its levels and range are alike.
module _ {A : Type 0} (P R : ℕ → ℕ → ℕ → A → Type 0) where
  pub chain_map : (lo hi : ℕ) (tr : List (Slot A)) → ((a b p : ℕ) (x : A) → lo ≤ a → b ≤ hi → P a b p x → R a b p x) → Chain P lo hi tr
      → Chain R lo hi tr
  chain_map lo hi [] k c = c
  chain_map lo hi (e ∷ es) k c =
      let l = chain_le P e.entry.high hi es c.rest in
      record {
        first = c.first;
        some = c.some;
        under = k lo e.entry.high e.entry.page e.below (omega arith) l c.under;
        rest = chain_map e.entry.high hi es (λ a b p x i j. k a b p x (omega arith) j) c.rest;
      }

  pub held_map : (n : ℕ) (s s' : ℕ → Page) (In In' : ℕ → Type 0) (t t' lo hi p : ℕ) (tr : List (Slot A)) → t ≤ t' → In' p
      → Seen t' t (s' p) (s p) → ((a b c : ℕ) (x : A) → lo ≤ a → b ≤ hi → P a b c x → R a b c x) → Held P n s In t lo hi p tr
      → Held R n s' In' t' lo hi p tr
  held_map n s s' In In' t t' lo hi p tr i j k g h =
      record {
        wide = h.wide;
        is_in_use = j;
        born = omega (arith, k.birth, h.born);
        level = k.level ∙ h.level;
        low = k.low ∙ h.low;
        high = k.high ∙ h.high;
        same = λ f. h.same f ∙ sym (k.rows f);
        chain = chain_map lo hi tr g h.chain;
      }

-- What is asked of each page that a tree may have: it is in use and was born by t; its level and low key are among the tree's
abbrev pub Moves : (n : ℕ) (s s' : ℕ → Page) (In In' : ℕ → Type 0) (t t' lo hi : ℕ) → Type 0
Moves n s s' In In' t t' lo hi =
    (x : ℕ) → In x → (s x).birth ≤ t → (s x).level ≤ n → lo ≤ (s x).low → (s x).low < hi → In' x × Seen t' t (s' x) (s x)

pub holds_move : (n : ℕ) (s s' : ℕ → Page) (In In' : ℕ → Type 0) (t t' lo hi p : ℕ) (tr : Tree n) → t ≤ t' → Moves n s s' In In' t t' lo hi
    → Holds n s In t lo hi p tr → Holds n s' In' t' lo hi p tr
holds_move zero s s' In In' t t' lo hi p tr i k h =
    let here = k p h.is_in_use h.born (omega arith) (omega arith) (omega arith) in
    held_map _ _ 0 s s' In In' t t' lo hi p tr i here.0 here.1 (λ a b c x y z w. tt) h
holds_move (suc n) s s' In In' t t' lo hi p tr i k h =
    let here = k p h.is_in_use h.born (omega arith) (omega arith) (omega arith) in
    held_map (Holds n s In t) (Holds n s' In' t') (suc n) s s' In In' t t' lo hi p tr i here.0 here.1
    (λ a b c x y z w. holds_move n s s' In In' t t' a b c x i (λ d e f g j l. k d e f (omega arith) (omega arith) (omega arith)) w)
    h

pub holds_frame : (n : ℕ) (s s' : ℕ → Page) (In In' : ℕ → Type 0) (t lo hi p : ℕ) (tr : Tree n) → Moves n s s' In In' t t lo hi
    → Holds n s In t lo hi p tr → Holds n s' In' t lo hi p tr
holds_frame n s s' In In' t lo hi p tr = holds_move n s s' In In' t t lo hi p tr (omega arith)

-- The potential of a tree whose pages are untouched.
module _ {A : Type 0} (P : ℕ → ℕ → ℕ → A → Type 0) (R R' : ℕ → A → ℕ) where
  pub below_frame : (lo hi : ℕ) (tr : List (Slot A)) → ((a b p : ℕ) (x : A) → lo ≤ a → b ≤ hi → P a b p x → R' p x ≡ R p x)
      → Chain P lo hi tr → sum_below R' tr ≡ sum_below R tr
  below_frame lo hi [] k c = refl
  below_frame lo hi (e ∷ es) k c =
      let l = chain_le P e.entry.high hi es c.rest in
      omega (
        arith,
        k lo e.entry.high e.entry.page e.below (omega arith) l c.under,
        below_frame e.entry.high hi es (λ a b p x i j. k a b p x (omega arith) j) c.rest,
      )

pub tree_potential_frame : (n : ℕ) (s s' : ℕ → Page) (In : ℕ → Type 0) (t lo hi p : ℕ) (tr : Tree n)
    → ((x : ℕ) → In x → (s x).level ≤ n → lo ≤ (s x).low → (s x).low < hi → s' x ≡ s x) → Holds n s In t lo hi p tr
    → potential n s' p tr ≡ potential n s p tr
tree_potential_frame zero s s' In t lo hi p tr k h = rw (k p h.is_in_use (omega arith) (omega arith) (omega arith))
tree_potential_frame (suc n) s s' In t lo hi p tr k h =
    rw (
      k p h.is_in_use (omega arith) (omega arith) (omega arith),
      below_frame (Holds n s In t) (potential n s) (potential n s') lo hi tr
          (λ a b c x i j w. tree_potential_frame n s s' In t a b c x (λ z d e f g. k z d (omega arith) (omega arith) (omega arith)) w)
          h.chain,
    )
