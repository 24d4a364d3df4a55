-- What the steps of an entry have to know of a kind of page, leaf or index, so that they are proved once for both.
use Prim.Native.Nat.{ℕ, ◌+◌, ◌≤◌, ◌<◌, suc}
use native.Mathlib.Omega.{arith}
use mathlib.Core.Path.{◌≡◌, refl}
use mathlib.Core.List.{List}
use mathlib.Core.Bool.{Bool, cond}
use lib.ListN.{length}
use Rattle.tree.specs.Row.{row_limit, copy_limit}
use Rattle.tree.proofs.ModelPages.{Page}
use Rattle.tree.proofs.ModelTrees.{Slot, lookup_slots, Held, Alike, Tree, Holds, lookup_tree}
use Rattle.tree.proofs.ModelPromise.{All, sum_below, leaf_potential, index_potential, potential, Filled}
use Rattle.tree.proofs.GainedSlots.{more}
use Rattle.tree.proofs.HeldTrees.{holds_frame, tree_potential_frame}

-- A kind of page of level n, at tick t; A is what stands under a slot
pub record PageKind (A : Type 0) (n t : ℕ) : Type 1 where
  -- What a store, of which such pages are in use, must have under a slot of a key range and a child page. It looks at lower levels only.
  pub under : (s : ℕ → Page) → (In : ℕ → Type 0) → (lo hi child : ℕ) → A → Type 0
  pub under_frame : (s s' : ℕ → Page) (In In' : ℕ → Type 0) (a b c : ℕ) (x : A)
      → ((z : ℕ) → In z → (s z).level < n → In' z × Alike t (s' z) (s z)) → under s In a b c x → under s' In' a b c x
  -- The lookup under a slot
  pub lookup_in : A → ℕ → ℕ
  -- The potential under a slot with a child page, and that of a page itself, with r rows of which l are live
  pub potential_in : (ℕ → Page) → ℕ → A → ℕ
  pub potential_frame : (s s' : ℕ → Page) (In : ℕ → Type 0) (a b c : ℕ) (x : A)
      → ((z : ℕ) → In z → (s z).level < n → s' z ≡ s z) → under s In a b c x → potential_in s' c x ≡ potential_in s c x
  pub own : ℕ → ℕ → ℕ
  pub copy_frees : (r l : ℕ) → row_limit < r → l ≤ copy_limit → l ≤ r → own l l + 19 ≤ own r l
  pub two_free : (r l a b : ℕ) → row_limit < r → copy_limit < l → l ≤ r → a + b ≡ l → 20 ≤ a → 20 ≤ b → own a a + own b b + 39 ≤ own r l
  -- How full what stands under a slot is
  pub Fill : Slot A → Type 0
  pub fill_more : (v : ℕ) (y : Slot A) → Fill y → Fill (more v y)

module _ {A : Type 0} {n t : ℕ} (kind : PageKind A n t) where
  abbrev pub held_page : (s : ℕ → Page) → (In : ℕ → Type 0) → (lo hi p : ℕ) → List (Slot A) → Type 0
  held_page s In lo hi p tr = Held (kind.under s In) n s In t lo hi p tr

  abbrev pub page_lookup : List (Slot A) → ℕ → ℕ
  page_lookup tr q = lookup_slots q (λ x. kind.lookup_in x q) tr

  abbrev pub page_potential : (ℕ → Page) → ℕ → List (Slot A) → ℕ
  page_potential s p tr = kind.own (length (s p).rows) (length tr) + sum_below (kind.potential_in s) tr

  -- Full enough: as many slots as before, and each of two pages at least 20
  abbrev pub Enough : ℕ → Bool → (lo hi page : ℕ) → List (Slot A) → Type 0
  Enough before are_two lo hi page tr = All kind.Fill tr × (cond are_two 20 before ≤ length tr)

pub leaf_copy : (r l : ℕ) → row_limit < r → l ≤ copy_limit → l ≤ r → leaf_potential l l + 19 ≤ leaf_potential r l
leaf_copy r l a b c = omega arith

pub leaf_two : (r l a b : ℕ) → row_limit < r → copy_limit < l → l ≤ r → a + b ≡ l → 20 ≤ a → 20 ≤ b
    → leaf_potential a a + leaf_potential b b + 39 ≤ leaf_potential r l
leaf_two r l a b h i j k m n = omega arith

pub index_copy : (r l : ℕ) → row_limit < r → l ≤ copy_limit → l ≤ r → index_potential l l + 19 ≤ index_potential r l
index_copy r l a b c = omega arith

pub index_two : (r l a b : ℕ) → row_limit < r → copy_limit < l → l ≤ r → a + b ≡ l → 20 ≤ a → 20 ≤ b
    → index_potential a a + index_potential b b + 39 ≤ index_potential r l
index_two r l a b h i j k m n = omega arith

abbrev pub Leaf : ℕ → ℕ → ℕ → Unit {0} → Type 0
Leaf a b c x = Unit {0}

pub frame_below : (t n : ℕ) (s s' : ℕ → Page) (In In' : ℕ → Type 0) (a b c : ℕ) (x : Tree n)
    → ((z : ℕ) → In z → (s z).level < suc n → In' z × Alike t (s' z) (s z)) → Holds n s In t a b c x → Holds n s' In' t a b c x
frame_below t n s s' In In' a b c x h w = holds_frame n s s' In In' t a b c x (λ z e d f g j. h z e (omega arith)) w

pub potential_below : (t n : ℕ) (s s' : ℕ → Page) (In : ℕ → Type 0) (a b c : ℕ) (x : Tree n)
    → ((z : ℕ) → In z → (s z).level < suc n → s' z ≡ s z) → Holds n s In t a b c x → potential n s' c x ≡ potential n s c x
potential_below t n s s' In a b c x k w = tree_potential_frame n s s' In t a b c x (λ z e f g j. k z e (omega arith)) w

-- The two kinds of page
abbrev pub leaf_kind : (ℕ → Type 0) → (t : ℕ) → PageKind (Unit {0}) 0 t
leaf_kind IsKnown t =
    record {
      under = λ s In. Leaf;
      under_frame = λ s s' In In' a b c x h w. tt;
      lookup_in = λ x q. 0;
      potential_in = λ s c x. 0;
      potential_frame = λ s s' In a b c x h w. refl;
      own = leaf_potential;
      copy_frees = leaf_copy;
      two_free = leaf_two;
      Fill = λ y. IsKnown y.entry.low;
      fill_more = λ v y g. g;
    }

abbrev pub index_kind : (ℕ → Type 0) → (t n : ℕ) → PageKind (Tree n) (suc n) t
index_kind IsKnown t n =
    record {
      under = λ s In. Holds n s In t;
      under_frame = frame_below t n;
      lookup_in = λ x q. lookup_tree n q x;
      potential_in = potential n;
      potential_frame = potential_below t n;
      own = index_potential;
      copy_frees = index_copy;
      two_free = index_two;
      Fill = Filled IsKnown n;
      fill_more = λ v y g. g;
    }
