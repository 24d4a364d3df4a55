-- The tree that the model's pages hold at a tick: each page's live rows in key order, each with the tree under it.
use Prim.Native.Nat.{ℕ, zero, suc, ◌+◌, ◌<◌, ◌≤◌}
use mathlib.Core.Path.{◌≡◌}
use mathlib.Core.List.{List, [], ◌∷◌}
use lib.Dec.{leb, ltb}
use Rattle.tree.proofs.ModelPages.{only_if, Entry, Page, sum_live}

-- A live row, and what stands under it: nothing in a leaf
pub record Slot (A : Type 0) : Type 0 where
  pub entry : Entry
  pub below : A

-- A tree of a level
abbrev pub Tree : ℕ → Type 0
Tree zero = List (Slot (Unit {0}))
Tree (suc n) = List (Slot (Tree n))

module _ {A : Type 0} where
  abbrev pub sum_slots : (Entry → ℕ) → List (Slot A) → ℕ
  sum_slots f [] = 0
  sum_slots f (y ∷ ys) = f y.entry + sum_slots f ys

  -- What a lookup of key q adds in these slots; F looks up in what stands under a slot
  abbrev pub lookup_slots : ℕ → (A → ℕ) → List (Slot A) → ℕ
  lookup_slots q F [] = 0
  lookup_slots q F (y ∷ ys) =
      only_if (leb y.entry.low q) (y.entry.amount + only_if (ltb q y.entry.high) (F y.below)) + lookup_slots q F ys

  -- The slots cover the keys from lo up to hi, one behind the other, none empty; P says what stands under a slot of a key range and a
  -- child page
  abbrev pub Chain : (ℕ → ℕ → ℕ → A → Type 0) → ℕ → ℕ → List (Slot A) → Type 0
  Chain P lo hi [] = lo ≡ hi
  Chain P lo hi (y ∷ ys) =
      record {
        first : y.entry.low ≡ lo;
        some : lo < y.entry.high;
        under : P lo y.entry.high y.entry.page y.below;
        rest : Chain P y.entry.high hi ys;
      }

  -- Page p of the store s, of which the pages In are in use, is of level n over keys lo up to hi, was born by t, and its rows live at t are
  -- these slots
  pub record Held (P : ℕ → ℕ → ℕ → A → Type 0) (n : ℕ) (s : ℕ → Page) (In : ℕ → Type 0) (t lo hi p : ℕ) (tr : List (Slot A)) : Type 0 where
    pub wide : lo < hi
    pub is_in_use : In p
    pub born : (s p).birth ≤ t
    pub level : (s p).level ≡ n
    pub low : (s p).low ≡ lo
    pub high : (s p).high ≡ hi
    pub same : (f : Entry → ℕ) → sum_slots f tr ≡ sum_live t f (s p).rows
    pub chain : Chain P lo hi tr

abbrev pub lookup_tree : (n : ℕ) → ℕ → Tree n → ℕ
lookup_tree zero q tr = lookup_slots q (λ x. 0) tr
lookup_tree (suc n) q tr = lookup_slots q (lookup_tree n q) tr

-- Page p, and the pages under it, hold this tree at t
abbrev pub Holds : (n : ℕ) → (s : ℕ → Page) → (In : ℕ → Type 0) → (t lo hi p : ℕ) → Tree n → Type 0
Holds zero s In t lo hi p tr = Held (λ a b c x. Unit {0}) 0 s In t lo hi p tr
Holds (suc n) s In t lo hi p tr = Held (Holds n s In t) (suc n) s In t lo hi p tr

-- Page x is to a reader at tick t what page y is to one at tick w
pub record Seen (t w : ℕ) (x y : Page) : Type 0 where
  pub level : x.level ≡ y.level
  pub low : x.low ≡ y.low
  pub high : x.high ≡ y.high
  pub birth : x.birth ≡ y.birth
  pub rows : (f : Entry → ℕ) → sum_live t f x.rows ≡ sum_live w f y.rows

abbrev pub Alike : ℕ → Page → Page → Type 0
Alike t x y = Seen t t x y
