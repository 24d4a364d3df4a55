-- The model: pages whose rows are born and end. A row's value is one plain number here, its amount, which a measure reads of our value.
use Prim.Native.Nat.{ℕ, ◌+◌, ◌%◌}
use mathlib.Core.Path.{◌≡◌}
use mathlib.Core.List.{List, [], ◌∷◌, ◌++◌}
use mathlib.Core.Bool.{Bool, true, false, cond, ◌&&◌}
use lib.Dec.{leb, ltb, eqb}
use Rattle.words.specs.Words.{open_end}
use Rattle.tree.specs.Row.{live_for}
use Rattle.tree.specs.KeyOrder.{sort_by}

-- A number where a test holds, else 0
abbrev pub only_if : Bool → ℕ → ℕ
only_if true v = v
only_if false v = 0

-- Equal modulo 2^64
infix 40 ◌≈◌
abbrev pub ◌≈◌ : ℕ → ℕ → Type 0
a ≈ b = a % 18446744073709551616 ≡ b % 18446744073709551616

-- A row without its life: key range, amount, child page (0 in a leaf)
pub record Entry : Type 0 where
  pub low : ℕ
  pub high : ℕ
  pub amount : ℕ
  pub page : ℕ

pub record Row : Type 0 where
  pub birth : ℕ
  pub end : ℕ
  pub entry : Entry

pub record Page : Type 0 where
  pub level : ℕ
  pub low : ℕ
  pub high : ℕ
  pub birth : ℕ
  pub rows : List Row

abbrev pub live : ℕ → Row → Bool
live t r = live_for r.birth r.end t

-- Numbers added up over entries, and over the rows live at t. Two lists of rows are alike to a reader at t where all such sums are the
-- same:
-- so the order of rows never matters
abbrev pub sum_entries : (Entry → ℕ) → List Entry → ℕ
sum_entries f [] = 0
sum_entries f (e ∷ es) = f e + sum_entries f es

abbrev pub sum_live : ℕ → (Entry → ℕ) → List Row → ℕ
sum_live t f [] = 0
sum_live t f (r ∷ rs) = only_if (live t r) (f r.entry) + sum_live t f rs

-- A field of the live row that holds k
abbrev pub field_holding : ℕ → ℕ → (Entry → ℕ) → List Row → ℕ
field_holding t k g rs = sum_live t (λ e. only_if (leb e.low k) (only_if (ltb k e.high) (g e))) rs

-- The entries of the rows live at t, in key order
abbrev pub live_entries : ℕ → List Row → List Entry
live_entries t [] = []
live_entries t (r ∷ rs) = cond (live t r) (r.entry ∷ live_entries t rs) (live_entries t rs)

abbrev pub low_key_of : Entry → ℕ
low_key_of e = e.low

unfoldable pub ordered_entries : ℕ → List Row → List Entry
ordered_entries t rs = sort_by low_key_of (live_entries t rs)

-- Rows born at t and open
abbrev pub born : ℕ → Entry → Row
born t e = record { birth = t; end = open_end; entry = e }

abbrev pub born_all : ℕ → List Entry → List Row
born_all t [] = []
born_all t (e ∷ es) = born t e ∷ born_all t es

-- Steps 2, 3, 4 and 7 in one: the live row with low key m becomes the entry `a` of it, and the entries `b` of it follow.
-- A row born at t is altered where it is; any other ends at t.
abbrev pub is_replaced : ℕ → ℕ → Row → Bool
is_replaced t m r = live t r && eqb r.entry.low m

module _ (t m : ℕ) (a : Entry → Entry) (b : Entry → List Entry) where
  abbrev pub keep : Row → Row
  keep r =
      cond
      (is_replaced t m r)
      (cond
      (eqb r.birth t)
      (record { birth = r.birth; end = r.end; entry = a r.entry })
      (record { birth = r.birth; end = t; entry = r.entry }))
      r

  abbrev pub kept : List Row → List Row
  kept [] = []
  kept (r ∷ rs) = keep r ∷ kept rs

  abbrev pub makes : Row → List Entry
  makes r = cond (is_replaced t m r) (cond (eqb r.birth t) (b r.entry) (a r.entry ∷ b r.entry)) []

  abbrev pub made : List Row → List Entry
  made [] = []
  made (r ∷ rs) = makes r ++ made rs

  abbrev pub replaced : List Row → List Row
  replaced rs = kept rs ++ born_all t (made rs)

-- A number of an entry, taken of what the entry becomes
abbrev pub after : ℕ → (Entry → Entry) → (Entry → List Entry) → (Entry → ℕ) → Entry → ℕ
after m a b f e = cond (eqb e.low m) (f (a e) + sum_entries f (b e)) (f e)
