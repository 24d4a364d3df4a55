-- Entering a point into the model: document 01, steps 1 to 8.
use Prim.Native.Nat.{ℕ, zero, suc, ◌+◌, ◌%◌}
use mathlib.Core.List.{List, [], ◌∷◌}
use mathlib.Core.Bool.{cond}
use lib.ListN.{length, take, drop}
use lib.Dec.{leb, ltb, eqb}
use Rattle.words.specs.Words.{key_limit}
use Rattle.tree.specs.Overflow.{lower_half}
use Rattle.tree.specs.Row.{row_limit, copy_limit}
use Rattle.tree.proofs.ModelPages.{Entry, Row, Page, sum_entries, field_holding, ordered_entries, born_all, replaced}

-- What a page became: it stays, or its rows went to one new page, or to two that are cut at a key
pub data Parts : Type 0 where
  stay : Parts
  copy : ℕ → Parts
  two : ℕ → ℕ → ℕ → Parts

-- The pages, how many of them the call took so far, and what the page at hand became
pub record Outcome : Type 0 where
  pub store : ℕ → Page
  pub made : ℕ
  pub parts : Parts

abbrev pub put_at : (ℕ → Page) → ℕ → Page → ℕ → Page
put_at s p g x = cond (eqb x p) g (s x)

abbrev pub plus_amount : ℕ → Entry → Entry
plus_amount v e = record { low = e.low; high = e.high; amount = (e.amount + v) % 18446744073709551616; page = e.page }

abbrev pub none_further : Entry → List Entry
none_further e = []

abbrev pub total_amount : List Entry → ℕ
total_amount es = sum_entries (λ e. e.amount) es

-- Step 6
abbrev pub plus_first : ℕ → List Entry → List Entry
plus_first v [] = []
plus_first v (e ∷ es) = plus_amount v e ∷ es

abbrev pub lowest_of : ℕ → List Entry → ℕ
lowest_of default [] = default
lowest_of default (e ∷ es) = e.low

abbrev pub new_page : (t n lo hi : ℕ) → List Entry → Page
new_page t n lo hi es = record { level = n; low = lo; high = hi; birth = t; rows = born_all t es }

-- Step 5: the live rows of the page g go to two new pages, or to one. `alloc` allocates: the call has taken m pages before.
abbrev pub halved : ℕ → (ℕ → Page) → (ℕ → ℕ) → ℕ → Page → List Entry → List Entry → Outcome
halved t s alloc m g lower upper =
    record {
      store =
          put_at
          (put_at s (alloc m) (new_page t g.level g.low (lowest_of g.high upper) lower))
          (alloc (suc m))
          (new_page t g.level (lowest_of g.high upper) g.high (plus_first (total_amount lower) upper));
      made = suc (suc m);
      parts = two (alloc m) (alloc (suc m)) (lowest_of g.high upper);
    }

abbrev pub moved : ℕ → (ℕ → Page) → (ℕ → ℕ) → ℕ → Page → List Entry → Outcome
moved t s alloc m g es =
    cond
    (leb (length es) copy_limit)
    (record { store = put_at s (alloc m) (new_page t g.level g.low g.high es); made = suc m; parts = copy (alloc m) })
    (halved t s alloc m g (take (lower_half (length es)) es) (drop (lower_half (length es)) es))

-- Step 5: the page p takes these rows, or its live rows go to new pages
abbrev pub finish : ℕ → (ℕ → Page) → (ℕ → ℕ) → (m p : ℕ) → List Row → Outcome
finish t s alloc m p rs =
    cond
    (leb (length rs) row_limit)
    (record {
      store = put_at s p (record { level = (s p).level; low = (s p).low; high = (s p).high; birth = (s p).birth; rows = rs });
      made = m;
      parts = stay;
    })
    (moved t s alloc m (s p) (ordered_entries t rs))

-- A row that points to another page; the two rows for a page that went to two, the second of which is worth nothing
abbrev pub pointed_to : ℕ → Entry → Entry
pointed_to p e = record { low = e.low; high = e.high; amount = e.amount; page = p }

abbrev pub first_half : ℕ → ℕ → Entry → Entry
first_half middle p e = record { low = e.low; high = middle; amount = e.amount; page = p }

abbrev pub second_half : ℕ → ℕ → Entry → Entry
second_half middle p e = record { low = middle; high = e.high; amount = 0; page = p }

-- Step 7: the row with low key m points to what its child became
abbrev pub relink : ℕ → ℕ → Parts → List Row → List Row
relink t m stay rs = rs
relink t m (copy p) rs = replaced t m (pointed_to p) none_further rs
relink t m (two p r middle) rs = replaced t m (first_half middle p) (λ e. second_half middle r e ∷ []) rs

-- Step 3: the first row at key k or above gains v. It starts at k, or where the row that has k inside ends.
abbrev pub gained : ℕ → ℕ → ℕ → List Row → List Row
gained t k v rs =
    replaced t
    (cond (ltb (field_holding t k (λ e. e.low) rs) k) (field_holding t k (λ e. e.high) rs) k)
    (plus_amount v) none_further rs

-- Step 2: in a leaf the row that has k inside becomes two
abbrev pub lower_part : ℕ → Entry → Entry
lower_part k e = record { low = e.low; high = k; amount = e.amount; page = e.page }

abbrev pub upper_part : ℕ → ℕ → Entry → Entry
upper_part k v e = record { low = k; high = e.high; amount = v; page = 0 }

abbrev pub cut_row : ℕ → ℕ → ℕ → List Row → List Row
cut_row t k v rs =
    replaced t
    (field_holding t k (λ e. e.low) rs)
    (lower_part k) (λ e. upper_part k v e ∷ [])
    rs

-- A page above the lowest one, after the call came back from its child
abbrev pub upward : ℕ → ℕ → ℕ → (ℕ → Page) → (ℕ → ℕ) → ℕ → Outcome → Outcome
upward t k v s alloc p o =
    finish t o.store alloc o.made p
    (relink t (field_holding t k (λ e. e.low) (s p).rows) o.parts (gained t k v (s p).rows))

-- Steps 1 to 7 from page p of level n down
abbrev pub enter : (n : ℕ) → ℕ → ℕ → ℕ → (ℕ → Page) → (ℕ → ℕ) → ℕ → Outcome
enter zero t k v s alloc p =
    finish t s alloc 0 p
    (cond (ltb (field_holding t k (λ e. e.low) (s p).rows) k) (cut_row t k v (s p).rows) (gained t k v (s p).rows))
enter (suc n) t k v s alloc p =
    cond
    (ltb (field_holding t k (λ e. e.low) (s p).rows) k)
    (upward t k v s alloc p (enter n t k v s alloc (field_holding t k (λ e. e.page) (s p).rows)))
    (finish t s alloc 0 p (gained t k v (s p).rows))

-- A root that counts from tick t on
abbrev pub add_root : ℕ → ℕ → (ℕ → ℕ) → ℕ → ℕ
add_root t p root w = cond (leb t w) p (root w)

-- Step 8
abbrev pub top_rows : ℕ → ℕ → ℕ → List Entry
top_rows lower upper middle =
    record { low = 0; high = middle; amount = 0; page = lower } ∷ (record { low = middle; high = key_limit; amount = 0; page = upper } ∷ [])

-- The whole tree after an entry: its pages, how many of them the entry took, and the page of the root for each tick
pub record Grown : Type 0 where
  pub store : ℕ → Page
  pub made : ℕ
  pub root : ℕ → ℕ

abbrev pub grown : ℕ → ℕ → (ℕ → ℕ) → (ℕ → Page) → (ℕ → ℕ) → ℕ → Parts → Grown
grown t n root s alloc m stay = record { store = s; made = m; root = root }
grown t n root s alloc m (copy x) = record { store = s; made = m; root = add_root t x root }
grown t n root s alloc m (two x y middle) =
    record {
      store = put_at s (alloc m) (new_page t (suc n) 0 key_limit (top_rows x y middle));
      made = suc m;
      root = add_root t (alloc m) root;
    }

-- The whole entry of the amount v at key k and tick t, from page p, the root for the tick
abbrev pub entering : ℕ → ℕ → ℕ → (ℕ → Page) → (ℕ → ℕ) → (ℕ → ℕ) → ℕ → Grown
entering t k v s alloc root p =
    let n = (s p).level in
    let o = enter n t k v s alloc p in
    grown t n root o.store alloc o.made o.parts

-- The pages of a tree just opened: page 0 is a leaf with one row
abbrev pub opened : (ℕ → Page) → ℕ → Page
opened s = put_at s 0 (new_page 0 0 0 key_limit (record { low = 0; high = key_limit; amount = 0; page = 0 } ∷ []))
