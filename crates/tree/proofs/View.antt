-- Our pages as pages of the model: what a measure reads of a row's value is the value of its entry.
use Prim.Native.Nat.{ℕ, suc, ◌+◌, ◌*◌, ◌/◌, ◌%◌, ◌^◌, ◌≤◌, ◌<◌}
use native.Mathlib.Omega.{arith}
use native.Mathlib.Decide.{ℕ_discrete}
use mathlib.Core.Path.{◌≡◌, refl, ap, ◌∙◌}
use mathlib.Core.Bool.{Bool, true, false, cond}
use mathlib.Core.List.{List, [], ◌∷◌, map}
use lib.Dec.{leb, eqb}
use lib.ListN.{length}
use borrow.Author.Tests.{eq-eqb, ne_eqb}
use Rattle.words.specs.Lists.{All}
use Rattle.words.specs.declared.value.Value.{Value}
use Rattle.words.proofs.Measure.{Measure}
use Rattle.tree.specs.declared.types.Row.{Row}
use Rattle.tree.specs.Row.{word, live, rows_of, row_limit, page_words}
use Rattle.tree.specs.KeyOrder.{Placed, keep_if, live_placed, insert_by, sort_by, key_order}
use Rattle.tree.specs.TrueValue.{row_value}
use Rattle.tree.specs.Edit.{born_at, with_rows}
use Rattle.tree.specs.Fresh.{fresh_page}
use Rattle.tree.proofs.Lists.{sum_by}
use Rattle.tree.proofs.TrueValueSums.{total_measure}
use Rattle.tree.specs.Tree.{page_at, put_page}
use Rattle.tree.specs.Overflow.{total_of, lowest_key}
use Rattle.tree.proofs.ModelPages as model
use Rattle.tree.proofs.ModelPages.{Entry, Page, only_if, sum_live, live_entries, low_key_of, ordered_entries, born_all}
use Rattle.tree.proofs.ModelSteps.{put_at, total_amount, lowest_of}
use Rattle.tree.proofs.TableLaws.{put_same, put_other}
use Rattle.tree.proofs.PageCodec.{Fits, with_level, with_range, with_birth, with_rows_lem, fresh_level, fresh_range, fresh_birth, fresh_rows}

map_insert : {A B : Type 0} (low_of : B → ℕ) (f : A → B) (x : A) (ys : List A)
    → map f (insert_by (λ (a : A). low_of (f a)) x ys) ≡ insert_by low_of (f x) (map f ys)
unfolding insert_by
map_insert low_of f x [] = refl
map_insert {A} {B} low_of f x (y ∷ ys) = go (leb (low_of (f x)) (low_of (f y))) (map_insert low_of f x ys)
  where
    go : (b : Bool) → map f (insert_by (λ (a : A). low_of (f a)) x ys) ≡ insert_by low_of (f x) (map f ys)
        → map f (cond b (x ∷ (y ∷ ys)) (y ∷ insert_by (λ (a : A). low_of (f a)) x ys))
        ≡ cond b (f x ∷ (f y ∷ map f ys)) (f y ∷ insert_by low_of (f x) (map f ys))
    go true ih = refl
    go false ih = ap (◌∷◌ (f y)) ih

pub map_sort : {A B : Type 0} (low_of : B → ℕ) (f : A → B) (xs : List A)
    → map f (sort_by (λ (a : A). low_of (f a)) xs) ≡ sort_by low_of (map f xs)
unfolding sort_by
map_sort low_of f [] = refl
map_sort {A} low_of f (x ∷ xs) = map_insert low_of f x (sort_by (λ (a : A). low_of (f a)) xs) ∙ ap (insert_by low_of (f x)) (map_sort low_of f xs)

module _ (measure : Value → ℕ) where
  abbrev pub entry_of : Row → Entry
  entry_of r = record { low = r.low; high = r.high; amount = measure r.value; page = r.child }

  abbrev pub view_row : Row → model.Row
  view_row r = record { birth = r.birth; end = r.end; entry = entry_of r }

  abbrev pub view_rows : List Row → List model.Row
  view_rows rows = map view_row rows

  abbrev pub view_page : List ℕ → Page
  view_page words =
      record {
        level = word words 0;
        low = word words 2 % 65536;
        high = word words 2 / 65536;
        birth = word words 3;
        rows = view_rows (rows_of words);
      }

  abbrev pub view_table : List ℕ → ℕ → Page
  view_table table page = view_page (page_at table page)

  abbrev pub placed_entry : Placed → Entry
  placed_entry x = entry_of x.row

  -- Live rows in key order
  lives_view : (t from : ℕ) (rows : List Row) → map placed_entry (live_placed t from rows) ≡ live_entries t (view_rows rows)
  unfolding live_placed
  lives_view t from [] = refl
  lives_view t from (r ∷ rs) = go (live t r) (lives_view t (suc from) rs)
    where
      go : (b : Bool) → map placed_entry (live_placed t (suc from) rs) ≡ live_entries t (view_rows rs)
          → map placed_entry (keep_if b (record { place = from; row = r }) (live_placed t (suc from) rs))
          ≡ cond b (entry_of r ∷ live_entries t (view_rows rs)) (live_entries t (view_rows rs))
      go true ih = ap (◌∷◌ (entry_of r)) ih
      go false ih = ih

  pub order_view : (t : ℕ) (rows : List Row) → map placed_entry (key_order t rows) ≡ ordered_entries t (view_rows rows)
  unfolding ordered_entries
  order_view t rows = map_sort low_key_of placed_entry (live_placed t 0 rows) ∙ ap (sort_by low_key_of) (lives_view t 0 rows)

  -- Rows born at a tick
  pub view_born : (t : ℕ) (xs : List Placed) → view_rows (map (λ (x : Placed). born_at t x.row) xs) ≡ born_all t (map placed_entry xs)
  view_born t [] = refl
  view_born t (x ∷ xs) = ap (◌∷◌ (view_row (born_at t x.row))) (view_born t xs)

  -- A number added up over the live rows
  pub sum_live_view : (t : ℕ) (f : Entry → ℕ) (rows : List Row)
      → sum_live t f (view_rows rows) ≡ sum_by (λ (r : Row). cond (live t r) (f (entry_of r)) 0) rows
  sum_live_view t f [] = refl
  sum_live_view t f (r ∷ rs) = go (live t r) (sum_live_view t f rs)
    where
      go : (b : Bool) → sum_live t f (view_rows rs) ≡ sum_by (λ (r : Row). cond (live t r) (f (entry_of r)) 0) rs
          → only_if b (f (entry_of r)) + sum_live t f (view_rows rs)
          ≡ cond b (f (entry_of r)) 0 + sum_by (λ (r : Row). cond (live t r) (f (entry_of r)) 0) rs
      go true ih = omega arith
      go false ih = omega arith

  -- Words of a page
  page_path : {a b : Page} → a.level ≡ b.level → a.low ≡ b.low → a.high ≡ b.high → a.birth ≡ b.birth → a.rows ≡ b.rows → a ≡ b
  page_path p q r o s = λ i. record { level = p i; low = q i; high = r i; birth = o i; rows = s i }

  pub view_with : (page : List ℕ) (rows : List Row) → length page ≡ page_words → length rows ≤ row_limit → All Fits rows
      → view_page (with_rows page rows)
      ≡ record { level = word page 0; low = word page 2 % 65536; high = word page 2 / 65536; birth = word page 3; rows = view_rows rows }
  view_with page rows whole few fits =
      page_path (with_level page rows (omega arith)) (ap (λ (n : ℕ). n % 65536) (with_range page rows (omega arith)))
      (ap (λ (n : ℕ). n / 65536) (with_range page rows (omega arith))) (with_birth page rows (omega arith)) (ap view_rows (with_rows_lem page rows (omega arith) fits))

  pub view_fresh : (level low high birth : ℕ) (rows : List Row) → low < 65536 → length rows ≤ row_limit → All Fits rows
      → view_page (fresh_page level low high birth rows) ≡ record { level = level; low = low; high = high; birth = birth; rows = view_rows rows }
  view_fresh level low high birth rows l few fits =
      page_path (fresh_level level low high birth rows few)
      (rw (fresh_range level low high birth rows few) (omega arith)) (rw (fresh_range level low high birth rows few) (omega arith))
      (fresh_birth level low high birth rows few)
      (ap view_rows (fresh_rows level low high birth rows few fits))

  -- A page of the table written over
  pub view_put : (table : List ℕ) (page : ℕ) (words : List ℕ) → page * page_words + page_words ≤ length table → length words ≡ page_words
      → view_table (put_page table page words) ≡ put_at (view_table table) page (view_page words)
  view_put table page words fits whole = λ i x. at x i
    where
      at : (x : ℕ) → view_table (put_page table page words) x ≡ put_at (view_table table) page (view_page words) x
      at x = go (ℕ_discrete x page)
        where
          go : Dec (x ≡ page) → view_table (put_page table page words) x ≡ cond (eqb x page) (view_page words) (view_table table x)
          go (yes e) = rw (eq-eqb x page e) (ap view_page (ap (page_at (put_page table page words)) e ∙ put_same table page words fits whole))
          go (no e) = rw (ne_eqb x page e) (ap view_page (put_other table page words fits whole x e))

  pub lowest_view : (d : ℕ) (rows : List Row) → lowest_key d rows ≡ lowest_of d (map entry_of rows)
  lowest_view d [] = refl
  lowest_view d (r ∷ rs) = refl

  module _ (m : Measure measure) where
    sum_vals : (rows : List Row) → sum_by (λ (r : Row). measure r.value) rows ≡ total_amount (map entry_of rows)
    sum_vals [] = refl
    sum_vals (r ∷ rs) = ap (◌+◌ (measure r.value)) (sum_vals rs)

    pub total_view : (rows : List Row) → measure (total_of rows) ≡ total_amount (map entry_of rows) % 2 ^ 64
    total_view rows = total_measure measure m row_value (λ (r : Row). true) rows ∙ ap (λ (n : ℕ). n % 2 ^ 64) (sum_vals rows)
