-- The pages of an overflow, built row by row from the entries of a key order.
use Prim.Native.Nat.{ℕ, zero, suc, ◌+◌, ◌^◌, ◌≤◌, ◌<◌}
use native.Mathlib.Numerals.{add-one}
use native.Mathlib.Omega.{arith}
use mathlib.Core.Path.{◌≡◌, refl, ap, sym, ◌∙◌}
use mathlib.Core.List.{List, [], ◌∷◌, ◌++◌, map, append_assoc, append-nil}
use lib.ListN.{length, get_or, take, drop, set, length-set}
use lib.Seq.{take-suc-set}
use Rattle.words.specs.declared.value.Value.{Value}
use Rattle.words.specs.Value.{plus}
use Rattle.words.specs.Value as value
use Rattle.words.proofs.ValueLaws.{Stored, plus_stored, plus_zero, plus_assoc, zero_plus, read_stored}
use Rattle.tree.specs.declared.types.Row.{Row}
use Rattle.page.specs.declared.fresh.Page.{Page}
use Rattle.tree.specs.Row.{word, row_limit, row_start, value_start}
use Rattle.tree.specs.TrueValue.{total_where}
use Rattle.tree.specs.Fresh.{fresh_page}
use Rattle.key_order.specs.Entries.{entry_place}
use Rattle.page.specs.PageValue.{page_rows, encode_page, empty_page, with_row, no_rows}
use Rattle.words.proofs.LoopLaws.{drop_here, drop_none}
use Rattle.tree.proofs.OrderTotals.{total_stored}
use Rattle.tree.specs.RowSteps.{gained}
use Rattle.tree.specs.Overflow.{gain_first, total_of}
use Rattle.split.specs.SplitWords.{entry_row, copy_of, fill_page, add_rows, gain_page}

-- One law for each way through a loop over entries
module _ (entries : List ℕ) (at : ℕ) where
  module _ (words : List ℕ) (t : ℕ) (page : Page) where
    pub fill_more : at < length entries →
        fill_page words t page (drop at entries) ≡ fill_page words t (with_row page (copy_of words t (get_or entries at 0))) (drop (at + 1) entries)
    unfolding fill_page
    fill_more h = ap (fill_page words t page) (drop_here entries at h)

    pub fill_none : length entries ≤ at → fill_page words t page (drop at entries) ≡ page
    unfolding fill_page
    fill_none h = ap (fill_page words t page) (drop_none entries at h)

  module _ (words : List ℕ) (total : Value) where
    pub add_more : at < length entries →
        add_rows words total (drop at entries) ≡ add_rows words (plus total (entry_row words (get_or entries at 0)).value) (drop (at + 1) entries)
    unfolding add_rows
    add_more h = ap (add_rows words total) (drop_here entries at h)

    pub add_none : length entries ≤ at → add_rows words total (drop at entries) ≡ total
    unfolding add_rows
    add_none h = ap (add_rows words total) (drop_none entries at h)

-- The page that the loop builds: its header, and the rows that it had with the copies behind them, whatever is then made of those
pub filled_words : (f : List Row → List Row) (words : List ℕ) (t : ℕ) (p : Page) (es : List ℕ) →
    length p.rows ≡ row_limit → p.count + length es ≤ row_limit →
    fresh_page (fill_page words t p es).level (fill_page words t p es).low (fill_page words t p es).high (fill_page words t p es).birth
    (f (page_rows (fill_page words t p es)))
    ≡ fresh_page p.level p.low p.high p.birth (f (page_rows p ++ map (copy_of words t) es))
unfolding fill_page
filled_words f words t p [] full room =
    ap (λ (l : List Row). fresh_page p.level p.low p.high p.birth (f l)) (sym (append-nil (page_rows p)))
filled_words f words t p (e ∷ es) full room =
    let r : Row = copy_of words t e in
    let rows : page_rows (with_row p r) ≡ page_rows p ++ (r ∷ []) =
    ap (λ (n : ℕ). take n (set p.rows p.count r)) (add-one p.count) ∙ take-suc-set p.rows p.count r (omega arith) in
    filled_words f words t (with_row p r) es (length-set p.rows p.count r ∙ full) (omega arith)
    ∙ ap (λ (l : List Row). fresh_page p.level p.low p.high p.birth (f l))
    (ap (λ (l : List Row). l ++ map (copy_of words t) es) rows ∙ append_assoc (page_rows p) (r ∷ []) (map (copy_of words t) es))

pub filled_count : (words : List ℕ) (t : ℕ) (p : Page) (es : List ℕ) → (fill_page words t p es).count ≡ p.count + length es
unfolding fill_page
filled_count words t p [] = omega arith
filled_count words t p (e ∷ es) = omega (arith, filled_count words t (with_row p (copy_of words t e)) es)

-- The first row gains a value, among the rows in use and among all places
pub gain_take : (v : Value) (n : ℕ) (rows : List Row) → take n (gain_first v rows) ≡ gain_first v (take n rows)
gain_take v zero rows = refl
gain_take v (suc n) [] = refl
gain_take v (suc n) (r ∷ rs) = refl

pub gain_set : (v : Value) (rows : List Row) (d : Row) → 0 < length rows → set rows 0 (gained v (get_or rows 0 d)) ≡ gain_first v rows
gain_set v [] d h = absurd (omega arith)
gain_set v (r ∷ rs) d h = refl

-- Step 6: a page that is filled from an empty one and gains a value is the page of the copies of which the first gained it
pub filled_gained : (words : List ℕ) (t level low high : ℕ) (es : List ℕ) (v : Value) → length es ≤ row_limit →
    encode_page (gain_page v (fill_page words t (empty_page level low high t) es))
    ≡ fresh_page level low high t (gain_first v (map (copy_of words t) es))
unfolding no_rows
filled_gained words t level low high es v room =
    let p : Page = fill_page words t (empty_page level low high t) es in
    ap (fresh_page p.level p.low p.high p.birth) (gain_take v p.count p.rows)
    ∙ filled_words (gain_first v) words t (empty_page level low high t) es refl (omega arith)

-- and where it gains nothing, the page of the copies
gain_nothing : (words : List ℕ) (t : ℕ) (es : List ℕ) → ((i : ℕ) → word words i < 2 ^ 64) →
    gain_first value.zero (map (copy_of words t) es) ≡ map (copy_of words t) es
gain_nothing words t [] small = refl
gain_nothing words t (e ∷ es) small =
    let r : Row = copy_of words t e in
    ap (λ (v : Value). record { low = r.low; high = r.high; child = r.child; birth = r.birth; end = r.end; value = v } ∷ map (copy_of words t) es)
    (plus_zero r.value (read_stored words (row_start (entry_place e) + value_start) small))

pub filled_fresh : (words : List ℕ) (t level low high : ℕ) (es : List ℕ) → ((i : ℕ) → word words i < 2 ^ 64) → length es ≤ row_limit →
    encode_page (gain_page value.zero (fill_page words t (empty_page level low high t) es)) ≡ fresh_page level low high t (map (copy_of words t) es)
filled_fresh words t level low high es small room =
    filled_gained words t level low high es value.zero room ∙ ap (fresh_page level low high t) (gain_nothing words t es small)

-- The values of the entries' rows add up to the total of the copies
pub added_total : (words : List ℕ) (t : ℕ) (total : Value) (es : List ℕ) → Stored total →
    add_rows words total es ≡ plus total (total_of (map (copy_of words t) es))
unfolding add_rows total_where
added_total words t total [] st = sym (plus_zero total st)
added_total words t total (e ∷ es) st =
    added_total words t (plus total (entry_row words e).value) es (plus_stored total (entry_row words e).value)
    ∙ plus_assoc total (entry_row words e).value (total_of (map (copy_of words t) es))

pub added_from_zero : (words : List ℕ) (t : ℕ) (es : List ℕ) → add_rows words value.zero es ≡ total_of (map (copy_of words t) es)
added_from_zero words t es =
    added_total words t value.zero es (omega arith) ∙ zero_plus _ (total_stored _ _ (map (copy_of words t) es))
