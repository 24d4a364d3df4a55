-- A page's edited copy, written back or split, is the page finished as steps 5 and 6 say.
use Prim.Native.Nat.{ℕ, zero, suc, ◌+◌, ◌*◌, ◌≤◌, ◌<◌}
use native.Mathlib.Omega.{arith}
use native.Mathlib.Decide.{dec_le}
use mathlib.Core.Path.{◌≡◌, refl, sym, ap, ap₂, ◌∙◌}
use mathlib.Core.List.{List, ◌∷◌, ◌++◌}
use lib.ListN.{length, take, length-append, length-take, get_or-append, get_or-eq_default}
use lib.Seq.{get_or-take, length-take-le}
use borrow.Author.Tests.{le-leb, lt-leb}
use Rattle.words.specs.Lists.{All}
use Rattle.words.proofs.ValueLaws.{value_alike}
use Rattle.tree.specs.declared.types.Row.{Row}
use Rattle.tree.specs.Row.{word, row_at, row_start, row_words, rows_from, rows_of, row_limit, page_words, header_words, value_start}
use Rattle.tree.specs.Limits.{most_rows}
use Rattle.tree.specs.Edit.{with_rows}
use Rattle.tree.specs.Fresh.{zeros}
use Rattle.tree.proofs.PageCodec.{Fits, with_level, with_count, with_range, with_rows_lem}
use Rattle.rows.proofs.WithRows.{Holds, with_holds, is_with}
use Rattle.tree.specs.declared.types.TreeUse.{TreeUse}
use Rattle.tree.specs.Tree.{Tree, page_at, put_page}
use Rattle.tree.specs.declared.types.Became.TheVariants.{Stays}
use Rattle.tree.specs.Overflow.{Written, split_page, copied_rows, finish_page}
use Rattle.tree.specs.Taking.{rootless}
use Rattle.enter.specs.EnterWords.{settled, loaded, appended_words}
use Rattle.split.specs.SplitWords.{scratch_words}

module _ (used : TreeUse) (t : ℕ) (so : Written) (page : ℕ) (words : List ℕ) where
  pub settled_stays : word words 1 ≤ row_limit →
      settled used t so page words ≡ record { table = put_page so.table page (take page_words words); made = so.made; became = Stays }
  unfolding settled
  settled_stays h = rw (le-leb _ _ h)

  pub settled_splits : row_limit < word words 1 →
      settled used t so page words ≡ split_page (rootless so.table used) t so words (copied_rows t (rows_of words))
  unfolding settled
  settled_splits h = rw (lt-leb _ _ h)

-- The copy of a page has the page's words at its front
pub word_front : (page extra : List ℕ) (i : ℕ) → i < length page → word (page ++ extra) i ≡ word page i
word_front page extra i h = get_or-append page extra 0 i h

pub row_front : (page extra : List ℕ) (at : ℕ) → at + row_words ≤ length page → row_at (page ++ extra) at ≡ row_at page at
row_front page extra at h =
    rw (
      word_front page extra at (omega arith),
      word_front page extra (at + 1) (omega arith),
      value_alike (page ++ extra) page (at + value_start) (λ i l. word_front page extra (at + value_start + i) (omega arith)),
    )

rows_front : (page extra : List ℕ) (at n : ℕ) → at + row_words * n ≤ length page → rows_from (page ++ extra) at n ≡ rows_from page at n
unfolding rows_from
rows_front page extra at zero h = refl
rows_front page extra at (suc n) h = ap₂ ◌∷◌ (row_front page extra at (omega arith)) (rows_front page extra (at + row_words) n (omega arith))

pub rows_of_front : (page extra : List ℕ) → row_start (word page 1) ≤ length page → rows_of (page ++ extra) ≡ rows_of page
rows_of_front page extra h =
    ap (rows_from (page ++ extra) header_words) (word_front page extra 1 (omega arith)) ∙ rows_front page extra header_words (word page 1) (omega arith)

-- Rows written into the copy are rows written into the page, as long as they fit there
pub with_front : (page extra : List ℕ) (rows : List Row) → row_start (length rows) ≤ length page →
    take (length page) (with_rows (page ++ extra) rows) ≡ with_rows page rows
with_front page extra rows room =
    let d : Row = row_at page 0 in
    let wide : row_start (length rows) ≤ length (page ++ extra) = omega (arith, length-append page extra) in
    let h = with_holds (page ++ extra) rows d wide in
    let w : List ℕ = with_rows (page ++ extra) rows in
    let n : ℕ = length page in
    is_with page rows d room (take n w)
    (record {
      size = length-take-le n w (omega (arith, h.size, length-append page extra));
      level = get_or-take n w 0 0 (omega arith) ∙ h.level ∙ word_front page extra 0 (omega arith);
      count = get_or-take n w 1 0 (omega arith) ∙ h.count;
      range = get_or-take n w 2 0 (omega arith) ∙ h.range ∙ word_front page extra 2 (omega arith);
      birth = get_or-take n w 3 0 (omega arith) ∙ h.birth ∙ word_front page extra 3 (omega arith);
      row = λ q m a b. get_or-take n w (row_start q + m) 0 (omega arith) ∙ h.row q m a b;
      behind = behind h;
    })
  where
    behind : Holds (page ++ extra) rows (row_at page 0) (with_rows (page ++ extra) rows) → (i : ℕ) → row_start (length rows) ≤ i →
        word (take (length page) (with_rows (page ++ extra) rows)) i ≡ word page i
    behind h i l = go (dec_le (length page) i)
      where
        go : Dec (length page ≤ i) → word (take (length page) (with_rows (page ++ extra) rows)) i ≡ word page i
        go (yes a) =
            get_or-eq_default (take (length page) (with_rows (page ++ extra) rows)) 0 (omega (arith, length-take (length page) (with_rows (page ++ extra) rows)))
            ∙ sym (get_or-eq_default page 0 a)
        go (no a) = get_or-take (length page) (with_rows (page ++ extra) rows) i 0 (omega arith) ∙ h.behind i l ∙ word_front page extra i (omega arith)

-- Steps 5 and 6
module _ (tree : Tree) (t : ℕ) (so : Written) (page : ℕ) (rows : List Row) where
  pub finish_stays : length rows ≤ row_limit →
      finish_page tree t so page rows ≡ record { table = put_page so.table page (with_rows (page_at tree.table page) rows); made = so.made; became = Stays }
  unfolding finish_page
  finish_stays h = rw (le-leb _ _ h)

  pub finish_splits : row_limit < length rows →
      finish_page tree t so page rows ≡ split_page tree t so (page_at tree.table page) (copied_rows t rows)
  unfolding finish_page
  finish_splits h = rw (lt-leb _ _ h)

-- A split looks at no more of the old page than its level and its key range
pub split_same : (tree : Tree) (table : List ℕ) (t : ℕ) (so : Written) (v w : List ℕ) (rows : List Row) → word v 0 ≡ word w 0 → word v 2 ≡ word w 2 →
    split_page (rootless table tree.used) t so v rows ≡ split_page tree t so w rows
split_same tree table t so v w rows e f = rw (e, f)

zeros_long : length (zeros appended_words) ≡ appended_words
unfolding zeros
zeros_long = refl

pub loaded_length : (table : List ℕ) (page : ℕ) → length (page_at table page) ≡ page_words → length (loaded table page) ≡ scratch_words
loaded_length table page whole = length-append (page_at table page) (zeros appended_words) ∙ omega (arith, zeros_long)

pub settled_is_finished : (tree : Tree) (t : ℕ) (so : Written) (page : ℕ) (rows : List Row) (words : List ℕ) →
    length (page_at tree.table page) ≡ page_words → words ≡ with_rows (loaded tree.table page) rows → All Fits rows → length rows ≤ most_rows →
    settled tree.used t so page words ≡ finish_page tree t so page rows
settled_is_finished tree t so page rows words whole is fit few = go (dec_le (length rows) row_limit)
  where
    room : row_start (length rows) ≤ length (loaded tree.table page)
    room = omega (arith, loaded_length tree.table page whole)

    count : word words 1 ≡ length rows
    count = ap (λ (w : List ℕ). word w 1) is ∙ with_count (loaded tree.table page) rows room

    level : word words 0 ≡ word (page_at tree.table page) 0
    level =
        ap (λ (w : List ℕ). word w 0) is
        ∙ with_level (loaded tree.table page) rows room
        ∙ word_front (page_at tree.table page) (zeros appended_words) 0 (omega arith)

    range : word words 2 ≡ word (page_at tree.table page) 2
    range =
        ap (λ (w : List ℕ). word w 2) is
        ∙ with_range (loaded tree.table page) rows room
        ∙ word_front (page_at tree.table page) (zeros appended_words) 2 (omega arith)

    back : rows_of words ≡ rows
    back = ap rows_of is ∙ with_rows_lem (loaded tree.table page) rows room fit

    front : length rows ≤ row_limit → take page_words words ≡ with_rows (page_at tree.table page) rows
    front a =
        ap₂ (λ (n : ℕ) (w : List ℕ). take n w) (sym whole) is
        ∙ with_front (page_at tree.table page) (zeros appended_words) rows (omega arith)

    go : Dec (length rows ≤ row_limit) → settled tree.used t so page words ≡ finish_page tree t so page rows
    go (yes a) =
        settled_stays tree.used t so page words (omega (arith, count))
        ∙ ap (λ (w : List ℕ). record { table = put_page so.table page w; made = so.made; became = Stays }) (front a)
        ∙ sym (finish_stays tree t so page rows a)
    go (no a) =
        settled_splits tree.used t so page words (omega (arith, count))
        ∙ split_same tree so.table t so words (page_at tree.table page) (copied_rows t (rows_of words)) level range
        ∙ ap (λ (rs : List Row). split_page tree t so (page_at tree.table page) (copied_rows t rs)) back
        ∙ sym (finish_splits tree t so page rows (omega arith))

-- The copy has as many rows as the page
pub loaded_count : (table : List ℕ) (page : ℕ) → length (page_at table page) ≡ page_words → word (loaded table page) 1 ≡ word (page_at table page) 1
loaded_count table page whole = word_front (page_at table page) (zeros appended_words) 1 (omega arith)
