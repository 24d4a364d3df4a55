-- A row written over, or added, in a page's words is the page with that row list.
use Prim.Native.Nat.{ℕ, zero, suc, ◌+◌, ◌*◌, ◌/◌, ◌%◌, ◌≤◌, ◌<◌}
use native.Mathlib.Decide.{dec_le, dec_lt, ℕ_discrete}
use native.Mathlib.Nat.{add-zero}
use native.Mathlib.Omega.{arith}
use mathlib.Core.Path.{◌≡◌, refl, sym, ap, ◌∙◌}
use mathlib.Core.List.{List, [], ◌∷◌, ◌++◌}
use lib.ListN.{length, get_or, set, length-set, length-append, get_or-append}
use lib.Seq.{ext_get_or, get_or-append-add, get_or-set_same, get_or-set_other}
use Rattle.words.proofs.ValueLaws.{value_again}
use Rattle.words.proofs.OverwriteLaws.{overwrite_length, word_inside, word_before, word_behind}
use Rattle.tree.specs.declared.types.Row.{Row}
use Rattle.tree.specs.Row.{word, row_at, row_start, row_words, rows_of, encode_row, encode_rows, header_words, value_start}
use Rattle.tree.specs.Edit.{with_rows}
use Rattle.tree.specs.RowEdits.{put_row, append_row}
use Rattle.tree.proofs.PageCodec.{encode_length, rows_length, row_at_place, put_length, put_before, with_length, with_level, with_count, with_range, with_birth, with_row_words, with_behind}

-- A row read from words and written again is the same words
pub words_again : (words : List ℕ) (at m : ℕ) → m < row_words → get_or (encode_row (row_at words at)) m 0 ≡ get_or words (at + m) 0
words_again words at zero h = omega (arith, ap (λ (n : ℕ). get_or words n 0) (add-zero at))
words_again words at (suc zero) h = omega arith
words_again words at (suc (suc m)) h =
    let e : at + value_start + m ≡ at + suc (suc m) = omega arith in
    value_again words (at + value_start) m (omega arith) ∙ ap (λ (n : ℕ). get_or words n 0) e

-- The words of the row at a place, among those of all rows
row_word : (rows : List Row) (q m : ℕ) (d : Row) → q < length rows → m < row_words →
    get_or (encode_rows rows) (row_words * q + m) 0 ≡ get_or (encode_row (get_or rows q d)) m 0
unfolding encode_rows
row_word [] q m d h l = absurd (omega arith)
row_word (r ∷ rs) zero m d h l =
    let e : row_words * 0 + m ≡ m = omega arith in
    ap (λ (n : ℕ). get_or (encode_row r ++ encode_rows rs) n 0) e ∙ get_or-append (encode_row r) (encode_rows rs) 0 m l
row_word (r ∷ rs) (suc q) m d h l =
    let e : row_words * suc q + m ≡ length (encode_row r) + (row_words * q + m) = omega arith in
    ap (λ (n : ℕ). get_or (encode_row r ++ encode_rows rs) n 0) e
    ∙ get_or-append-add (encode_row r) (encode_rows rs) (row_words * q + m) 0
    ∙ row_word rs q m d (omega arith) l

-- Words are a page with these rows where each of their words is
pub record Holds (page : List ℕ) (rows : List Row) (d : Row) (w : List ℕ) : Type 0 where
  pub size : length w ≡ length page
  pub level : word w 0 ≡ word page 0
  pub count : word w 1 ≡ length rows
  pub range : word w 2 ≡ word page 2
  pub birth : word w 3 ≡ word page 3
  pub row : (q m : ℕ) → q < length rows → m < row_words → word w (row_start q + m) ≡ get_or (encode_row (get_or rows q d)) m 0
  pub behind : (i : ℕ) → row_start (length rows) ≤ i → word w i ≡ word page i

module _ (page : List ℕ) (rows : List Row) (d : Row) (room : row_start (length rows) ≤ length page) where
  pub with_holds : Holds page rows d (with_rows page rows)
  with_holds =
      record {
        size = with_length page rows room;
        level = with_level page rows room;
        count = with_count page rows room;
        range = with_range page rows room;
        birth = with_birth page rows room;
        row = row;
        behind = with_behind page rows room;
      }
    where
      row : (q m : ℕ) → q < length rows → m < row_words → word (with_rows page rows) (row_start q + m) ≡ get_or (encode_row (get_or rows q d)) m 0
      row q m h l =
          let e : row_start q + m ≡ header_words + (row_words * q + m) = omega arith in
          ap (word (with_rows page rows)) e
          ∙ with_row_words page rows room (row_words * q + m) (omega (arith, encode_length rows))
          ∙ row_word rows q m d h l

  same_word : (v w : List ℕ) → Holds page rows d v → Holds page rows d w → (i : ℕ) → get_or v i 0 ≡ get_or w i 0
  same_word v w hv hw zero = hv.level ∙ sym hw.level
  same_word v w hv hw (suc zero) = hv.count ∙ sym hw.count
  same_word v w hv hw (suc (suc zero)) = hv.range ∙ sym hw.range
  same_word v w hv hw (suc (suc (suc zero))) = hv.birth ∙ sym hw.birth
  same_word v w hv hw (suc (suc (suc (suc j)))) = go (dec_le (row_words * length rows) j)
    where
      go : Dec (row_words * length rows ≤ j) → get_or v (suc (suc (suc (suc j)))) 0 ≡ get_or w (suc (suc (suc (suc j)))) 0
      go (yes h) = hv.behind (suc (suc (suc (suc j)))) (omega arith) ∙ sym (hw.behind (suc (suc (suc (suc j)))) (omega arith))
      go (no h) =
          let q : ℕ = j / row_words in
          let m : ℕ = j % row_words in
          let e : suc (suc (suc (suc j))) ≡ row_start q + m = omega arith in
          let a : q < length rows = omega arith in
          let b : m < row_words = omega arith in
          ap (word v) e ∙ hv.row q m a b ∙ sym (ap (word w) e ∙ hw.row q m a b)

  pub is_with : (w : List ℕ) → Holds page rows d w → w ≡ with_rows page rows
  is_with w h =
      ext_get_or 0 w (with_rows page rows) (h.size ∙ sym (with_length page rows room)) (λ i l. same_word w (with_rows page rows) h with_holds i)

-- Rows written over rows
pub with_with : (page : List ℕ) (xs ys : List Row) → length xs ≤ length ys → row_start (length ys) ≤ length page →
    with_rows (with_rows page xs) ys ≡ with_rows page ys
with_with page xs ys h room =
    let inner : row_start (length xs) ≤ length page = omega arith in
    let size : length (with_rows page xs) ≡ length page = with_length page xs inner in
    let outer : row_start (length ys) ≤ length (with_rows page xs) = omega arith in
    let d : Row = row_at page 0 in
    let o = with_holds (with_rows page xs) ys d outer in
    is_with page ys d room (with_rows (with_rows page xs) ys)
    (record {
      size = o.size ∙ size;
      level = o.level ∙ with_level page xs inner;
      count = o.count;
      range = o.range ∙ with_range page xs inner;
      birth = o.birth ∙ with_birth page xs inner;
      row = o.row;
      behind = λ i l. o.behind i l ∙ with_behind page xs inner i (omega arith);
    })

module _ (page : List ℕ) (r : Row) where
  rows_of_length : length (rows_of page) ≡ word page 1
  rows_of_length = rows_length page header_words (word page 1)

  -- A row written over the one at a place
  module _ (place : ℕ) (inside : place < word page 1) (room : row_start (word page 1) ≤ length page) where
    fits : row_start place + row_words ≤ length page
    fits = omega arith

    set_room : row_start (length (set (rows_of page) place r)) ≤ length page
    set_room = omega (arith, length-set (rows_of page) place r, rows_of_length)

    pub put_is_with : put_row page place r ≡ with_rows page (set (rows_of page) place r)
    put_is_with =
        is_with page (set (rows_of page) place r) r set_room (put_row page place r)
        (record {
          size = put_length page place r fits;
          level = put_before page place r fits 0 (omega arith);
          count = put_before page place r fits 1 (omega arith) ∙ sym (length-set (rows_of page) place r ∙ rows_of_length);
          range = put_before page place r fits 2 (omega arith);
          birth = put_before page place r fits 3 (omega arith);
          row = row;
          behind = λ i l. word_behind page (row_start place) (encode_row r) fits i (omega (arith, length-set (rows_of page) place r, rows_of_length));
        })
      where
        row : (q m : ℕ) → q < length (set (rows_of page) place r) → m < row_words →
            word (put_row page place r) (row_start q + m) ≡ get_or (encode_row (get_or (set (rows_of page) place r) q r)) m 0
        row q m h l = go (ℕ_discrete q place)
          where
            small : q < word page 1
            small = omega (arith, length-set (rows_of page) place r, rows_of_length)

            kept : (q ≡ place → ⊥) → word (put_row page place r) (row_start q + m) ≡ word page (row_start q + m)
            kept n = side (dec_le q place)
              where
                side : Dec (q ≤ place) → word (put_row page place r) (row_start q + m) ≡ word page (row_start q + m)
                side (yes a) = let b : q < place = omega arith in word_before page (row_start place) (encode_row r) fits (row_start q + m) (omega arith)
                side (no a) = word_behind page (row_start place) (encode_row r) fits (row_start q + m) (omega arith)

            go : Dec (q ≡ place) → word (put_row page place r) (row_start q + m) ≡ get_or (encode_row (get_or (set (rows_of page) place r) q r)) m 0
            go (yes e) =
                let there : place < length (rows_of page) = omega (arith, rows_of_length) in
                ap (λ (n : ℕ). word (put_row page place r) (row_start n + m)) e
                ∙ word_inside page (row_start place) (encode_row r) fits m l
                ∙ sym (ap (λ (x : Row). get_or (encode_row x) m 0) (ap (λ (n : ℕ). get_or (set (rows_of page) place r) n r) e ∙ get_or-set_same (rows_of page) place r r there))
            go (no n) =
                kept n
                ∙ sym
                (ap (λ (x : Row). get_or (encode_row x) m 0) (get_or-set_other (rows_of page) place q r r n ∙ row_at_place page header_words (word page 1) q r small)
                ∙ words_again page (row_start q) m l)

  -- A row added behind the rows
  module _ (room : row_start (word page 1) + row_words ≤ length page) where
    pub added_length : length (rows_of page ++ (r ∷ [])) ≡ word page 1 + 1
    added_length = length-append (rows_of page) (r ∷ []) ∙ omega (arith, rows_of_length)

    put_size : length (put_row page (word page 1) r) ≡ length page
    put_size = put_length page (word page 1) r room

    one_room : 1 + 1 ≤ length (put_row page (word page 1) r)
    one_room = omega (arith, put_size)

    pub append_is_with : append_row page r ≡ with_rows page (rows_of page ++ (r ∷ []))
    append_is_with =
        is_with page (rows_of page ++ (r ∷ [])) r (omega (arith, added_length)) (append_row page r)
        (record {
          size = overwrite_length (put_row page (word page 1) r) 1 ((word page 1 + 1) ∷ []) one_room ∙ put_size;
          level = word_before (put_row page (word page 1) r) 1 ((word page 1 + 1) ∷ []) one_room 0 (omega arith) ∙ put_before page (word page 1) r room 0 (omega arith);
          count = word_inside (put_row page (word page 1) r) 1 ((word page 1 + 1) ∷ []) one_room 0 (omega arith) ∙ sym added_length;
          range = later 2 (omega arith) (omega arith);
          birth = later 3 (omega arith) (omega arith);
          row = row;
          behind = λ i l. counted i (omega (arith, added_length)) ∙ word_behind page (row_start (word page 1)) (encode_row r) room i (omega (arith, added_length));
        })
      where
        counted : (i : ℕ) → 2 ≤ i → word (append_row page r) i ≡ word (put_row page (word page 1) r) i
        counted i h = word_behind (put_row page (word page 1) r) 1 ((word page 1 + 1) ∷ []) one_room i (omega arith)

        later : (i : ℕ) → 2 ≤ i → i < row_start (word page 1) → word (append_row page r) i ≡ word page i
        later i h l = counted i h ∙ put_before page (word page 1) r room i l

        row : (q m : ℕ) → q < length (rows_of page ++ (r ∷ [])) → m < row_words →
            word (append_row page r) (row_start q + m) ≡ get_or (encode_row (get_or (rows_of page ++ (r ∷ [])) q r)) m 0
        row q m h l = go (dec_lt q (word page 1))
          where
            go : Dec (q < word page 1) → word (append_row page r) (row_start q + m) ≡ get_or (encode_row (get_or (rows_of page ++ (r ∷ [])) q r)) m 0
            go (yes a) =
                later (row_start q + m) (omega arith) (omega arith)
                ∙ sym
                (ap (λ (x : Row). get_or (encode_row x) m 0)
                (get_or-append (rows_of page) (r ∷ []) r q (omega (arith, rows_of_length)) ∙ row_at_place page header_words (word page 1) q r a)
                ∙ words_again page (row_start q) m l)
            go (no a) =
                let e : q ≡ word page 1 = omega (arith, added_length) in
                let f : q ≡ length (rows_of page) + 0 = omega (arith, rows_of_length) in
                counted (row_start q + m) (omega arith)
                ∙ ap (λ (i : ℕ). word (put_row page (word page 1) r) (row_start i + m)) e
                ∙ word_inside page (row_start (word page 1)) (encode_row r) room m l
                ∙ sym (ap (λ (x : Row). get_or (encode_row x) m 0) (ap (λ (i : ℕ). get_or (rows_of page ++ (r ∷ [])) i r) f ∙ get_or-append-add (rows_of page) (r ∷ []) 0 r))

-- A page with the rows that it has is itself
pub with_same : (page : List ℕ) → row_start (word page 1) ≤ length page → with_rows page (rows_of page) ≡ page
with_same page room =
    let d : Row = row_at page 0 in
    let count : length (rows_of page) ≡ word page 1 = rows_length page header_words (word page 1) in
    sym
    (is_with page (rows_of page) d (omega arith) page
    (record {
      size = refl;
      level = refl;
      count = sym count;
      range = refl;
      birth = refl;
      row = λ q m h l. sym
          (ap (λ (x : Row). get_or (encode_row x) m 0) (row_at_place page header_words (word page 1) q d (omega arith)) ∙ words_again page (row_start q) m l);
      behind = λ i l. refl;
    }))
