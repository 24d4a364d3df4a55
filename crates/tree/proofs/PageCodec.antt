-- Rows written into the words of a page are read back as they were, where their keys and their birth fit their parts of a word.
-- Rows that were read from words always fit.
use Prim.Native.Nat.{ℕ, zero, suc, ◌+◌, ◌*◌, ◌-◌, ◌/◌, ◌%◌, ◌≤◌, ◌<◌}
use native.Mathlib.Omega.{arith}
use mathlib.Core.Path.{◌≡◌, refl, ap, ap₂, ◌∙◌}
use mathlib.Core.List.{List, [], ◌∷◌, ◌++◌}
use lib.ListN.{length, get_or, length-append, length-replicate, get_or-append}
use lib.Seq.{get_or-append-add}
use Rattle.words.specs.Lists.{All}
use Rattle.words.specs.Words.{key_range, row_keys, life_word}
use Rattle.words.specs.Value.{value_at, encode_value, value_words}
use Rattle.words.specs.Overwrite.{overwrite}
use Rattle.words.proofs.ValueLaws.{value_back}
use Rattle.words.proofs.OverwriteLaws.{overwrite_length, word_inside, word_before, word_behind}
use Rattle.tree.specs.declared.types.Row.{Row}
use Rattle.tree.specs.Row.{word, row_at, row_start, row_words, rows_from, rows_of, encode_row, encode_rows, header_words, row_limit, page_words, value_start}
use Rattle.tree.specs.Edit.{with_rows}
use Rattle.tree.specs.RowEdits.{put_row}
use Rattle.tree.specs.Fresh.{zeros, fresh_page}

-- A row whose keys and birth fit
pub record Fits (r : Row) : Type 0 where
  pub low : r.low < 65536
  pub high : r.high < 65536
  pub birth : r.birth < 4294967296

pub row_fits_lem : (words : List ℕ) (at : ℕ) → Fits (row_at words at)
row_fits_lem words at = record { low = omega arith; high = omega arith; birth = omega arith }

pub rows_fit : (words : List ℕ) (at n : ℕ) → All Fits (rows_from words at n)
unfolding rows_from
rows_fit words at zero = tt
rows_fit words at (suc n) = (row_fits_lem words at, rows_fit words (at + row_words) n)

pub rows_length : (words : List ℕ) (at n : ℕ) → length (rows_from words at n) ≡ n
unfolding rows_from
rows_length words at zero = refl
rows_length words at (suc n) = ap suc (rows_length words (at + row_words) n)

pub encode_length : (rows : List Row) → length (encode_rows rows) ≡ row_words * length rows
unfolding encode_rows
encode_length [] = refl
encode_length (r ∷ rs) = length-append (encode_row r) (encode_rows rs) ∙ omega (arith, encode_length rs)

-- The row at a place, among the rows and in the words
pub row_at_place : (words : List ℕ) (at n i : ℕ) (d : Row) → i < n → get_or (rows_from words at n) i d ≡ row_at words (at + row_words * i)
unfolding rows_from
row_at_place words at zero i d h = absurd (omega arith)
row_at_place words at (suc n) zero d h = ap (row_at words) (omega arith)
row_at_place words at (suc n) (suc i) d h =
    let e : at + row_words + row_words * i ≡ at + row_words * suc i = omega arith in
    row_at_place words (at + row_words) n i d (omega arith) ∙ ap (row_at words) e

row_back : (words : List ℕ) (at : ℕ) (r : Row) (rest : List ℕ) → Fits r
    → ((i : ℕ) → i < length (encode_row r ++ rest) → get_or words (at + i) 0 ≡ get_or (encode_row r ++ rest) i 0) → row_at words at ≡ r
row_back words at r rest fits h =
    let k : get_or words at 0 ≡ r.low + 65536 * r.high + 4294967296 * r.child = ap (λ (n : ℕ). get_or words n 0) (omega arith) ∙ h 0 (omega arith) in
    let l : get_or words (at + 1) 0 ≡ r.birth + 4294967296 * r.end = h 1 (omega arith) in
    let low : get_or words at 0 % 65536 ≡ r.low = rw k (omega arith) in
    let high : get_or words at 0 / 65536 % 65536 ≡ r.high = rw k (omega arith) in
    let child : get_or words at 0 / 4294967296 ≡ r.child = rw k (omega arith) in
    let birth : get_or words (at + 1) 0 % 4294967296 ≡ r.birth = rw l (omega arith) in
    let end : get_or words (at + 1) 0 / 4294967296 ≡ r.end = rw l (omega arith) in
    let value : value_at words (at + value_start) ≡ r.value = value_back words (at + value_start) r.value (λ j l. value_words_lem j l) in
    λ i. record { low = low i; high = high i; child = child i; birth = birth i; end = end i; value = value i }
  where
    value_words_lem : (j : ℕ) → j < value_words → get_or words (at + value_start + j) 0 ≡ get_or (encode_value r.value) j 0
    value_words_lem j l =
        ap (λ (n : ℕ). get_or words n 0) (omega arith)
        ∙ h (value_start + j) (omega (arith, length-append (encode_value r.value) rest))
        ∙ get_or-append-add (row_keys r.low r.high r.child ∷ (life_word r.birth r.end ∷ [])) (encode_value r.value ++ rest) j 0
        ∙ get_or-append (encode_value r.value) rest 0 j l

pub rows_back : (words : List ℕ) (at : ℕ) (rows : List Row) → All Fits rows
    → ((i : ℕ) → i < length (encode_rows rows) → get_or words (at + i) 0 ≡ get_or (encode_rows rows) i 0) → rows_from words at (length rows) ≡ rows
unfolding rows_from encode_rows
rows_back words at [] f h = refl
rows_back words at (r ∷ rs) f h =
    ap₂ ◌∷◌ (row_back words at r (encode_rows rs) f.0 h)
    (rows_back words (at + row_words) rs f.1
    (λ i l. ap (λ (n : ℕ). get_or words n 0) (omega arith) ∙ h (row_words + i) (omega arith) ∙ get_or-append-add (encode_row r) (encode_rows rs) i 0))

-- A row written at a place: the words before and behind it stay
module _ (page : List ℕ) (place : ℕ) (r : Row) (fits : row_start place + row_words ≤ length page) where
  pub put_length : length (put_row page place r) ≡ length page
  put_length = overwrite_length page (row_start place) (encode_row r) fits

  pub put_before : (i : ℕ) → i < row_start place → word (put_row page place r) i ≡ word page i
  put_before i h = word_before page (row_start place) (encode_row r) fits i h

-- A page with these rows for its own
module _ (page : List ℕ) (rows : List Row) (room : row_start (length rows) ≤ length page) where
  row_room : header_words + length (encode_rows rows) ≤ length page
  row_room = omega (arith, encode_length rows)

  count_room : 1 + 1 ≤ length (overwrite page header_words (encode_rows rows))
  count_room = omega (arith, overwrite_length page header_words (encode_rows rows) row_room)

  pub with_length : length (with_rows page rows) ≡ length page
  unfolding with_rows
  with_length =
      overwrite_length (overwrite page header_words (encode_rows rows)) 1 (length rows ∷ []) count_room
      ∙ overwrite_length page header_words (encode_rows rows) row_room

  pub with_level : word (with_rows page rows) 0 ≡ word page 0
  unfolding with_rows
  with_level =
      word_before (overwrite page header_words (encode_rows rows)) 1 (length rows ∷ []) count_room 0 (omega arith)
      ∙ word_before page header_words (encode_rows rows) row_room 0 (omega arith)

  pub with_count : word (with_rows page rows) 1 ≡ length rows
  unfolding with_rows
  with_count = word_inside (overwrite page header_words (encode_rows rows)) 1 (length rows ∷ []) count_room 0 (omega arith)

  pub with_range : word (with_rows page rows) 2 ≡ word page 2
  unfolding with_rows
  with_range =
      word_behind (overwrite page header_words (encode_rows rows)) 1 (length rows ∷ []) count_room 2 (omega arith)
      ∙ word_before page header_words (encode_rows rows) row_room 2 (omega arith)

  pub with_row_words : (i : ℕ) → i < length (encode_rows rows) → get_or (with_rows page rows) (header_words + i) 0 ≡ get_or (encode_rows rows) i 0
  unfolding with_rows
  with_row_words i h =
      word_behind (overwrite page header_words (encode_rows rows)) 1 (length rows ∷ []) count_room (header_words + i) (omega arith)
      ∙ word_inside page header_words (encode_rows rows) row_room i h

  pub with_behind : (i : ℕ) → row_start (length rows) ≤ i → word (with_rows page rows) i ≡ word page i
  unfolding with_rows
  with_behind i h =
      word_behind (overwrite page header_words (encode_rows rows)) 1 (length rows ∷ []) count_room i (omega arith)
      ∙ word_behind page header_words (encode_rows rows) row_room i (omega (arith, encode_length rows))

  pub with_birth : word (with_rows page rows) 3 ≡ word page 3
  unfolding with_rows
  with_birth =
      word_behind (overwrite page header_words (encode_rows rows)) 1 (length rows ∷ []) count_room 3 (omega arith)
      ∙ word_before page header_words (encode_rows rows) row_room 3 (omega arith)

  pub with_rows_lem : All Fits rows → rows_of (with_rows page rows) ≡ rows
  with_rows_lem f = ap (rows_from (with_rows page rows) header_words) with_count ∙ rows_back (with_rows page rows) header_words rows f with_row_words

-- A page written whole
module _ (level low high birth : ℕ) (rows : List Row) (few : length rows ≤ row_limit) where
  pub fresh_length : length (fresh_page level low high birth rows) ≡ page_words
  unfolding fresh_page zeros
  fresh_length =
      omega (
        arith,
        length-append (encode_rows rows) (zeros (row_words * (row_limit - length rows))),
        encode_length rows,
        length-replicate {A = ℕ} (row_words * (row_limit - length rows)) 0,
      )

  pub fresh_level : word (fresh_page level low high birth rows) 0 ≡ level
  unfolding fresh_page
  fresh_level = refl

  pub fresh_count : word (fresh_page level low high birth rows) 1 ≡ length rows
  unfolding fresh_page
  fresh_count = refl

  pub fresh_range : word (fresh_page level low high birth rows) 2 ≡ key_range low high
  unfolding fresh_page
  fresh_range = refl

  pub fresh_birth : word (fresh_page level low high birth rows) 3 ≡ birth
  unfolding fresh_page
  fresh_birth = refl

  fresh_holding : (i : ℕ) → i < length (encode_rows rows) → get_or (fresh_page level low high birth rows) (header_words + i) 0 ≡ get_or (encode_rows rows) i 0
  unfolding fresh_page
  fresh_holding i h =
      get_or-append-add (level ∷ (length rows ∷ (key_range low high ∷ (birth ∷ [])))) (encode_rows rows ++ zeros (row_words * (row_limit - length rows))) i 0
      ∙ get_or-append (encode_rows rows) (zeros (row_words * (row_limit - length rows))) 0 i h

  pub fresh_rows : All Fits rows → rows_of (fresh_page level low high birth rows) ≡ rows
  fresh_rows f =
      ap (rows_from (fresh_page level low high birth rows) header_words) fresh_count
      ∙ rows_back (fresh_page level low high birth rows) header_words rows f fresh_holding
