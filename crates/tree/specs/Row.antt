-- The words of a page and of a row: document 01, "Pages and rows".
use Rattle.std.specs.Prelude.{ℕ, zero, suc, ◌+◌, ◌*◌, List, [], ◌∷◌, ◌++◌, Bool, ◌&&◌, get_or, leb, ltb}
use Rattle.words.specs.Words.{low_key, high_key, child_page, birth_of, end_of, row_keys, life_word}
use Rattle.words.specs.Value.{value_at, encode_value, value_words}
use Rattle.tree.specs.declared.types.Row.{Row}

-- "Page words: 0 level ..; 1 rows ..; 2 low key + 65,536 × high key; 3 tick of birth; then 64 rows"
abbrev pub header_words : ℕ
header_words = 4

-- Row words "0 low key ..; 1 birth ..; 2 count": where a row's value starts, behind its keys and its life
abbrev pub value_start : ℕ
value_start = 2

-- "64 rows of 4 words"
abbrev pub row_words : ℕ
row_words = value_start + value_words

-- "rows, 1 to 64"; "Over 64 rows, the page overflows"
abbrev pub row_limit : ℕ
row_limit = 64

-- "Over 40 of them go to two pages"
abbrev pub copy_limit : ℕ
copy_limit = 40

-- "260 to a page"
abbrev pub page_words : ℕ
page_words = header_words + row_limit * row_words

-- A word of a page; 0 past the page's end
abbrev pub word : List ℕ → ℕ → ℕ
word page i = get_or page i 0

-- Where the row at a place starts
abbrev pub row_start : ℕ → ℕ
row_start place = header_words + row_words * place

-- "Row words: 0 low key + 65,536 × high key + 2^32 × child page ..; 1 birth + 2^32 × end ..; 2 count; 3 weight sum"
abbrev pub row_at : List ℕ → ℕ → Row
row_at page at =
    record {
      low = low_key (word page at);
      high = high_key (word page at);
      child = child_page (word page at);
      birth = birth_of (word page (at + 1));
      end = end_of (word page (at + 1));
      value = value_at page (at + value_start);
    }

abbrev pub encode_row : Row → List ℕ
encode_row r = row_keys r.low r.high r.child ∷ (life_word r.birth r.end ∷ encode_value r.value)

-- So many rows, the first of which starts at a word
unfoldable pub rows_from : List ℕ → ℕ → ℕ → List Row
rows_from page at zero = []
rows_from page at (suc n) = row_at page at ∷ rows_from page (at + row_words) n

unfoldable pub encode_rows : List Row → List ℕ
encode_rows [] = []
encode_rows (r ∷ rs) = encode_row r ++ encode_rows rs

-- The rows of a page, as many as its word 1 says
abbrev pub rows_of : List ℕ → List Row
rows_of page = rows_from page header_words (word page 1)

-- "A row is live at t if birth ≤ t < end."
abbrev pub live_for : ℕ → ℕ → ℕ → Bool
live_for birth end t = leb birth t && ltb t end

abbrev pub live : ℕ → Row → Bool
live t r = live_for r.birth r.end t

-- "has low key ≤ k < high key": "High keys and ends are not included in a row."
abbrev pub holds : ℕ → Row → Bool
holds k r = leb r.low k && ltb k r.high

-- "low key < k < high key"
abbrev pub around : ℕ → Row → Bool
around k r = ltb r.low k && ltb k r.high
