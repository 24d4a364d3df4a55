-- One row of a page, in the page's words: the vocabulary of the code's contracts that edit pages in place.
use Rattle.std.specs.Prelude.{ℕ, ◌+◌, List}
use Rattle.words.specs.Overwrite.{overwrite}
use Rattle.tree.specs.declared.types.Row.{Row}
use Rattle.tree.specs.Row.{word, row_start, row_at, encode_row}
use Rattle.tree.specs.Edit.{ended, put_count}

-- The row at a place
abbrev pub row_in : List ℕ → ℕ → Row
row_in page place = row_at page (row_start place)

-- The page with the row at a place written over; no other word changes
abbrev pub put_row : List ℕ → ℕ → Row → List ℕ
put_row page place r = overwrite page (row_start place) (encode_row r)

-- The page with the row at a place ended at t
abbrev pub end_row : List ℕ → ℕ → ℕ → List ℕ
end_row page place t = put_row page place (ended t (row_at page (row_start place)))

-- The page with one row more, behind those that it has
abbrev pub append_row : List ℕ → Row → List ℕ
append_row page r = put_count (put_row page (word page 1) r) (word page 1 + 1)
