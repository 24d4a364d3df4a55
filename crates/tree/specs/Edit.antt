-- Rows ended and born, and the rows of a page in its words: document 01, "Entering a point", steps 2 to 4.
use Rattle.std.specs.Prelude.{ℕ, List, [], ◌∷◌, length}
use Rattle.words.specs.Words.{open_end}
use Rattle.words.specs.Overwrite.{overwrite}
use Rattle.tree.specs.declared.types.Row.{Row}
use Rattle.tree.specs.Row.{header_words, encode_rows}

-- "ends at t"
abbrev pub ended : ℕ → Row → Row
ended t r = record { low = r.low; high = r.high; child = r.child; birth = r.birth; end = t; value = r.value }

-- "born at t and open"
abbrev pub born_at : ℕ → Row → Row
born_at t r = record { low = r.low; high = r.high; child = r.child; birth = t; end = open_end; value = r.value }

-- The page with another number of rows
abbrev pub put_count : List ℕ → ℕ → List ℕ
put_count page n = overwrite page 1 (n ∷ [])

-- The page with these rows for its own: word 1 and the row words change, the words past the rows stay as found
unfoldable pub with_rows : List ℕ → List Row → List ℕ
with_rows page rows = put_count (overwrite page header_words (encode_rows rows)) (length rows)
