-- A page written whole: document 01, "A new page is written into its own part of the page table, unused words zero".
use Rattle.std.specs.Prelude.{ℕ, ◌*◌, ◌-◌, List, [], ◌∷◌, ◌++◌, length, replicate}
use Rattle.words.specs.declared.value.Value.{Value}
use Rattle.words.specs.Words.{key_range, key_limit, open_end}
use Rattle.words.specs.Value.{zero}
use Rattle.tree.specs.declared.types.Row.{Row}
use Rattle.tree.specs.Row.{row_limit, row_words, encode_rows}

unfoldable pub zeros : ℕ → List ℕ
zeros n = replicate n 0

-- All words of a page with these rows
unfoldable pub fresh_page : (level low high birth : ℕ) → List Row → List ℕ
fresh_page level low high birth rows =
    level ∷ (length rows ∷ (key_range low high ∷ (birth ∷ (encode_rows rows ++ zeros (row_words * (row_limit - length rows))))))

-- A row "born at t and open"
abbrev pub new_row : (t low high child : ℕ) → Value → Row
new_row t low high child value = record { low = low; high = high; child = child; birth = t; end = open_end; value = value }

-- "a new root one level up, two rows of value zero": `middle` is the key where the lower half ends
abbrev pub two_rows : (t middle lower upper : ℕ) → List Row
two_rows t middle lower upper = new_row t 0 middle lower zero ∷ (new_row t middle key_limit upper zero ∷ [])
