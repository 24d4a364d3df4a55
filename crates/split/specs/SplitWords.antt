-- The pages of an overflow as the code makes them: from the words of the page that overflowed, with the rows added, and the entries of its key order.
-- `proofs/SplitLaws` and `proofs/SplitRows` show that they are the pages of Overflow.
use Rattle.std.specs.Prelude.{◌≡◌, ℕ, ◌+◌, ◌*◌, ◌-◌, ◌≤◌, List, [], ◌∷◌, length, take, drop}
use Rattle.words.specs.Words.{low_key, high_key}
use Rattle.words.specs.declared.value.Value.{Value}
use Rattle.words.specs.Value.{plus}
use Rattle.tree.specs.declared.types.Row.{Row}
use Rattle.page.specs.declared.fresh.Page.{Page}
use Rattle.tree.specs.Row.{word, header_words, row_words, rows_of}
use Rattle.tree.specs.Limits.{most_rows}
use Rattle.tree.specs.RowEdits.{row_in}
use Rattle.tree.specs.Edit.{born_at}
use Rattle.tree.specs.Fresh.{fresh_page}
use Rattle.page.specs.PageValue.{with_row}
use Rattle.key_order.specs.Entries.{entry_place, Ordered}
use Rattle.tree.specs.declared.types.TreeUse.{TreeUse}
use Rattle.tree.specs.Tree.{put_page}
use Rattle.tree.specs.declared.types.Became.TheVariants.{Stays}
use Rattle.tree.specs.Overflow.{Written, copied_rows, lower_count, lowest_key, gain_first, total_of, split_page}
use Rattle.tree.specs.Taking.{rootless}

-- A page's words with room for the rows that one entry may append
abbrev pub scratch_words : ℕ
scratch_words = header_words + most_rows * row_words

-- The entries of an order from one place up to another
abbrev pub between : ℕ → ℕ → List ℕ → List ℕ
between from to order = take (to - from) (drop from order)

-- The row of an entry, and its copy, born at t and open
abbrev pub entry_row : List ℕ → ℕ → Row
entry_row words e = row_in words (entry_place e)

abbrev pub copy_of : List ℕ → ℕ → ℕ → Row
copy_of words t e = born_at t (entry_row words e)

-- The page with the copies of the entries' rows added
unfoldable pub fill_page : (words : List ℕ) → (t : ℕ) → Page → List ℕ → Page
fill_page words t page [] = page
fill_page words t page (e ∷ es) = fill_page words t (with_row page (copy_of words t e)) es

-- The values of the entries' rows, added to a total
unfoldable pub add_rows : List ℕ → Value → List ℕ → Value
add_rows words total [] = total
add_rows words total (e ∷ es) = add_rows words (plus total (entry_row words e).value) es

-- Step 6, in a page as a value
abbrev pub gain_page : Value → Page → Page
gain_page v p =
    record { level = p.level; low = p.low; high = p.high; birth = p.birth; count = p.count; rows = gain_first v p.rows }

-- What the copies are taken from: the words of the page that overflowed, and the entries of its live rows in key order from `start` on
pub record Sourced (t : ℕ) (words order : List ℕ) (start : ℕ) : Type 0 where
  pub room : length words ≡ scratch_words
  pub few : word words 1 ≤ most_rows
  pub long : length order ≡ most_rows
  pub is : Ordered t words order start

-- The table after the live rows went to one new page, or to two, and the key where the two are cut
abbrev pub live_copies : List ℕ → ℕ → List Row
live_copies words t = copied_rows t (rows_of words)

unfoldable pub copied_table : (table : List ℕ) → (number : ℕ) → (words : List ℕ) → (t : ℕ) → List ℕ
copied_table table number words t =
    put_page table number (fresh_page (word words 0) (low_key (word words 2)) (high_key (word words 2)) t (live_copies words t))

unfoldable pub middle_key : List ℕ → ℕ → ℕ
middle_key words t = lowest_key (high_key (word words 2)) (drop (lower_count (live_copies words t)) (live_copies words t))

unfoldable pub halved_table : (table : List ℕ) → (first second : ℕ) → (words : List ℕ) → (t : ℕ) → List ℕ
halved_table table first second words t =
    put_page
    (put_page table first
    (fresh_page (word words 0) (low_key (word words 2)) (middle_key words t) t (take (lower_count (live_copies words t)) (live_copies words t))))
    second
    (fresh_page (word words 0) (middle_key words t) (high_key (word words 2)) t
    (gain_first (total_of (take (lower_count (live_copies words t)) (live_copies words t)))
    (drop (lower_count (live_copies words t)) (live_copies words t))))

-- What an overflow writes and says, where the call has made so many pages
abbrev pub split_words : (table : List ℕ) → TreeUse → (made : ℕ) → (words : List ℕ) → (t : ℕ) → Written
split_words table used made words t =
    split_page (rootless table used) t (record { table = table; made = made; became = Stays }) words
    (copied_rows t (rows_of words))
