-- Entering a point, what a page becomes: document 01, steps 5 and 6.
use Rattle.std.specs.Prelude.{ℕ, ◌+◌, ◌-◌, ◌/◌, List, [], ◌∷◌, map, true, cond, length, take, drop, leb}
use Rattle.words.specs.declared.value.Value.{Value}
use Rattle.words.specs.Words.{low_key, high_key}
use Rattle.tree.specs.declared.types.Row.{Row}
use Rattle.tree.specs.Row.{word, row_limit, copy_limit}
use Rattle.tree.specs.KeyOrder.{Placed, key_order}
use Rattle.tree.specs.TrueValue.{total_where, row_value}
use Rattle.tree.specs.Edit.{born_at, with_rows}
use Rattle.tree.specs.Fresh.{fresh_page}
use Rattle.tree.specs.Use.{taken_page}
use Rattle.tree.specs.Tree.{Tree, page_at, put_page}
use Rattle.tree.specs.RowSteps.{gained}
use Rattle.tree.specs.declared.types.Became.{Became}
use Rattle.tree.specs.declared.types.Became.TheVariants.{Stays, Copied, Halved}

-- What the call has written so far: the table, how many pages it made, and what the page at hand became
pub record Written : Type 0 where
  pub table : List ℕ
  pub made : ℕ
  pub became : Became

-- "Its live rows, in key order, go to a new page; the page and each row in it are born at t, each row open."
abbrev pub copied_rows : ℕ → List Row → List Row
copied_rows t rows = map (λ (x : Placed). born_at t x.row) (key_order t rows)

-- "the lower taking the larger half"
abbrev pub lower_half : ℕ → ℕ
lower_half n = n - n / 2

abbrev pub lower_count : List Row → ℕ
lower_count rows = lower_half (length rows)

abbrev pub lowest_key : ℕ → List Row → ℕ
lowest_key default [] = default
lowest_key default (r ∷ rs) = r.low

-- Step 6: "The upper page's first row gains the total of the lower page."
abbrev pub gain_first : Value → List Row → List Row
gain_first v [] = []
gain_first v (r ∷ rs) = gained v r ∷ rs

abbrev pub total_of : List Row → Value
total_of rows = total_where row_value (λ (r : Row). true) rows

-- The two pages are of the old page's level and cover its key range, cut at the upper page's lowest key
module _ (tree : Tree) (t : ℕ) (so : Written) (old : List ℕ) where
  abbrev pub fresh_at : ℕ → ℕ → List Row → List ℕ
  fresh_at low high rows = fresh_page (word old 0) low high t rows

  abbrev pub copy_page : List Row → Written
  copy_page rows =
      record {
        table = put_page so.table (taken_page tree.used so.made) (fresh_at (low_key (word old 2)) (high_key (word old 2)) rows);
        made = so.made + 1;
        became = Copied (record { page = taken_page tree.used so.made; low = low_key (word old 2); high = high_key (word old 2) });
      }

  abbrev pub halve_page : List Row → List Row → ℕ → Written
  halve_page lower upper middle =
      record {
        table =
            put_page
            (put_page so.table (taken_page tree.used so.made) (fresh_at (low_key (word old 2)) middle lower))
            (taken_page tree.used (so.made + 1))
            (fresh_at middle (high_key (word old 2)) (gain_first (total_of lower) upper));
        made = so.made + 2;
        became =
            Halved
            (record { page = taken_page tree.used so.made; low = low_key (word old 2); high = middle })
            (record { page = taken_page tree.used (so.made + 1); low = middle; high = high_key (word old 2) });
      }

  -- "Over 40 of them go to two pages"
  abbrev pub split_page : List Row → Written
  split_page rows =
      cond (leb (length rows) copy_limit)
      (copy_page rows)
      (halve_page (take (lower_count rows) rows) (drop (lower_count rows) rows) (lowest_key (high_key (word old 2)) (drop (lower_count rows) rows)))

-- Step 5: "Over 64 rows, the page overflows. It keeps the words it had before the call." A page that stays gets its rows written.
unfoldable pub finish_page : Tree → ℕ → Written → ℕ → List Row → Written
finish_page tree t so page rows =
    cond (leb (length rows) row_limit)
    (record { table = put_page so.table page (with_rows (page_at tree.table page) rows); made = so.made; became = Stays })
    (split_page tree t so (page_at tree.table page) (copied_rows t rows))
