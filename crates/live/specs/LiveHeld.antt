-- What a lookup and an entry read from a page's live rows, in the order of their places.
use Rattle.std.specs.Prelude.{ℕ, ◌+◌, List, [], ◌∷◌, cond, ltb, length, Option, Some, None, Result, Ok}
use Rattle.words.specs.declared.value.Value.{Value}
use Rattle.words.specs.Value.{zero, plus, value_at}
use Rattle.tree.specs.declared.types.Held.{Held}
use Rattle.tree.specs.declared.types.SpoiledPage.{SpoiledPage}
use Rattle.tree.specs.Spoiled.{spoiled}
use Rattle.tree.specs.Row.{row_start, value_start}
use Rattle.tree.specs.RowEdits.{row_in}
use Rattle.live.specs.declared.survey.Survey.{Survey}
use Rattle.ranges.specs.KeyRanges.{range_low}
use Rattle.ranges.specs.Nearest.{least, place_at}

-- The values of the rows whose low key is below `low`, added to a total
unfoldable pub add_below : (page : List ℕ) → (low : ℕ) → Value → List ℕ → List ℕ → Value
add_below page low total [] places = total
add_below page low total (e ∷ es) [] = total
add_below page low total (e ∷ es) (p ∷ ps) =
    add_below page low (plus total (cond (ltb (range_low e) low) (value_at page (row_start p + value_start)) zero)) es ps

-- The row at a place found, and its true value
abbrev pub held_at_place : (page ranges places : List ℕ) → Option ℕ → Result Held SpoiledPage
held_at_place page ranges places None = spoiled
held_at_place page ranges places (Some place) =
    Ok (record { row = row_in page place; value = plus (row_in page place).value (add_below page (row_in page place).low zero ranges places) })

-- "the row that is live at t and has low key ≤ k < high key"
abbrev pub held_among : (page ranges places : List ℕ) → (k : ℕ) → Result Held SpoiledPage
held_among page ranges places k = held_at_place page ranges places (place_at places (least 0 (k + 1) (k + 1) 0 ranges))

-- A page's survey: "the live row with low key < k < high key", "the first live row, in key order, with low key ≥ k"
abbrev pub survey_among : (rows k : ℕ) → (ranges places : List ℕ) → Survey
survey_among rows k ranges places =
    record {
      rows = rows;
      live = length ranges;
      inner = place_at places (least 0 k (k + 1) 0 ranges);
      gain = place_at places (least k 65536 0 0 ranges);
    }
