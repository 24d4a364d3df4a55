-- What entering a point has to know of a page's rows: document 01, steps 1 to 3.
use Rattle.std.specs.Prelude.{ℕ, List, Bool, length, leb}
use Rattle.live.specs.declared.survey.Survey.{Survey}
use Rattle.tree.specs.Row.{word, rows_of, around}
use Rattle.tree.specs.KeyOrder.{Placed, key_order}
use Rattle.tree.specs.TrueValue.{first}
use Rattle.ranges.specs.Nearest.{place_found}

-- "the live row with low key < k < high key"
abbrev pub is_around : ℕ → Placed → Bool
is_around k x = around k x.row

-- "the first live row, in key order, with low key ≥ k"
abbrev pub starts_from : ℕ → Placed → Bool
starts_from k x = leb k x.row.low

-- The rows and the live rows of a page, and the places of those two rows
abbrev pub survey_of : ℕ → ℕ → List ℕ → Survey
survey_of t k page =
    record {
      rows = word page 1;
      live = length (key_order t (rows_of page));
      inner = place_found (first (is_around k) (key_order t (rows_of page)));
      gain = place_found (first (starts_from k) (key_order t (rows_of page)));
    }
