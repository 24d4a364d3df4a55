-- A row of a page's words together with its place.
use Rattle.std.specs.Prelude.{ℕ, List}
use Rattle.tree.specs.Row.{row_at, row_start}
use Rattle.tree.specs.KeyOrder.{Placed}

abbrev pub placed_at : List ℕ → ℕ → Placed
placed_at page place = record { place = place; row = row_at page (row_start place) }
