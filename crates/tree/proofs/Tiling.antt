-- What the page test decides: "live rows that fail to hold each key of the page's range once, an empty live row".
-- The walk in key order accepts the rows of a page just where each key of the range lies in exactly one live row and no live row is empty.
use Prim.Native.Nat.{ℕ, ◌≤◌, ◌<◌}
use native.Mathlib.Nat.{le_refl}
use mathlib.Core.Path.{◌≡◌, sym, ◌∙◌}
use mathlib.Core.Bool.{true}
use mathlib.Core.List.{List}
use Rattle.tree.specs.declared.types.Row.{Row}
use Rattle.tree.specs.Row.{live}
use Rattle.tree.specs.KeyOrder.{placed_low, placed_high, live_placed, key_order}
use Rattle.tree.specs.PageTest.{rows_tile}
use Rattle.tree.proofs.Lists.{All}
use Rattle.tree.proofs.Sorted.{sort_by_sorted}
use Rattle.tree.proofs.Walk.{due_one, walk_once, walk_full, walk_accepts}
use Rattle.tree.proofs.Places.{cover, order_count, order_live, live_order}

pub record Tiles (t low high : ℕ) (rows : List Row) : Type 0 where
  pub once : (q : ℕ) → low ≤ q → q < high → cover t q rows ≡ 1
  pub full : All (λ (r : Row). live t r ≡ true → r.low < r.high) rows

module _ (t low high : ℕ) (rows : List Row) where
  pub rows_tile_tiles : rows_tile t low high rows ≡ true → Tiles t low high rows
  rows_tile_tiles e =
      record {
        once =
            λ q p r. sym (order_count t q rows)
            ∙ walk_once placed_low placed_high low high low (key_order t rows) (le_refl low) e q p r ∙ due_one low q p;
        full = order_live (λ (r : Row). r.low < r.high) t rows (walk_full placed_low placed_high low high low (key_order t rows) e);
      }

  -- And back, for a range that has a key: every range that a lookup or an entry meets has one
  pub tiles_rows_tile : low < high → Tiles t low high rows → rows_tile t low high rows ≡ true
  tiles_rows_tile k s =
      walk_accepts placed_low placed_high low high k low (key_order t rows) (le_refl low) (sort_by_sorted placed_low (live_placed t 0 rows))
      (live_order (λ (r : Row). r.low < r.high) t rows s.full) (λ q p r. order_count t q rows ∙ s.once q p r ∙ sym (due_one low q p))
