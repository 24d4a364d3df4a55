-- The rows of a page at their places: what their words can hold, which of them are live, and that in key order they are still at their places.
use Prim.Native.Nat.{ℕ, zero, suc, ◌≤◌, ◌<◌, ◌+◌}
use native.Mathlib.Omega.{arith}
use mathlib.Core.Path.{◌≡◌, refl, ap}
use mathlib.Core.Bool.{Bool, true, false}
use mathlib.Core.List.{List}
use Rattle.tree.specs.Row.{row_at, row_start, row_words, rows_from, live}
use Rattle.tree.specs.KeyOrder.{Placed, placed_low, keep_if, live_placed, sort_by}
use Rattle.rows.specs.RowPlaces.{placed_at}
use Rattle.tree.proofs.Lists.{All}
use Rattle.tree.proofs.Sorted.{sort_all}

-- A row of a page together with its place, which is below n
pub record Seated (page : List ℕ) (n : ℕ) (x : Placed) : Type 0 where
  pub within : x.place < n
  pub same : x.row ≡ row_at page (row_start x.place)

module _ (page : List ℕ) (n : ℕ) (x : Placed) (s : Seated page n x) where
  pub low_fits : x.row.low < 65536
  low_fits = rw s.same (omega arith)

  pub high_fits : x.row.high < 65536
  high_fits = rw s.same (omega arith)

-- The live rows among the m rows from place `from` on
abbrev pub live_from : (page : List ℕ) → (t from m : ℕ) → List Placed
live_from page t from m = live_placed t from (rows_from page (row_start from) m)

pub live_more : (page : List ℕ) (t from m : ℕ) →
    live_from page t from (suc m) ≡ keep_if (live t (row_at page (row_start from))) (placed_at page from) (live_from page t (suc from) m)
unfolding live_placed rows_from
live_more page t from m =
    let e : row_start from + row_words ≡ row_start (suc from) = omega arith in
    ap (λ (at : ℕ). keep_if (live t (row_at page (row_start from))) (placed_at page from) (live_placed t (suc from) (rows_from page at m))) e

pub live_seated : (page : List ℕ) (n t from m : ℕ) → from + m ≤ n → All (Seated page n) (live_from page t from m)
unfolding live_placed rows_from
live_seated page n t from zero h = tt
live_seated page n t from (suc m) h =
    rw (live_more page t from m) (go (live t (row_at page (row_start from))) (live_seated page n t (suc from) m (omega arith)))
  where
    go : (b : Bool) → All (Seated page n) (live_from page t (suc from) m) → All (Seated page n) (keep_if b (placed_at page from) (live_from page t (suc from) m))
    go true ih = (record { within = omega arith; same = refl }, ih)
    go false ih = ih

-- The order of those rows
abbrev pub order_from : (page : List ℕ) → (t from m : ℕ) → List Placed
order_from page t from m = sort_by placed_low (live_from page t from m)

pub order_seated : (page : List ℕ) (n t from m : ℕ) → from + m ≤ n → All (Seated page n) (order_from page t from m)
order_seated page n t from m h = sort_all placed_low _ (live_from page t from m) (live_seated page n t from m h)
