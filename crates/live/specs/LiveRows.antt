-- The live rows of a page as the code lists them: their key ranges and their places, in two arrays, in the order of the places.
use Rattle.std.specs.Prelude.{◌≡◌, ℕ, ◌+◌, ◌*◌, ◌≤◌, List, map, length, take}
use Rattle.words.specs.Lists.{All}
use Rattle.tree.specs.Row.{row_start, row_words, rows_from, row_limit, header_words}
use Rattle.tree.specs.KeyOrder.{Placed, live_placed}
use Rattle.ranges.specs.KeyRanges.{range_of, place_in}

-- The highest row word 1, "birth + 2^32 × end", with an end that is not after t
abbrev pub ended_by : ℕ → ℕ
ended_by t = 4294967296 * t + 4294967295

-- The rows live at t among the first n of a page
abbrev pub live_rows : ℕ → List ℕ → ℕ → List Placed
live_rows t page n = live_placed t 0 (rows_from page header_words n)

-- The arrays have them at their front
pub record Listed (t : ℕ) (page : List ℕ) (n : ℕ) (ranges places : List ℕ) (count : ℕ) : Type 0 where
  pub counted : count ≡ length (live_rows t page n)
  pub bounded : count ≤ row_limit
  pub ranges_are : take count ranges ≡ map range_of (live_rows t page n)
  pub places_are : take count places ≡ map place_in (live_rows t page n)

-- The rows at the places lie in the page
abbrev pub AllIn : List ℕ → List ℕ → Type 0
AllIn page places = All (λ (p : ℕ). row_start p + row_words ≤ length page) places
