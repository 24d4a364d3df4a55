-- Refusal 26 as far as one page's own words go: document 01, "Refused because of the state".
use Rattle.std.specs.Prelude.{ℕ, List, [], ◌∷◌, Bool, cond, ◌&&◌, ◌||◌, leb, ltb, eqb}
use Rattle.words.specs.Words.{key_range}
use Rattle.tree.specs.declared.types.Row.{Row}
use Rattle.tree.specs.Row.{word, rows_of, row_limit}
use Rattle.tree.specs.KeyOrder.{placed_low, placed_high, key_order}

-- One walk over items in the order of their low keys decides whether no item is empty and each key from `low` up to `high` lies in exactly one of them.
-- `next` is the lowest key from `low` on that no item so far held. An item outside the range is passed over; any other must start at `next`,
-- or start below the range while `next` is still `low`.
module _ {A : Type 0} (low_of high_of : A → ℕ) (low high : ℕ) where
  abbrev pub outside : A → Bool
  outside x = leb (high_of x) low || leb high (low_of x)

  abbrev pub clipped_low : A → ℕ
  clipped_low x = cond (ltb (low_of x) low) low (low_of x)

  abbrev pub fits_next : ℕ → A → Bool
  fits_next next x = ltb (low_of x) (high_of x) && (outside x || eqb (clipped_low x) next)

  abbrev pub next_key : ℕ → A → ℕ
  next_key next x = cond (outside x) next (high_of x)

  unfoldable pub each_key_once : ℕ → List A → Bool
  each_key_once next [] = leb high next
  each_key_once next (x ∷ xs) = fits_next next x && each_key_once (next_key next x) xs

-- "live rows that fail to hold each key of the page's range once, an empty live row": neither holds (Tiling has the declarative reading)
abbrev pub rows_tile : (t low high : ℕ) → List Row → Bool
rows_tile t low high rows = each_key_once placed_low placed_high low high low (key_order t rows)

-- "wrong level, row count out of 1 to 64, .. a child or root of another key range than expected", each compared as a whole word
abbrev pub header_fits : (level low high : ℕ) → (page : List ℕ) → Bool
header_fits level low high page =
    eqb (word page 0) level && (leb 1 (word page 1) && (leb (word page 1) row_limit && eqb (word page 2) (key_range low high)))

-- A page of the expected level and key range that is no ground for 26 at t
abbrev pub sound_at : (t level low high : ℕ) → (page : List ℕ) → Bool
sound_at t level low high page = header_fits level low high page && rows_tile t low high (rows_of page)
