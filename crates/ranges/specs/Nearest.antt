-- The first row in key order that fits, among rows in the order of their places: the least number made of low key and position.
use Rattle.std.specs.Prelude.{ℕ, suc, ◌+◌, ◌*◌, ◌%◌, List, [], ◌∷◌, Bool, cond, ◌&&◌, leb, ltb, get_or, Option, Some, None}
use Rattle.tree.specs.KeyOrder.{Placed}
use Rattle.tree.specs.TrueValue.{Search, none, one}
use Rattle.ranges.specs.KeyRanges.{range_low, range_high, holds_key, lesser}

-- The number of no range: above those of all that fit
abbrev pub no_range : ℕ
no_range = 16777216

module _ (from below above : ℕ) where
  -- It starts from `from` on but below `below`, and does not stop below `above`
  abbrev pub fits : ℕ → Bool
  fits e = leb from (range_low e) && (ltb (range_low e) below && leb above (range_high e))

  abbrev pub candidate : ℕ → ℕ → ℕ
  candidate at e = cond (fits e) (256 * range_low e + at) no_range

  -- The least number of the ranges, the first of which is at position `at`
  unfoldable pub least : ℕ → List ℕ → ℕ
  least at [] = no_range
  least at (e ∷ es) = lesser (candidate at e) (least (suc at) es)

-- The place at the position that a number has
abbrev pub place_at : List ℕ → ℕ → Option ℕ
place_at places best = cond (leb no_range best) None (Some (get_or places (best % 256) 0))

-- The place of the row that a search in key order found
abbrev pub place_found : Search Placed → Option ℕ
place_found none = None
place_found (one x) = Some x.place

-- 256 + its position for a range that holds a key, and these numbers added up over the ranges, the first of which is at position `at`
module _ (key : ℕ) where
  abbrev pub holder : ℕ → ℕ → ℕ
  holder at e = cond (holds_key key e) (256 + at) 0

  unfoldable pub holder_sum : ℕ → List ℕ → ℕ
  holder_sum at [] = 0
  holder_sum at (e ∷ es) = holder at e + holder_sum (suc at) es
