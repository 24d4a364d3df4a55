-- The key ranges of rows, one number each, as the code keeps them in arrays.
use Rattle.std.specs.Prelude.{ℕ, ◌/◌, ◌%◌, Bool, cond, ◌&&◌, leb, ltb}
use Rattle.words.specs.Words.{key_range}
use Rattle.tree.specs.KeyOrder.{Placed}

-- The key range of a row, as page word 2 has that of a page: "low key + 65,536 × high key"
abbrev pub range_of : Placed → ℕ
range_of x = key_range x.row.low x.row.high

abbrev pub range_low : ℕ → ℕ
range_low e = e % 65536

abbrev pub range_high : ℕ → ℕ
range_high e = e / 65536

abbrev pub holds_key : ℕ → ℕ → Bool
holds_key q e = leb (range_low e) q && ltb q (range_high e)

abbrev pub place_in : Placed → ℕ
place_in x = x.place

abbrev pub lesser : ℕ → ℕ → ℕ
lesser a b = cond (ltb a b) a b
