-- "live rows that fail to hold each key of the page's range once, an empty live row": the test of refusal 26 on key ranges in any order.
use Rattle.std.specs.Prelude.{ℕ, ◌-◌, ◌≡◌, List, [], ◌∷◌, Bool, true, cond, ◌&&◌, ◌||◌, leb, ltb, eqb}
use Rattle.words.specs.Lists.{All}
use Rattle.words.specs.Sums.{sum_by, count}
use Rattle.ranges.specs.KeyRanges.{range_low, range_high, holds_key, lesser}

abbrev pub larger : ℕ → ℕ → ℕ
larger a b = cond (ltb a b) b a

abbrev pub is_empty : ℕ → Bool
is_empty e = leb (range_high e) (range_low e)

-- How many keys of the range low to high a range has
abbrev pub clipped : (low high e : ℕ) → ℕ
clipped low high e = lesser (range_high e) high - larger (range_low e) low

-- The same, but an empty range counts for more than a range can have
abbrev pub spanned : (low high e : ℕ) → ℕ
spanned low high e = cond (is_empty e) 65536 (clipped low high e)

-- A key at which a range stops is held again, unless it lies outside the range low to high
abbrev pub goes_on : (low high : ℕ) → (ranges : List ℕ) → (q : ℕ) → Bool
goes_on low high ranges q = leb q low || (leb high q || ltb 0 (count (holds_key q) ranges))

abbrev pub stops_well : (low high : ℕ) → (ranges : List ℕ) → (e : ℕ) → Bool
stops_well low high ranges e = goes_on low high ranges (range_high e)

-- Every item passes a test
unfoldable pub every : (ℕ → Bool) → List ℕ → Bool
every test [] = true
every test (x ∷ xs) = test x && every test xs

-- None is empty, together they are as long as the range, its lowest key is held, and where one stops another goes on.
-- RangeTiles proves that this is what the walk in key order of the page test decides.
unfoldable pub tiles : ℕ → ℕ → List ℕ → Bool
tiles low high ranges =
    eqb (count is_empty ranges) 0
    && (eqb (sum_by (clipped low high) ranges) (high - low)
    && (ltb 0 (count (holds_key low) ranges) && every (stops_well low high ranges) ranges))

-- The code notes keys in so many slots, by their last bits
abbrev pub slots : ℕ
slots = 512

-- A key at which a range may stop: that where the page's range stops, or one that is held
abbrev pub may_stop : ℕ → List ℕ → ℕ → Bool
may_stop high ranges q = eqb q high || ltb 0 (count (holds_key q) ranges)

-- In every slot stands such a key
abbrev pub Noted : ℕ → List ℕ → List ℕ → Type 0
Noted high ranges noted = All (λ (q : ℕ). may_stop high ranges q ≡ true) noted
