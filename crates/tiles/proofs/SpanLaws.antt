-- One sum in place of two: how many ranges are empty, and how many keys of the range low to high the others have.
use Prim.Native.Nat.{ℕ, ◌+◌, ◌-◌, ◌*◌, ◌≤◌, ◌<◌}
use native.Mathlib.Omega.{arith}
use mathlib.Core.Path.{◌≡◌, refl, sym, ap, ◌∙◌}
use mathlib.Core.Bool.{Bool, true, false, cond, ◌&&◌}
use mathlib.Core.List.{List, [], ◌∷◌}
use lib.Dec.{eqb, ltb}
use borrow.Author.Tests.{leb-true, ltb-true, eqb-true, eqb-false, ne_eqb}
use Rattle.words.specs.Sums.{sum_by, count}
use Rattle.ranges.specs.KeyRanges.{range_low, range_high, holds_key}
use Rattle.tiles.specs.TileTest.{larger, is_empty, clipped, spanned, stops_well, every, tiles}
use Rattle.ranges.proofs.LesserLaws.{lesser_still}

-- The larger of two numbers is at least the first
larger_least : (a b : ℕ) → a ≤ larger a b
larger_least a b = go (ltb a b) refl
  where
    go : (c : Bool) → ltb a b ≡ c → a ≤ cond c b a
    go true e = omega (arith, ltb-true a b e)
    go false e = omega arith

-- An empty range has no key
empty_none : (low high e : ℕ) → is_empty e ≡ true → clipped low high e ≡ 0
empty_none low high e h =
    let none : range_high e ≤ range_low e = leb-true (range_high e) (range_low e) h in
    omega (arith, lesser_still (range_high e) high (range_high e) (omega arith), larger_least (range_low e) low)

module _ (low high : ℕ) where
  spans_are : (ranges : List ℕ) → sum_by (spanned low high) ranges ≡ sum_by (clipped low high) ranges + 65536 * count is_empty ranges
  spans_are [] = refl
  spans_are (e ∷ es) = go (is_empty e) refl (spans_are es)
    where
      go : (b : Bool) → is_empty e ≡ b → sum_by (spanned low high) es ≡ sum_by (clipped low high) es + 65536 * count is_empty es
          → cond b 65536 (clipped low high e) + sum_by (spanned low high) es
          ≡ clipped low high e + sum_by (clipped low high) es + 65536 * (cond b 1 0 + count is_empty es)
      go true h ih = omega (arith, empty_none low high e h, ih)
      go false h ih = omega (arith, ih)

  module _ (ranges : List ℕ) (small : high < 65536) where
    -- Where the sum is as long as the range, no range is empty
    pub none_empty : sum_by (spanned low high) ranges ≡ high - low → count is_empty ranges ≡ 0
    none_empty e = omega (arith, spans_are ranges)

    both_tests : eqb (sum_by (spanned low high) ranges) (high - low) ≡ (eqb (count is_empty ranges) 0 && eqb (sum_by (clipped low high) ranges) (high - low))
    both_tests = go (eqb (count is_empty ranges) 0) refl
      where
        go : (b : Bool) → eqb (count is_empty ranges) 0 ≡ b
            → eqb (sum_by (spanned low high) ranges) (high - low) ≡ (b && eqb (sum_by (clipped low high) ranges) (high - low))
        go true h = ap (λ (n : ℕ). eqb n (high - low)) (omega (arith, spans_are ranges, eqb-true (count is_empty ranges) 0 h))
        go false h =
            ne_eqb (sum_by (spanned low high) ranges) (high - low) (λ e. eqb-false (count is_empty ranges) 0 h (none_empty e))

    -- The tile test with this sum
    pub tiles_by_spans : tiles low high ranges
        ≡ (eqb (sum_by (spanned low high) ranges) (high - low) && (ltb 0 (count (holds_key low) ranges) && every (stops_well low high ranges) ranges))
    unfolding tiles
    tiles_by_spans =
        regroup (eqb (count is_empty ranges) 0) (eqb (sum_by (clipped low high) ranges) (high - low))
        (ltb 0 (count (holds_key low) ranges) && every (stops_well low high ranges) ranges)
        ∙ ap (λ (b : Bool). b && (ltb 0 (count (holds_key low) ranges) && every (stops_well low high ranges) ranges)) (sym both_tests)
      where
        regroup : (a b c : Bool) → (a && (b && c)) ≡ ((a && b) && c)
        regroup true b c = refl
        regroup false b c = refl
