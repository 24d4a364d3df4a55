-- Where one range holds a key, the sum of the holders' numbers tells which, and that range is the nearest.
use Prim.Native.Nat.{ℕ, suc, ◌+◌, ◌*◌, ◌/◌, ◌%◌, ◌≤◌, ◌<◌}
use native.Mathlib.Omega.{arith}
use native.Mathlib.Decide.{dec_le}
use native.Mathlib.Numerals.{add-one}
use mathlib.Core.Path.{◌≡◌, refl, ap}
use mathlib.Core.Bool.{Bool, true, false, cond}
use mathlib.Core.List.{List, [], ◌∷◌}
use lib.ListN.{length, get_or, drop}
use borrow.Author.Tests.{le-leb, lt-leb, lt-ltb, le-ltb}
use Rattle.tree.specs.Row.{row_limit}
use Rattle.std.specs.declared.option.Option.TheVariants.{Some}
use Rattle.ranges.specs.KeyRanges.{range_low, range_high, lesser, holds_key}
use Rattle.ranges.specs.Nearest.{no_range, fits, candidate, least, place_at, holder, holder_sum}
use Rattle.words.proofs.LoopLaws.{drop_here, drop_none}
use Rattle.ranges.proofs.LesserLaws.{lesser_first, lesser_second}
use Rattle.ranges.proofs.NearestLaws.{least_most}

module _ (key : ℕ) where
  -- A range that holds the key starts below key + 1, and does not stop below it
  fits_holds : (e : ℕ) → fits 0 (key + 1) (key + 1) e ≡ holds_key key e
  fits_holds e = go (dec_le (range_low e) key) (dec_le (key + 1) (range_high e))
    where
      go : Dec (range_low e ≤ key) → Dec (key + 1 ≤ range_high e) → fits 0 (key + 1) (key + 1) e ≡ holds_key key e
      go (yes p) (yes q) =
          rw (le-leb 0 (range_low e) (omega arith), lt-ltb (range_low e) (key + 1) (omega arith), le-leb (key + 1) (range_high e) q, le-leb (range_low e) key p, lt-ltb key (range_high e) (omega arith))
      go (yes p) (no q) =
          rw (le-leb 0 (range_low e) (omega arith), lt-ltb (range_low e) (key + 1) (omega arith), lt-leb (key + 1) (range_high e) (omega arith), le-leb (range_low e) key p, le-ltb key (range_high e) (omega arith))
      go (no p) q = rw (le-leb 0 (range_low e) (omega arith), le-ltb (range_low e) (key + 1) (omega arith), lt-leb (range_low e) key (omega arith))

  abbrev nearest : ℕ → List ℕ → ℕ
  nearest at es = least 0 (key + 1) (key + 1) at es

  -- What is below 256 is nothing
  sum_none : (at : ℕ) (es : List ℕ) → holder_sum key at es < 256 → (holder_sum key at es ≡ 0) × (nearest at es ≡ no_range)
  unfolding holder_sum least
  sum_none at [] h = (refl, refl)
  sum_none at (e ∷ es) h = go (holds_key key e) (fits_holds e) h (λ p. sum_none (suc at) es p)
    where
      go : (b : Bool) → fits 0 (key + 1) (key + 1) e ≡ b → cond b (256 + at) 0 + holder_sum key (suc at) es < 256
          → (holder_sum key (suc at) es < 256 → (holder_sum key (suc at) es ≡ 0) × (nearest (suc at) es ≡ no_range))
          → (cond b (256 + at) 0 + holder_sum key (suc at) es ≡ 0) × (lesser (candidate 0 (key + 1) (key + 1) at e) (nearest (suc at) es) ≡ no_range)
      go true f p ih = absurd (omega arith)
      go false f p ih =
          let below = ih (omega arith) in
          (omega (arith, below.0), rw (f, below.1))

  -- One range: its position is what is above 256
  pub one_holder : (at : ℕ) (es : List ℕ) → at + length es ≤ 256 → 256 ≤ holder_sum key at es → holder_sum key at es < 512
      → (nearest at es < no_range) × (nearest at es % 256 ≡ holder_sum key at es % 256) × (holder_sum key at es % 256 < at + length es)
  unfolding holder_sum least
  one_holder at [] small some few = absurd (omega arith)
  one_holder at (e ∷ es) small some few =
      go (holds_key key e) (fits_holds e) some few (λ p q. one_holder (suc at) es (omega arith) p q)
    where
      rest : ℕ
      rest = holder_sum key (suc at) es

      go : (b : Bool) → fits 0 (key + 1) (key + 1) e ≡ b → 256 ≤ cond b (256 + at) 0 + rest → cond b (256 + at) 0 + rest < 512
          → (256 ≤ rest → rest < 512 → (nearest (suc at) es < no_range) × (nearest (suc at) es % 256 ≡ rest % 256) × (rest % 256 < suc at + length es))
          → (lesser (candidate 0 (key + 1) (key + 1) at e) (nearest (suc at) es) < no_range)
          × (lesser (candidate 0 (key + 1) (key + 1) at e) (nearest (suc at) es) % 256 ≡ (cond b (256 + at) 0 + rest) % 256)
          × ((cond b (256 + at) 0 + rest) % 256 < at + suc (length es))
      go true f p q deeper =
          let none = sum_none (suc at) es (omega arith) in
          let is : lesser (candidate 0 (key + 1) (key + 1) at e) (nearest (suc at) es) ≡ 256 * range_low e + at =
          rw (f, none.1) (lesser_first (256 * range_low e + at) no_range (omega arith)) in
          (omega (arith, is), omega (arith, is, none.0), omega (arith, none.0))
      go false f p q deeper =
          let ih = deeper (omega arith) (omega arith) in
          let is : lesser (candidate 0 (key + 1) (key + 1) at e) (nearest (suc at) es) ≡ nearest (suc at) es =
          rw f (lesser_second no_range (nearest (suc at) es) (least_most 0 (key + 1) (key + 1) (suc at) es)) in
          (omega (arith, is, ih.0), omega (arith, is, ih.1), omega (arith, ih.2))

  -- the loop, in its own terms
  module _ (l : List ℕ) (at : ℕ) where
    pub holders_on : (sum total : ℕ) → at < length l → sum + holder_sum key at (drop at l) ≡ total
        → sum + holder key at (get_or l at 0) + holder_sum key (at + 1) (drop (at + 1) l) ≡ total
    unfolding holder_sum
    holders_on sum total h e =
        let next : holder_sum key at (drop at l) ≡ holder key at (get_or l at 0) + holder_sum key (suc at) (drop (at + 1) l) =
        ap (holder_sum key at) (drop_here l at h) in
        let same : holder_sum key (at + 1) (drop (at + 1) l) ≡ holder_sum key (suc at) (drop (at + 1) l) =
        ap (λ (n : ℕ). holder_sum key n (drop (at + 1) l)) (add-one at) in
        omega (arith, next, same)

    pub holders_done : (sum total : ℕ) → length l ≤ at → sum + holder_sum key at (drop at l) ≡ total → sum ≡ total
    unfolding holder_sum
    holders_done sum total h e =
        let none : holder_sum key at (drop at l) ≡ 0 = ap (holder_sum key at) (drop_none l at h) in
        omega (arith, none)

pub holder_small : (key at e : ℕ) → at < row_limit → holder key at e ≤ 512
holder_small key at e h = go (holds_key key e)
  where
    go : (b : Bool) → cond b (256 + at) 0 ≤ 512
    go true = omega arith
    go false = omega arith

-- The place that the sum tells
pub holder_place : (key : ℕ) (ranges places : List ℕ) → length ranges ≤ 256 → holder_sum key 0 ranges / 256 ≡ 1
    → place_at places (least 0 (key + 1) (key + 1) 0 ranges) ≡ Some (get_or places (holder_sum key 0 ranges % 256) 0)
holder_place key ranges places small is =
    let found = one_holder key 0 ranges (omega arith) (omega arith) (omega arith) in
    rw (lt-leb no_range (least 0 (key + 1) (key + 1) 0 ranges) found.0) (ap (λ (n : ℕ). Some (get_or places n 0)) found.1)
