-- The notes of the tile test: in every slot stands a key at which a range may stop.
use Prim.Native.Nat.{ℕ, zero, suc, ◌<◌}
use native.Mathlib.Omega.{arith}
use mathlib.Core.Path.{◌≡◌, refl}
use mathlib.Core.Bool.{Bool, true, false, ◌||◌}
use mathlib.Core.List.{List}
use lib.Dec.{eqb, ltb}
use lib.ListN.{length, get_or, replicate}
use borrow.Author.Tests.{leb-false, le-leb, lt-ltb, eq-eqb}
use Rattle.tree.proofs.Lists.{All, count_at}
use Rattle.words.specs.Sums.{count}
use Rattle.ranges.specs.KeyRanges.{range_low, range_high, holds_key}
use Rattle.tiles.specs.TileTest.{is_empty, may_stop}
use Rattle.tiles.proofs.TileLaws.{some_holder}

or_second : (a b : Bool) → b ≡ true → (a || b) ≡ true
or_second true b e = refl
or_second false b e = e

-- All slots of an array that has one such key
pub all_same : (P : ℕ → Type 0) (n x : ℕ) → P x → All P (replicate n x)
all_same P zero x p = tt
all_same P (suc n) x p = (p, all_same P n x p)

module _ (ranges : List ℕ) (at : ℕ) (inside : at < length ranges) (none : count is_empty ranges ≡ 0) where
  not_empty : is_empty (get_or ranges at 0) ≡ false
  not_empty = go (is_empty (get_or ranges at 0)) refl
    where
      go : (b : Bool) → is_empty (get_or ranges at 0) ≡ b → is_empty (get_or ranges at 0) ≡ false
      go true e = absurd (omega (arith, count_at is_empty ranges at 0 inside e, none))
      go false e = e

  own_low : holds_key (range_low (get_or ranges at 0)) (get_or ranges at 0) ≡ true
  own_low =
      let e = get_or ranges at 0 in
      rw (le-leb (range_low e) (range_low e) (omega arith), lt-ltb (range_low e) (range_high e) (leb-false (range_high e) (range_low e) not_empty))

  -- The low key of a range is held, since no range is empty
  pub low_may_stop : (high : ℕ) → may_stop high ranges (range_low (get_or ranges at 0)) ≡ true
  low_may_stop high =
      let q = range_low (get_or ranges at 0) in
      or_second (eqb q high) (ltb 0 (count (holds_key q) ranges)) (lt-ltb 0 (count (holds_key q) ranges) (some_holder q ranges at inside own_low))

module _ (high : ℕ) (ranges : List ℕ) where
  pub high_may_stop : may_stop high ranges high ≡ true
  high_may_stop = rw (eq-eqb high high refl)
