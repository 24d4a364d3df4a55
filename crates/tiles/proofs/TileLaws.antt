-- The parts of the tile test on key ranges, one law for each way through the code.
use Prim.Native.Nat.{ℕ, ◌+◌, ◌≤◌, ◌<◌}
use mathlib.Core.Path.{◌≡◌}
use mathlib.Core.Bool.{Bool, true, false}
use mathlib.Core.List.{List}
use lib.ListN.{length, get_or, drop}
use Rattle.words.specs.Sums.{count}
use Rattle.ranges.specs.KeyRanges.{holds_key}
use Rattle.tiles.specs.TileTest.{every}
use Rattle.tree.proofs.Lists.{count_at}
use Rattle.words.proofs.LoopLaws.{drop_here, drop_none}

-- A range that holds a key is counted
pub some_holder : (q : ℕ) (ranges : List ℕ) (at : ℕ) → at < length ranges → holds_key q (get_or ranges at 0) ≡ true → 0 < count (holds_key q) ranges
some_holder q ranges at h e = count_at (holds_key q) ranges at 0 h e

module _ (test : ℕ → Bool) (l : List ℕ) (at : ℕ) where
  pub every_on : at < length l → test (get_or l at 0) ≡ true → every test (drop at l) ≡ every test (drop (at + 1) l)
  unfolding every
  every_on h e = rw (drop_here l at h, e)

  pub every_stop : at < length l → test (get_or l at 0) ≡ false → every test (drop at l) ≡ false
  unfolding every
  every_stop h e = rw (drop_here l at h, e)

  pub every_none : length l ≤ at → every test (drop at l) ≡ true
  unfolding every
  every_none h = rw (drop_none l at h)
