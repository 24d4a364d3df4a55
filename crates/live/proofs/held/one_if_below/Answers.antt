use Prim.Native.Nat.{ℕ, ◌+◌, ◌-◌, ◌/◌, ◌≤◌, ◌<◌}
use native.Mathlib.Omega.{arith}
use native.Mathlib.Decide.{dec_le}
use mathlib.Core.Path.{◌≡◌}
use mathlib.Core.Bool.{cond}
use lib.Dec.{ltb}
use borrow.Author.Tests.{lt-ltb, le-ltb}
use Rattle.ranges.specs.KeyRanges.{range_low}
use Rattle.live.proofs.held.one_if_below.Goals as goal

-- Of keys below 65,536 and a limit of at most that
below : (q low : ℕ) → q < 65536 → low ≤ 65536 → (65535 + low - q) / 65536 ≡ cond (ltb q low) 1 0
below q low h k = go (dec_le low q)
  where
    go : Dec (low ≤ q) → (65535 + low - q) / 65536 ≡ cond (ltb q low) 1 0
    go (yes p) = rw (le-ltb q low p) (omega arith)
    go (no p) = rw (lt-ltb q low (omega arith)) (omega arith)

pub returns : goal.returns
returns c =
    let a = c.args in
    rw c.range_low.ensures (below (range_low a.range) a.low (omega arith) (omega arith))
