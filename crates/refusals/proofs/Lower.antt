-- The lower of two refusals, one law for each way through its tests.
use Prim.Native.Nat.{ℕ, zero, suc, ◌≤◌, ◌<◌}
use native.Mathlib.Omega.{arith}
use mathlib.Core.Path.{◌≡◌, refl, sym}
use mathlib.Core.Bool.{Bool, true, false, cond}
use lib.Dec.{ltb}
use borrow.Author.Tests.{lt-ltb, le-ltb}
use Rattle.refusals.specs.Grounds.{lower_of}

pub no_first : {one other : ℕ} → one ≡ 0 → other ≡ lower_of one other
no_first e = rw e refl

pub no_second : (one : ℕ) {other : ℕ} → other ≡ 0 → one ≡ lower_of one other
no_second zero e = sym e
no_second (suc n) e = rw e refl

pub second_lower : (one other : ℕ) → (other ≡ 0 → ⊥) → other < one → other ≡ lower_of one other
second_lower zero other some h = absurd (omega arith)
second_lower (suc n) zero some h = absurd (some refl)
second_lower (suc n) (suc m) some h = rw (lt-ltb m n (omega (arith, h))) refl

pub first_lower : (one other : ℕ) → (one ≡ 0 → ⊥) → (other ≡ 0 → ⊥) → one ≤ other → one ≡ lower_of one other
first_lower zero other some also h = absurd (some refl)
first_lower (suc n) zero some also h = absurd (also refl)
first_lower (suc n) (suc m) some also h = rw (le-ltb m n (omega (arith, h))) refl

-- Where it is none, neither is one
pub none_lower : (one other : ℕ) → lower_of one other ≡ 0 → (one ≡ 0) × (other ≡ 0)
none_lower zero other e = (refl, e)
none_lower (suc n) zero e = absurd (omega arith)
none_lower (suc n) (suc m) e = go (ltb m n) e
  where
    go : (b : Bool) → cond b (suc m) (suc n) ≡ 0 → (suc n ≡ 0) × (suc m ≡ 0)
    go true f = absurd (omega arith)
    go false f = absurd (omega arith)
