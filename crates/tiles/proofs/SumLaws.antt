-- A test as a number.
use Prim.Native.Nat.{ℕ, ◌≤◌}
use native.Mathlib.Omega.{arith}
use mathlib.Core.Path.{◌≡◌, refl}
use mathlib.Core.Bool.{Bool, true, false, cond}
use mir.Val.{bool_byte}
use lib.Dec.{eqb}

-- A test as a number
pub test_number : (b : Bool) → bool_byte b ≡ cond b 1 0
test_number true = refl
test_number false = refl

-- What is added where a test passes is 1 at most
pub one_small : (b : Bool) (n : ℕ) → n ≡ cond b 1 0 → n ≤ 1
one_small true n e = omega arith
one_small false n e = omega arith

-- What is 1 where a test passes, else 0, is 1 just where it passes
pub one_is_one : (b : Bool) → eqb (cond b 1 0) 1 ≡ b
one_is_one true = refl
one_is_one false = refl
