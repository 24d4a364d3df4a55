-- The lesser of two numbers.
use Prim.Native.Nat.{ℕ, ◌≤◌, min}
use native.Mathlib.Omega.{arith}
use mathlib.Core.Path.{◌≡◌, refl, sym, ◌∙◌}
use mathlib.Core.Bool.{Bool, true, false, cond}
use lib.Dec.{ltb}
use borrow.Author.Tests.{ltb-true, ltb-false, le-ltb}
use Rattle.ranges.specs.KeyRanges.{lesser}

pub min_is_lesser : (a b : ℕ) → min a b ≡ lesser a b
min_is_lesser a b = go (ltb a b) refl
  where
    go : (c : Bool) → ltb a b ≡ c → min a b ≡ cond c a b
    go true e = omega (arith, ltb-true a b e)
    go false e = omega (arith, ltb-false a b e)

pub lesser_first : (a b : ℕ) → a ≤ b → lesser a b ≡ a
lesser_first a b h = go (ltb a b) refl
  where
    go : (c : Bool) → ltb a b ≡ c → cond c a b ≡ a
    go true e = refl
    go false e = omega (arith, ltb-false a b e)

pub lesser_second : (a b : ℕ) → b ≤ a → lesser a b ≡ b
lesser_second a b h = simp (le-ltb a b h)

-- It is at most what either of the two is at most
pub lesser_most : (a b n : ℕ) → b ≤ n → lesser a b ≤ n
lesser_most a b n h = go (ltb a b) refl
  where
    go : (c : Bool) → ltb a b ≡ c → cond c a b ≤ n
    go true e = omega (arith, ltb-true a b e)
    go false e = h

pub lesser_still : (a b n : ℕ) → a ≤ n → lesser a b ≤ n
lesser_still a b n h = go (ltb a b) refl
  where
    go : (c : Bool) → ltb a b ≡ c → cond c a b ≤ n
    go true e = h
    go false e = omega (arith, ltb-false a b e)

pub lesser_assoc : (a b c : ℕ) → lesser (lesser a b) c ≡ lesser a (lesser b c)
lesser_assoc a b c = go (ltb a b) (ltb b c) refl refl
  where
    go : (x y : Bool) → ltb a b ≡ x → ltb b c ≡ y → lesser (cond x a b) c ≡ lesser a (cond y b c)
    go true true e f =
        lesser_first a c (omega (arith, ltb-true a b e, ltb-true b c f)) ∙ sym (lesser_first a b (omega (arith, ltb-true a b e)))
    go true false e f = refl
    go false true e f = lesser_first b c (omega (arith, ltb-true b c f)) ∙ sym (lesser_second a b (ltb-false a b e))
    go false false e f =
        lesser_second b c (ltb-false b c f) ∙ sym (lesser_second a c (omega (arith, ltb-false a b e, ltb-false b c f)))
