-- No refusal has the number 0, which says that there is none.
use mathlib.Core.Path.{◌≡◌}
use native.Mathlib.Omega.{arith}
use Rattle.store.specs.declared.refusal.Refusal.{Refusal}
use Rattle.store.specs.declared.refusal.Refusal.TheVariants.{KeyTooHigh, NoBand, WeightBeyond, NoTick, NoTime, UnknownCommand, OperandsMissing, TooSmall, HeadMisfits}
use Rattle.store.specs.declared.refusal.Refusal.TheVariants.{BeforeLast, NotOpen, AllOpen, AllStarted, Spoiled, LacksPages, LacksRoot, NoBurst}
use Rattle.store.specs.Refused.{number_of}

pub numbered : (r : Refusal) → number_of r ≡ 0 → ⊥
numbered KeyTooHigh e = omega arith
numbered NoBand e = omega arith
numbered WeightBeyond e = omega arith
numbered NoTick e = omega arith
numbered NoTime e = omega arith
numbered UnknownCommand e = omega arith
numbered OperandsMissing e = omega arith
numbered TooSmall e = omega arith
numbered HeadMisfits e = omega arith
numbered BeforeLast e = omega arith
numbered NotOpen e = omega arith
numbered AllOpen e = omega arith
numbered AllStarted e = omega arith
numbered Spoiled e = omega arith
numbered LacksPages e = omega arith
numbered LacksRoot e = omega arith
numbered NoBurst e = omega arith
