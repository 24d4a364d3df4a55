-- Refusals by name: the number that stands for each, and what a test that may refuse says in numbers.
use Rattle.std.specs.Prelude.{ℕ, Result, Ok, Err}
use Rattle.store.specs.declared.refusal.Refusal.{Refusal}
use Rattle.store.specs.declared.refusal.Refusal.TheVariants.{KeyTooHigh, NoBand, WeightBeyond, NoTick, NoTime, UnknownCommand, OperandsMissing, TooSmall, HeadMisfits}
use Rattle.store.specs.declared.refusal.Refusal.TheVariants.{BeforeLast, NotOpen, AllOpen, AllStarted, Spoiled, LacksPages, LacksRoot, NoBurst}

-- "each call ends with a result or a numbered refusal"
abbrev pub number_of : Refusal → ℕ
number_of KeyTooHigh = 1
number_of NoBand = 2
number_of WeightBeyond = 3
number_of NoTick = 4
number_of NoTime = 5
number_of UnknownCommand = 6
number_of OperandsMissing = 7
number_of TooSmall = 8
number_of HeadMisfits = 20
number_of BeforeLast = 21
number_of NotOpen = 22
number_of AllOpen = 24
number_of AllStarted = 25
number_of Spoiled = 26
number_of LacksPages = 27
number_of LacksRoot = 28
number_of NoBurst = 31

-- The number of a refusal, or 0
abbrev pub told : {A : Type 0} → Result A Refusal → ℕ
told (Ok done) = 0
told (Err refusal) = number_of refusal
