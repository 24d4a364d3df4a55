use Prim.Native.Nat.{◌-◌}
use mathlib.Core.Path.{◌≡◌}
use mathlib.Core.List.{◌++◌}
use lib.ListN.{take}
use Rattle.codec.specs.Bytes.{bytes_of}
use Rattle.codec.proofs.numbers.put_number.Given as goal

-- The bytes written so far, and those of what is left of the number
abbrev pub invariant-loop-byte : goal.invariant-loop-byte
invariant-loop-byte l = take l.byte-index l.byte-items ++ bytes_of (l.count - l.byte-index) l.rest ≡ bytes_of l.count l.number
