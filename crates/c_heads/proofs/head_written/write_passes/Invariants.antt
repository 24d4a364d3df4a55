use mathlib.Core.Path.{◌≡◌}
use lib.ListN.{take}
use Rattle.words.specs.Overwrite.{overwrite}
use Rattle.c_heads.specs.Heads.{field_numbers, numbers_of_passes}
use Rattle.c_heads.proofs.head_written.write_passes.Given as goal

abbrev pub invariant-loop-place : goal.invariant-loop-place
invariant-loop-place l = l.numbers ≡ overwrite l.initial.numbers field_numbers (numbers_of_passes (take l.place l.pass-items))
