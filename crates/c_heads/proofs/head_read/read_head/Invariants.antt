use mathlib.Core.Path.{◌≡◌}
use lib.ListN.{length, take}
use Rattle.store.specs.Head.{open_limit}
use Rattle.c_heads.specs.Heads.{field_numbers, passes_from}
use Rattle.c_heads.proofs.head_read.read_head.Given as goal

abbrev pub invariant-loop-place : goal.invariant-loop-place
invariant-loop-place l = (length l.pass-items ≡ open_limit) × (take l.place l.pass-items ≡ passes_from l.numbers field_numbers l.place)
