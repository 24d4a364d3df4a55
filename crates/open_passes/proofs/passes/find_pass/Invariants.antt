use mathlib.Core.Path.{◌≡◌}
use lib.ListN.{drop}
use Rattle.store.specs.Head.{find_pass, pass_of}
use Rattle.open_passes.proofs.passes.find_pass.Given as goal

abbrev pub invariant-loop-place : goal.invariant-loop-place
invariant-loop-place l = find_pass l.number l.place (drop l.place l.pass-items) ≡ pass_of l.fn.head l.number
