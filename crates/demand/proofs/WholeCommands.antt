-- A command that has all its operand bytes is answered as the call that they spell.
use Prim.Native.Nat.{ℕ, ◌≤◌}
use mathlib.Core.Path.{◌≡◌, refl}
use mathlib.Core.List.{List}
use lib.ListN.{length}
use Rattle.store.specs.Trees.{Store}
use Rattle.command.specs.Stream.{Kind, unknown, command, operand_bytes, answered}
use Rattle.command.proofs.KindLaws.{whole}
use Rattle.demand.specs.Bursts.{asked_by, answer_to}

pub whole_command : (s : Store) (operands : List ℕ) (kind : Kind) → operand_bytes kind ≤ length operands
    → answered s operands kind ≡ answer_to s (asked_by kind operands)
whole_command s operands unknown h = refl
whole_command s operands (command n call) h = whole s operands n call h
