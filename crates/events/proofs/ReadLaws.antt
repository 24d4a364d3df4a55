-- An event with its operands: the call that its bytes spell is the command's.
use Prim.Native.Nat.{ℕ, ◌≤◌}
use mathlib.Core.Path.{◌≡◌, sym, ◌∙◌}
use mathlib.Core.List.{List}
use lib.ListN.{length}
use Rattle.store.specs.Trees.{Store}
use Rattle.store.specs.Calls.{start, end}
use Rattle.store.specs.Performing.{perform}
use Rattle.codec.specs.Bytes.{operand}
use Rattle.command.specs.Stream.{command, start_command, end_command, answered}
use Rattle.command.proofs.KindLaws.{whole}

module _ (s : Store) (bytes : List ℕ) where
  pub start_read : 8 ≤ length bytes → {tick key weight : ℕ} → tick ≡ operand bytes 0 4 → key ≡ operand bytes 4 2 → weight ≡ operand bytes 6 2
      → perform s (start tick key weight) ≡ answered s bytes (command 8 start_command)
  start_read h t k w = (λ i. perform s (start (t i) (k i) (w i))) ∙ sym (whole s bytes 8 start_command h)

  pub end_read : 8 ≤ length bytes → {tick number : ℕ} → tick ≡ operand bytes 0 4 → number ≡ operand bytes 4 4
      → perform s (end tick number) ≡ answered s bytes (command 8 end_command)
  end_read h t n = (λ i. perform s (end (t i) (n i))) ∙ sym (whole s bytes 8 end_command h)
