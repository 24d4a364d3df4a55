-- A write that runs no command, by where it goes.
use Prim.Native.Nat.{ℕ, ◌≤◌, ◌<◌}
use native.Mathlib.Omega.{arith}
use mathlib.Core.Path.{◌≡◌, refl, ap, ap₂, ◌∙◌}
use mathlib.Core.Bool.{Bool, true, false, cond, ◌&&◌}
use mathlib.Core.Logic.{◌⊎◌, inl, inr}
use lib.ListN.{set}
use lib.Dec.{eqb, ltb}
use borrow.Author.Tests.{eq-eqb, ne_eqb, lt-ltb, le-ltb}
use Rattle.register_block.specs.Block.{Block, command_at, operands_end, flags_at, mask_at, flags_in, flag_byte, flags_of, flags_cleared, is_operand, register_written}

module _ (b : Block) (offset value : ℕ) where
  abbrev tested : (flags mask operand : Bool) → Block
  tested f m o = cond f (set b flags_at (flag_byte (flags_cleared (flags_of b) (flags_in value)))) (cond m (set b mask_at value) (cond o (set b offset value) b))

  pub flags_written : offset ≡ flags_at → register_written b offset value ≡ set b flags_at (flag_byte (flags_cleared (flags_of b) (flags_in value)))
  flags_written e = ap (λ (f : Bool). tested f (eqb offset mask_at) (is_operand offset)) (eq-eqb offset flags_at e)

  not_flags : (offset ≡ flags_at → ⊥) → register_written b offset value ≡ tested false (eqb offset mask_at) (is_operand offset)
  not_flags n = ap (λ (f : Bool). tested f (eqb offset mask_at) (is_operand offset)) (ne_eqb offset flags_at n)

  pub mask_written : offset ≡ mask_at → register_written b offset value ≡ set b mask_at value
  mask_written e = not_flags (λ f. omega (arith, e, f)) ∙ ap (λ (m : Bool). tested false m (is_operand offset)) (eq-eqb offset mask_at e)

  neither : (offset ≡ flags_at → ⊥) → (offset ≡ mask_at → ⊥) → register_written b offset value ≡ tested false false (is_operand offset)
  neither n m = not_flags n ∙ ap (λ (x : Bool). tested false x (is_operand offset)) (ne_eqb offset mask_at m)

  pub operand_written : command_at < offset → offset < operands_end → register_written b offset value ≡ set b offset value
  operand_written low high =
      neither (λ e. omega (arith, e, high)) (λ e. omega (arith, e, high))
      ∙ ap₂ (λ (x y : Bool). tested false false (x && y)) (lt-ltb command_at offset low) (lt-ltb offset operands_end high)

  pub not_written : (offset ≡ flags_at → ⊥) → (offset ≡ mask_at → ⊥) → (offset ≤ command_at) ⊎ (operands_end ≤ offset) → register_written b offset value ≡ b
  not_written n m outside = neither n m ∙ ap (tested false false) (no_operand outside)
    where
      and-false : (x : Bool) → x && false ≡ false
      and-false true = refl
      and-false false = refl

      no_operand : (offset ≤ command_at) ⊎ (operands_end ≤ offset) → is_operand offset ≡ false
      no_operand (inl low) = ap (λ (x : Bool). x && ltb offset operands_end) (le-ltb command_at offset low)
      no_operand (inr high) = ap (◌&&◌ (ltb command_at offset)) (le-ltb offset operands_end high) ∙ and-false (ltb command_at offset)
