-- Command, operands and mask read as last written, over any list of accesses.
use Prim.Native.Nat.{ℕ, ◌<◌}
use native.Mathlib.Omega.{arith}
use mathlib.Core.Path.{◌≡◌, refl, ap, sym, ◌∙◌}
use mathlib.Core.Bool.{Bool, true, false, cond}
use mathlib.Core.Logic.{◌⊎◌, inl, inr}
use mathlib.Core.List.{List, [], ◌∷◌}
use lib.ListN.{length, get_or, set}
use lib.Seq.{get_or-set_same}
use lib.Dec.{eqb}
use borrow.Author.Tests.{eqb-true, eqb-false}
use Rattle.command.specs.Stream.{Ran, run_one}
use Rattle.command.proofs.AnswerLengths.{output_fits}
use Rattle.register_block.specs.Block.{Block, block_bytes, command_at, status_at, flags_at, mask_at, result_at, operands_of, clear_block, read_block, register_written}
use Rattle.register_block.specs.Access.{Device, reset_device, run_from_block, write_device, Access, reset, read, write, accessed_all}
use Rattle.register_block.proofs.WriteCases.{mask_written, operand_written}
use Rattle.register_block.proofs.BlockLengths.{cleared_length, write_length}
use Rattle.register_block.proofs.BlockBytes.{others_stay, command_shown, rest_stays}
use Rattle.register_block.proofs.ReadOffsets.{read_register, cleared_reads}

-- "command, operands and mask read as last written"
abbrev pub IsHeld : (offset : ℕ) → Type 0
IsHeld offset = (offset < status_at) ⊎ (offset ≡ mask_at)

-- What was last written to an offset, or what it was before
unfoldable pub last_written : (mask offset before : ℕ) → List Access → ℕ
last_written mask offset before [] = before
last_written mask offset before (reset ∷ more) = last_written mask offset (cond (eqb offset mask_at) mask 0) more
last_written mask offset before (read other ∷ more) = last_written mask offset before more
last_written mask offset before (write other value ∷ more) = last_written mask offset (cond (eqb other offset) value before) more

module _ (mask offset : ℕ) (held : IsHeld offset) where
  low : offset < result_at
  low = go held
    where
      go : IsHeld offset → offset < result_at
      go (inl h) = omega (arith, h)
      go (inr e) = omega (arith, e)

  no_status : offset ≡ status_at → ⊥
  no_status e = go held
    where
      go : IsHeld offset → ⊥
      go (inl h) = omega (arith, h, e)
      go (inr f) = omega (arith, e, f)

  no_flags : offset ≡ flags_at → ⊥
  no_flags e = go held
    where
      go : IsHeld offset → ⊥
      go (inl h) = omega (arith, h, e)
      go (inr f) = omega (arith, e, f)

  held_byte : (b : Block) → read_block b offset ≡ get_or b offset 0
  held_byte b = read_register b offset no_flags (omega (arith, low))

  own_byte : (b : Block) (value : ℕ) → length b ≡ block_bytes → (offset ≡ command_at → ⊥) → get_or (register_written b offset value) offset 0 ≡ value
  own_byte b value long n = go held
    where
      go : IsHeld offset → get_or (register_written b offset value) offset 0 ≡ value
      go (inl h) =
          ap (λ (x : Block). get_or x offset 0) (operand_written b offset value (omega (arith, n)) (omega (arith, h))) ∙ get_or-set_same b offset value 0 (omega (arith, long, low))
      go (inr e) =
          ap (λ (x : Block). get_or x offset 0) (mask_written b offset value e)
          ∙ ap (λ (i : ℕ). get_or (set b mask_at value) i 0) e
          ∙ get_or-set_same b mask_at value 0 (omega (arith, long))

  written_byte : (d : Device) (other value : ℕ) → length d.block ≡ block_bytes
      → get_or (write_device d other value).block offset 0 ≡ cond (eqb other offset) value (get_or d.block offset 0)
  written_byte d other value long = go (eqb other command_at) (eqb other offset) refl refl
    where
      r : Ran
      r = run_one d.store value (operands_of d.block)

      go : (x y : Bool) → eqb other command_at ≡ x → eqb other offset ≡ y
          → get_or (cond x (run_from_block d value) (record { store = d.store; block = register_written d.block other value })).block offset 0
          ≡ cond y value (get_or d.block offset 0)
      go true true e f =
          ap (λ (i : ℕ). get_or (run_from_block d value).block i 0) (sym (eqb-true other offset f) ∙ eqb-true other command_at e)
          ∙ command_shown d.block value _ _ r.output long (output_fits d.store value (operands_of d.block))
      go true false e f =
          rest_stays d.block value _ _ r.output long (output_fits d.store value (operands_of d.block)) offset low
          (λ is. eqb-false other offset f (eqb-true other command_at e ∙ sym is)) no_status no_flags
      go false true e f =
          ap (λ (i : ℕ). get_or (register_written d.block i value) offset 0) (eqb-true other offset f)
          ∙ own_byte d.block value long (λ is. eqb-false other command_at e (eqb-true other offset f ∙ is))
      go false false e f = others_stay d.block other value offset (λ is. eqb-false other offset f (sym is))

  after_reset : read_block (clear_block mask) offset ≡ cond (eqb offset mask_at) mask 0
  after_reset = go (eqb offset mask_at) refl
    where
      go : (x : Bool) → eqb offset mask_at ≡ x → read_block (clear_block mask) offset ≡ cond x mask 0
      go true e = ap (read_block (clear_block mask)) (eqb-true offset mask_at e)
      go false e = cleared_reads mask offset (eqb-false offset mask_at e)

  after_write : (d : Device) (other value : ℕ) → length d.block ≡ block_bytes
      → read_block (write_device d other value).block offset ≡ cond (eqb other offset) value (read_block d.block offset)
  after_write d other value long =
      held_byte (write_device d other value).block
      ∙ written_byte d other value long
      ∙ sym (ap (cond (eqb other offset) value) (held_byte d.block))

  pub read_as_last_written : (d : Device) → length d.block ≡ block_bytes → (accesses : List Access)
      → read_block (accessed_all mask d accesses).block offset ≡ last_written mask offset (read_block d.block offset) accesses
  unfolding last_written accessed_all
  read_as_last_written d long [] = refl
  read_as_last_written d long (reset ∷ more) =
      read_as_last_written (reset_device mask d) (cleared_length mask) more ∙ ap (λ (n : ℕ). last_written mask offset n more) after_reset
  read_as_last_written d long (read other ∷ more) = read_as_last_written d long more
  read_as_last_written d long (write other value ∷ more) =
      read_as_last_written (write_device d other value) (write_length d other value long) more
      ∙ ap (λ (n : ℕ). last_written mask offset n more) (after_write d other value long)
