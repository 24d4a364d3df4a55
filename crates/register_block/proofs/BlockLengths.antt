-- A block stays 40 bytes long, whatever is written to it.
use Prim.Native.Nat.{ℕ, ◌+◌, ◌-◌, ◌≤◌}
use native.Mathlib.Omega.{arith}
use mathlib.Core.Path.{◌≡◌, refl, ◌∙◌}
use mathlib.Core.Bool.{Bool, true, false, cond}
use mathlib.Core.List.{List}
use lib.ListN.{length, set, drop, replicate, length-append, length-drop, length-set, length-replicate}
use lib.Dec.{eqb}
use Rattle.words.specs.Overwrite.{overwrite}
use Rattle.words.proofs.OverwriteLaws.{overwrite_length}
use Rattle.command.specs.Stream.{longest_answer, run_one}
use Rattle.command.proofs.AnswerLengths.{output_fits}
use Rattle.register_block.specs.Block.{Block, block_bytes, command_at, status_at, flags_at, mask_at, result_at, result_count, flags_in, flag_byte, flags_of, flags_cleared, clear_block, is_operand, register_written, operands_of, result_shown, marked}
use Rattle.register_block.specs.Access.{Device, run_from_block, write_device, Access, reset, read, write, accessed}

pub cleared_length : (mask : ℕ) → length (clear_block mask) ≡ block_bytes
cleared_length mask = length-set (replicate block_bytes 0) mask_at mask ∙ length-replicate {A = ℕ} block_bytes 0

pub written_length : (b : Block) (offset value : ℕ) → length (register_written b offset value) ≡ length b
written_length b offset value = go (eqb offset flags_at) (eqb offset mask_at) (is_operand offset)
  where
    ones : ℕ
    ones = flag_byte (flags_cleared (flags_of b) (flags_in value))

    go : (x y z : Bool) → length (cond x (set b flags_at ones) (cond y (set b mask_at value) (cond z (set b offset value) b))) ≡ length b
    go true y z = length-set b flags_at ones
    go false true z = length-set b mask_at value
    go false false true = length-set b offset value
    go false false false = refl

pub result_length : (output : List ℕ) → length output ≤ longest_answer → length (result_shown output) ≡ result_count
result_length output h =
    length-append (drop 1 output) (replicate (result_count - length (drop 1 output)) 0)
    ∙ omega (arith, length-drop 1 output, length-replicate {A = ℕ} (result_count - length (drop 1 output)) 0)

pub marked_length : (b : Block) (command status flags : ℕ) → length (marked b command status flags) ≡ length b
unfolding marked
marked_length b command status flags =
    length-set (set (set b command_at command) status_at status) flags_at flags ∙ length-set (set b command_at command) status_at status ∙ length-set b command_at command

-- A result has its place behind whatever command, status and flags
module _ (b : Block) (command status flags : ℕ) (output : List ℕ) (long : length b ≡ block_bytes) (short : length output ≤ longest_answer) where
  pub result_fits : result_at + length (result_shown output) ≤ length (marked b command status flags)
  result_fits = omega (arith, result_length output short, marked_length b command status flags, long)

  pub shown_length : length (overwrite (marked b command status flags) result_at (result_shown output)) ≡ block_bytes
  shown_length = overwrite_length (marked b command status flags) result_at (result_shown output) result_fits ∙ marked_length b command status flags ∙ long

pub run_length : (d : Device) (command : ℕ) → length d.block ≡ block_bytes → length (run_from_block d command).block ≡ block_bytes
run_length d command long =
    shown_length d.block command _ _ (run_one d.store command (operands_of d.block)).output long (output_fits d.store command (operands_of d.block))

pub write_length : (d : Device) (offset value : ℕ) → length d.block ≡ block_bytes → length (write_device d offset value).block ≡ block_bytes
write_length d offset value long = go (eqb offset command_at)
  where
    go : (x : Bool) → length (cond x (run_from_block d value) (record { store = d.store; block = register_written d.block offset value })).block ≡ block_bytes
    go true = run_length d value long
    go false = written_length d.block offset value ∙ long

pub accessed_length : (mask : ℕ) (d : Device) (a : Access) → length d.block ≡ block_bytes → length (accessed mask d a).block ≡ block_bytes
accessed_length mask d reset long = cleared_length mask
accessed_length mask d (read offset) long = long
accessed_length mask d (write offset value) long = write_length d offset value long
