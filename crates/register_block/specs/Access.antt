-- Accesses of the radio side to the block of a store.
use Rattle.std.specs.Prelude.{ℕ, List, [], ◌∷◌, cond, eqb}
use Rattle.store.specs.Trees.{Store}
use Rattle.command.specs.Stream.{Ran, run_one}
use Rattle.register_block.specs.Block.{Block, command_at, operands_of, clear_block, register_written, showing}

-- A store and its block
pub record Device : Type 0 where
  pub store : Store
  pub block : Block

-- "Reset clears the block, mask 0.": the store stays. The mask is a parameter
abbrev pub reset_device : (mask : ℕ) → Device → Device
reset_device mask d = record { store = d.store; block = clear_block mask }

-- A command that ran: "64 open after the command"
abbrev pub shown : Device → (command : ℕ) → Ran → Device
shown d command r = record { store = r.store; block = showing d.block command r.output r.store.head.count }

-- "Writing byte 0 runs the command on the operands as in the stream.", "A command through the block leaves the store that the stream would."
abbrev pub run_from_block : Device → (command : ℕ) → Device
run_from_block d command = shown d command (run_one d.store command (operands_of d.block))

abbrev pub write_device : Device → (offset value : ℕ) → Device
write_device d offset value =
    cond (eqb offset command_at) (run_from_block d value) (record { store = d.store; block = register_written d.block offset value })

-- One access; a read changes nothing
pub data Access : Type 0 where
  reset : Access
  read : (offset : ℕ) → Access
  write : (offset value : ℕ) → Access

abbrev pub accessed : (mask : ℕ) → Device → Access → Device
accessed mask d reset = reset_device mask d
accessed mask d (read offset) = d
accessed mask d (write offset value) = write_device d offset value

-- Any number of them, one after the other
unfoldable pub accessed_all : (mask : ℕ) → Device → List Access → Device
accessed_all mask d [] = d
accessed_all mask d (a ∷ more) = accessed_all mask (accessed mask d a) more
