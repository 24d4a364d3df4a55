-- What an exported write to the register block leaves.
use Rattle.std.specs.Prelude.{ℕ, ◌≡◌}
use Rattle.register_block.specs.Block.{Block, command_at}
use Rattle.register_block.specs.Access.{Device, write_device}
use Rattle.firmware.specs.Exported.{Handed, store_in, handed_back}

-- The store that is handed over, and its block
abbrev pub device_in : Handed → Block → Device
device_in h block = record { store = store_in h; block = block }

-- Every byte of the block, and after a command the store in its places. A write of another register leaves head and slices as they were
pub record LeavesWrite (before : Handed) (block : Block) (offset value : ℕ) (after : Handed) (block' : Block) : Type 0 where
  pub block_is : block' ≡ (write_device (device_in before block) offset value).block
  pub left : offset ≡ command_at → after ≡ handed_back (write_device (device_in before block) offset value).store
  pub kept : (offset ≡ command_at → ⊥) → after ≡ before
