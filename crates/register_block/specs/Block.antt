-- The register block: "The radio side sees 40 bytes: 0 command, 1 to 12 operands, 13 status, 14 flags, 15 mask, 16 to 32 result."
use Rattle.std.specs.Prelude.{ℕ, ◌+◌, ◌-◌, ◌/◌, ◌%◌, List, ◌++◌, Bool, true, cond, not, ◌&&◌, ◌||◌, length, get_or, set, take, drop, replicate, eqb, ltb}
use Rattle.words.specs.Overwrite.{overwrite}
use Rattle.store.specs.Head.{open_limit}
use Rattle.register_block.specs.declared.flags.Flags.{Flags}

-- Any 40 bytes are a block
abbrev pub Block : Type 0
Block = List ℕ

abbrev pub block_bytes : ℕ
block_bytes = 40

abbrev pub command_at : ℕ
command_at = 0

abbrev pub operands_at : ℕ
operands_at = 1

abbrev pub operand_count : ℕ
operand_count = 12

abbrev pub status_at : ℕ
status_at = 13

abbrev pub flags_at : ℕ
flags_at = 14

abbrev pub mask_at : ℕ
mask_at = 15

abbrev pub result_at : ℕ
result_at = 16

abbrev pub result_count : ℕ
result_count = 17

-- Behind the last operand, and behind the last register
abbrev pub operands_end : ℕ
operands_end = 13

abbrev pub registers_end : ℕ
registers_end = 33

abbrev pub operands_of : Block → List ℕ
operands_of b = take operand_count (drop operands_at b)

-- "Flag bit 0 is done, set by refused commands too, bit 1 refused, bit 2 64 open after the command": a byte has the bit of a value, which is 1, 2 or 4
abbrev pub has_bit : (value byte : ℕ) → Bool
has_bit value byte = eqb (byte / value % 2) 1

-- A byte's three bits; the others mean nothing
abbrev pub flags_in : (byte : ℕ) → Flags
flags_in byte = record { done = has_bit 1 byte; refused = has_bit 2 byte; full = has_bit 4 byte }

abbrev pub flag_byte : Flags → ℕ
flag_byte f = cond f.done 1 0 + cond f.refused 2 0 + cond f.full 4 0

abbrev pub flags_of : Block → Flags
flags_of b = flags_in (get_or b flags_at 0)

-- "Reset clears the block, mask 0."
abbrev pub clear_block : (mask : ℕ) → Block
clear_block mask = set (replicate block_bytes 0) mask_at mask

abbrev pub reset_mask : ℕ
reset_mask = 0

-- "command, operands and mask read as last written; other offsets read zero": status, flags and result read as the last command left them
abbrev pub read_block : Block → (offset : ℕ) → ℕ
read_block b offset = cond (eqb offset flags_at) (flag_byte (flags_of b)) (cond (ltb offset registers_end) (get_or b offset 0) 0)

-- "The interrupt line is high exactly if a flag and its mask bit are both set."
abbrev pub any_of_both : (flags mask : Flags) → Bool
any_of_both f m = (f.done && m.done) || ((f.refused && m.refused) || (f.full && m.full))

abbrev pub line_high : Block → Bool
line_high b = any_of_both (flags_of b) (flags_in (get_or b mask_at 0))

-- "Writing ones to 14 clears those flags."
abbrev pub flags_cleared : (flags ones : Flags) → Flags
flags_cleared f ones =
    record { done = f.done && not ones.done; refused = f.refused && not ones.refused; full = f.full && not ones.full }

-- A write that runs no command. "Status and result can't be written"; "other offsets read zero and ignore writes"
abbrev pub is_operand : (offset : ℕ) → Bool
is_operand offset = ltb command_at offset && ltb offset operands_end

abbrev pub register_written : Block → (offset value : ℕ) → Block
register_written b offset value =
    cond (eqb offset flags_at) (set b flags_at (flag_byte (flags_cleared (flags_of b) (flags_in value))))
    (cond (eqb offset mask_at) (set b mask_at value)
    (cond (is_operand offset) (set b offset value) b))

-- "Status is the first output byte and the result what follows, zero filled."
abbrev pub status_shown : (output : List ℕ) → ℕ
status_shown output = get_or output 0 0

abbrev pub zero_filled : (count : ℕ) → List ℕ → List ℕ
zero_filled count bytes = bytes ++ replicate (count - length bytes) 0

abbrev pub result_shown : (output : List ℕ) → List ℕ
result_shown output = zero_filled result_count (drop 1 output)

-- "each command sets all three anew"
abbrev pub flags_shown : (status open_count : ℕ) → Flags
flags_shown status open_count = record { done = true; refused = not (eqb status 0); full = eqb open_count open_limit }

-- The block with a command, its status and its flags
unfoldable pub marked : Block → (command status flags : ℕ) → Block
marked b command status flags = set (set (set b command_at command) status_at status) flags_at flags

-- The block after a command with this output, and so many passes open behind it
abbrev pub showing : Block → (command : ℕ) (output : List ℕ) (open_count : ℕ) → Block
showing b command output open_count =
    overwrite (marked b command (status_shown output) (flag_byte (flags_shown (status_shown output) open_count))) result_at (result_shown output)
