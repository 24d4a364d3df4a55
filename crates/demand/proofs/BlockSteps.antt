-- Accesses to the register block in a list: the operands that they leave, and the call that a write to byte 0 stands for.
use Prim.Native.Nat.{ℕ, ◌+◌, ◌-◌, ◌≤◌, ◌<◌}
use native.Mathlib.Omega.{arith}
use mathlib.Core.Path.{◌≡◌, refl, ap, sym, ◌∙◌}
use mathlib.Core.Bool.{Bool, true, false, cond, ◌&&◌}
use mathlib.Core.List.{List}
use lib.ListN.{length, set, take, drop, length-drop}
use lib.Seq.{length-take-le, ext_get_or, get_or-take, get_or-drop, take-set-le, take-set-lt, drop-set-add}
use lib.Dec.{eqb, ltb}
use borrow.Author.Tests.{eqb-true, ltb-true}
use Rattle.store.specs.Answers.{Answered}
use Rattle.command.specs.Stream.{kind_of, written, answered, Ran, run_one}
use Rattle.command.proofs.AnswerLengths.{output_fits}
use Rattle.command.proofs.KindLaws.{few_operands}
use Rattle.register_block.specs.Block.{Block, block_bytes, command_at, operands_at, operand_count, operands_end, flags_at, mask_at, flags_in, flag_byte, flags_of, flags_cleared, operands_of, is_operand, reset_mask, register_written, showing}
use Rattle.register_block.specs.Access.{Device, run_from_block, Access, reset, read, write, accessed}
use Rattle.register_block.proofs.BlockBytes.{rest_stays}
use Rattle.register_block.proofs.BlockLengths.{run_length}
use Rattle.demand.specs.Bursts.{asked_by, answer_to}
use Rattle.demand.specs.Steps.{Step, single, burst, access, operands_after_access, operands_after, device_after}
use Rattle.demand.proofs.WholeCommands.{whole_command}

pub operands_length : (b : Block) → length b ≡ block_bytes → length (operands_of b) ≡ operand_count
operands_length b long = length-take-le operand_count (drop operands_at b) (omega (arith, length-drop operands_at b, long))

-- A command that runs leaves its operands
command_keeps : (d : Device) (value : ℕ) → length d.block ≡ block_bytes → operands_of (run_from_block d value).block ≡ operands_of d.block
command_keeps d value long =
    let r : Ran = run_one d.store value (operands_of d.block) in
    let after : Block = (run_from_block d value).block in
    let many = operands_length after (run_length d value long) in
    ext_get_or 0 (operands_of after) (operands_of d.block) (many ∙ sym (operands_length d.block long))
    (λ i inside.
    let here : i < operand_count = omega (arith, many, inside) in
    get_or-take operand_count (drop operands_at after) i 0 here
    ∙ get_or-drop operands_at after i 0
    ∙ rest_stays d.block value _ _ r.output long (output_fits d.store value (operands_of d.block)) (operands_at + i) (omega (arith, here))
    (λ e. omega (arith, e)) (λ e. omega (arith, e, here)) (λ e. omega (arith, e, here))
    ∙ sym (get_or-take operand_count (drop operands_at d.block) i 0 here ∙ get_or-drop operands_at d.block i 0))

-- A byte behind the operands
behind_keeps : (b : Block) (i value : ℕ) → operand_count ≤ i → operands_of (set b (operands_at + i) value) ≡ operands_of b
behind_keeps b i value h = ap (take operand_count) (drop-set-add operands_at b i value) ∙ take-set-le operand_count (drop operands_at b) i value h

operand_set : (b : Block) (i value : ℕ) → i < operand_count → operands_of (set b (operands_at + i) value) ≡ set (operands_of b) i value
operand_set b i value h = ap (take operand_count) (drop-set-add operands_at b i value) ∙ take-set-lt operand_count (drop operands_at b) i value h

-- A write that runs no command
register_keeps : (b : Block) (offset value : ℕ)
    → operands_of (register_written b offset value) ≡ cond (is_operand offset) (set (operands_of b) (offset - operands_at) value) (operands_of b)
register_keeps b offset value = go (eqb offset flags_at) (eqb offset mask_at) (ltb command_at offset) (ltb offset operands_end) refl refl refl refl
  where
    cleared : ℕ
    cleared = flag_byte (flags_cleared (flags_of b) (flags_in value))

    go : (w x y z : Bool) → eqb offset flags_at ≡ w → eqb offset mask_at ≡ x → ltb command_at offset ≡ y → ltb offset operands_end ≡ z
        → operands_of (cond w (set b flags_at cleared) (cond x (set b mask_at value) (cond (y && z) (set b offset value) b)))
        ≡ cond (y && z) (set (operands_of b) (offset - operands_at) value) (operands_of b)
    go w x true true e f g h = inside w x e f (ltb-true command_at offset g) (ltb-true offset operands_end h)
      where
        inside : (w x : Bool) → eqb offset flags_at ≡ w → eqb offset mask_at ≡ x → command_at < offset → offset < operands_end
            → operands_of (cond w (set b flags_at cleared) (cond x (set b mask_at value) (set b offset value))) ≡ set (operands_of b) (offset - operands_at) value
        inside true x e f low high = absurd (omega (arith, eqb-true offset flags_at e, high))
        inside false true e f low high = absurd (omega (arith, eqb-true offset mask_at f, high))
        inside false false e f low high =
            let at : offset ≡ operands_at + (offset - operands_at) = omega (arith, low) in
            ap (λ (i : ℕ). operands_of (set b i value)) at ∙ operand_set b (offset - operands_at) value (omega (arith, low, high))
    go true x true false e f g h = behind_keeps b 13 cleared (omega arith)
    go true x false z e f g h = behind_keeps b 13 cleared (omega arith)
    go false true true false e f g h = behind_keeps b 14 value (omega arith)
    go false true false z e f g h = behind_keeps b 14 value (omega arith)
    go false false true false e f g h = refl
    go false false false z e f g h = refl

-- What an access leaves of the operands
access_operands : (d : Device) (a : Access) → length d.block ≡ block_bytes → operands_of (accessed reset_mask d a).block ≡ operands_after_access (operands_of d.block) a
access_operands d reset long = refl
access_operands d (read offset) long = refl
access_operands d (write offset value) long = go (eqb offset command_at) refl
  where
    ops : List ℕ
    ops = operands_of d.block

    go : (x : Bool) → eqb offset command_at ≡ x
        → operands_of (cond x (run_from_block d value) (record { store = d.store; block = register_written d.block offset value })).block
        ≡ cond (is_operand offset) (set ops (offset - operands_at) value) ops
    go true e =
        command_keeps d value long
        ∙ sym (ap (λ (n : ℕ). cond (is_operand n) (set ops (offset - operands_at) value) ops) (eqb-true offset command_at e))
    go false e = register_keeps d.block offset value

pub operands_follow : (d : Device) (step : Step) → length d.block ≡ block_bytes → operands_of (device_after d step).block ≡ operands_after (operands_of d.block) step
operands_follow d (single c) long = refl
operands_follow d (burst bytes words) long = refl
operands_follow d (access a) long = access_operands d a long

-- A command through the block has all its operands: it shows the answer of the call that they spell, and leaves its store
module _ (d : Device) (value : ℕ) (long : length d.block ≡ block_bytes) where
  abbrev called : Answered
  called = answer_to d.store (asked_by (kind_of value) (operands_of d.block))

  as_called : answered d.store (operands_of d.block) (kind_of value) ≡ called
  as_called = whole_command d.store (operands_of d.block) (kind_of value) (omega (arith, few_operands value, operands_length d.block long))

  pub runs_the_call : (run_from_block d value).store ≡ called.store
  runs_the_call = ap (λ (a : Answered). a.store) as_called

  pub shows_the_call : (run_from_block d value).block ≡ showing d.block value (written called.answer) called.store.head.count
  shows_the_call = ap (λ (a : Answered). showing d.block value (written a.answer) a.store.head.count) as_called
