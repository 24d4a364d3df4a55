-- The sentences of the register block, as facts about what is read: of reset, of writes that are ignored, of clearing flags and of commands. What is read at each
-- offset is in ReadOffsets, the line in LineReadings, "as last written" in LastWritten.
use Prim.Native.Nat.{ℕ, zero, suc, ◌+◌, ◌≤◌, ◌<◌}
use native.Mathlib.Omega.{arith}
use mathlib.Core.Path.{◌≡◌, refl, ap, ap₂, sym, ◌∙◌}
use mathlib.Core.Bool.{Bool, true, false, cond, not, ◌&&◌}
use mathlib.Core.Logic.{◌⊎◌, inl, inr}
use mathlib.Core.List.{List, [], ◌∷◌, ◌++◌, append-nil}
use lib.ListN.{length, get_or, take, drop, length-take, drop_of_length-le}
use lib.Seq.{get_or-set_same}
use lib.Dec.{eqb}
use borrow.Author.Tests.{ne_eqb}
use Rattle.store.specs.Trees.{Store}
use Rattle.codec.specs.Bytes.{bytes_of}
use Rattle.command.specs.Stream.{unknown, kind_of, operand_bytes, longest_answer, Ran, run_kind, run_one, run_for, run_all}
use Rattle.command.proofs.AnswerLengths.{output_fits}
use Rattle.command.proofs.StreamLaws.{front_enough}
use Rattle.register_block.specs.Block.{Block, block_bytes, command_at, status_at, flags_at, mask_at, result_at, result_count, operands_of, has_bit, flags_in, flags_of, flags_cleared, flags_shown, read_block, register_written, status_shown}
use Rattle.register_block.specs.Access.{Device, reset_device, run_from_block, write_device}
use Rattle.register_block.proofs.WriteCases.{not_written}
use Rattle.register_block.proofs.BlockBytes.{others_stay, status_shown_lem, flags_shown_lem, result_shown_lem}
use Rattle.register_block.proofs.ReadOffsets.{read_register, flags_held}

-- "Reset clears the block" (`cleared_reads` in ReadOffsets): the store is as it was
pub reset_keeps_store : (d : Device) (mask : ℕ) → (reset_device mask d).store ≡ d.store
reset_keeps_store d mask = refl

-- "Status and result can't be written"; "other offsets [...] ignore writes": block and store are as they were
pub ignored : (d : Device) (offset value : ℕ) → (offset ≡ status_at) ⊎ (result_at ≤ offset) → write_device d offset value ≡ d
ignored d offset value at =
    ap (λ (x : Bool). cond x (run_from_block d value) (record { store = d.store; block = register_written d.block offset value })) (ne_eqb offset command_at (λ e. omega (arith, e, past at)))
    ∙ ap (λ (b : Block). record { store = d.store; block = b }) (not_written d.block offset value (apart at flags_at (omega arith) (λ f. omega (arith, f))) (apart at mask_at (omega arith) (λ f. omega (arith, f))) (inr (omega (arith, past at))))
  where
    past : (offset ≡ status_at) ⊎ (result_at ≤ offset) → status_at ≤ offset
    past (inl is) = omega (arith, is)
    past (inr behind) = omega (arith, behind)

    apart : (offset ≡ status_at) ⊎ (result_at ≤ offset) → (i : ℕ) → i < result_at → (i ≡ status_at → ⊥) → offset ≡ i → ⊥
    apart (inl is) i h n e = n (sym e ∙ is)
    apart (inr behind) i h n e = omega (arith, behind, h, e)

-- "Writing ones to 14 clears those flags.", and nothing else changes
pub clears : (d : Device) (value : ℕ) → length d.block ≡ block_bytes
    → flags_of (write_device d flags_at value).block ≡ record {
      done = (flags_of d.block).done && not (has_bit 1 value);
      refused = (flags_of d.block).refused && not (has_bit 2 value);
      full = (flags_of d.block).full && not (has_bit 4 value);
    }
clears d value long =
    ap flags_in (get_or-set_same d.block flags_at _ 0 (omega (arith, long))) ∙ flags_held (flags_cleared (flags_of d.block) (flags_in value))

pub clears_only : (d : Device) (value i : ℕ) → (i ≡ flags_at → ⊥) → get_or (write_device d flags_at value).block i 0 ≡ get_or d.block i 0
clears_only d value i n = others_stay d.block flags_at value i n

-- A command that was written: status, flags and result, whatever they were before
module _ (d : Device) (command : ℕ) (long : length d.block ≡ block_bytes) where
  abbrev ran : Ran
  ran = run_one d.store command (operands_of d.block)

  abbrev after : Block
  after = (write_device d command_at command).block

  short : length ran.output ≤ longest_answer
  short = output_fits d.store command (operands_of d.block)

  abbrev taken : ℕ
  taken = operand_bytes (kind_of command)

  -- "Writing byte 0 runs the command on the operands as in the stream.": the stream of this command and its operands writes this output
  pub as_in_the_stream : run_all d.store (command ∷ take taken (operands_of d.block)) ≡ ran.output
  unfolding run_for
  as_in_the_stream =
      let operands : List ℕ = take taken (operands_of d.block) in
      let none : drop taken operands ≡ [] = drop_of_length-le operands {i = taken} (omega (arith, length-take taken (operands_of d.block))) in
      ap₂ (λ (r : Ran) (rest : List ℕ). r.output ++ cond r.on (run_for (length operands) r.store rest) []) (front_enough d.store command (operands_of d.block)) none
      ∙ ended ran.output ran.on (run_for (length operands) ran.store []) (over (length operands))
    where
      over : (n : ℕ) → run_for n ran.store [] ≡ []
      over zero = refl
      over (suc n) = refl

      ended : (output : List ℕ) (x : Bool) (rest : List ℕ) → rest ≡ [] → output ++ cond x rest [] ≡ output
      ended output true rest e = ap (◌++◌ output) e ∙ append-nil output
      ended output false rest e = append-nil output

  -- "A command through the block leaves the store that the stream would."
  pub leaves_what_the_stream_leaves : (write_device d command_at command).store ≡ (run_one d.store command (take taken (operands_of d.block))).store
  leaves_what_the_stream_leaves = sym (ap (λ (r : Ran). r.store) (front_enough d.store command (operands_of d.block)))

  -- "Status is the first output byte and the result what follows, zero filled."
  pub status_read : read_block after status_at ≡ get_or ran.output 0 0
  status_read = status_shown_lem d.block command _ _ ran.output long short

  pub result_read : (i : ℕ) → i < result_count → read_block after (result_at + i) ≡ get_or ran.output (suc i) 0
  result_read i h =
      read_register after (result_at + i) (λ e. omega (arith, e)) (omega (arith, h))
      ∙ result_shown_lem d.block command _ _ ran.output long short i h

  -- "Flag bit 0 is done, set by refused commands too, bit 1 refused, bit 2 64 open after the command; each command sets all three anew."
  pub flags_read : flags_of after ≡ record { done = true; refused = not (eqb (read_block after status_at) 0); full = eqb ran.store.head.count 64 }
  flags_read =
      ap flags_in (flags_shown_lem d.block command _ _ ran.output long short)
      ∙ flags_held (flags_shown (status_shown ran.output) ran.store.head.count)
      ∙ sym (ap (λ (status : ℕ). flags_shown status ran.store.head.count) status_read)

  -- "6 unknown command byte": judged like any other, with the store as it was
  pub unknown_read : kind_of command ≡ unknown
      → ((write_device d command_at command).store ≡ d.store) × ((read_block after status_at ≡ 6) × (flags_of after ≡ record { done = true; refused = true; full = eqb d.store.head.count 64 }))
  unfolding bytes_of
  unknown_read e =
      let stays : ran ≡ run_kind d.store (operands_of d.block) unknown = ap (run_kind d.store (operands_of d.block)) e in
      let six : read_block after status_at ≡ 6 = status_read ∙ ap (λ (r : Ran). get_or r.output 0 0) stays in
      let same : ran.store ≡ d.store = ap (λ (r : Ran). r.store) stays in
      (same, (six, flags_read ∙ ap₂ (λ (status : ℕ) (s : Store). flags_shown status s.head.count) six same))
