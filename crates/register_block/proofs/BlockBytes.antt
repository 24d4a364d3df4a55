-- Each byte of a block after a write.
use Prim.Native.Nat.{ℕ, suc, ◌+◌, ◌-◌, ◌≤◌, ◌<◌}
use native.Mathlib.Omega.{arith}
use mathlib.Core.Path.{◌≡◌, refl, ap, sym, ◌∙◌}
use mathlib.Core.Bool.{Bool, true, false, cond}
use mathlib.Core.List.{List}
use lib.ListN.{length, get_or, set, drop, replicate, length-set, get_or-append, get_or-eq_default, get_or-replicate}
use lib.Seq.{get_or-set_same, get_or-set_other, get_or-append-add, get_or-drop}
use lib.Dec.{eqb, ltb}
use borrow.Author.Tests.{eqb-true, ltb-true, ltb-false}
use Rattle.words.specs.Overwrite.{overwrite}
use Rattle.words.proofs.OverwriteLaws.{word_inside, word_before}
use Rattle.command.specs.Stream.{longest_answer}
use Rattle.register_block.specs.Block.{Block, block_bytes, command_at, status_at, flags_at, mask_at, result_at, result_count, flags_in, flag_byte, flags_of, flags_cleared, is_operand, register_written, zero_filled, result_shown, marked}
use Rattle.register_block.proofs.BlockLengths.{result_length, result_fits}

-- A write to a register changes no other byte
pub others_stay : (b : Block) (offset value i : ℕ) → (i ≡ offset → ⊥) → get_or (register_written b offset value) i 0 ≡ get_or b i 0
others_stay b offset value i other = go (eqb offset flags_at) (eqb offset mask_at) (is_operand offset) refl refl
  where
    ones : ℕ
    ones = flag_byte (flags_cleared (flags_of b) (flags_in value))

    go : (x y z : Bool) → eqb offset flags_at ≡ x → eqb offset mask_at ≡ y
        → get_or (cond x (set b flags_at ones) (cond y (set b mask_at value) (cond z (set b offset value) b))) i 0 ≡ get_or b i 0
    go true y z e f = get_or-set_other b flags_at i ones 0 (λ is. other (is ∙ sym (eqb-true offset flags_at e)))
    go false true z e f = get_or-set_other b mask_at i value 0 (λ is. other (is ∙ sym (eqb-true offset mask_at f)))
    go false false true e f = get_or-set_other b offset i value 0 other
    go false false false e f = refl

-- Bytes with zeros behind them: each is the byte of its place, and zero where there is none
pub filled_byte : (count : ℕ) (bytes : List ℕ) (i : ℕ) → i < count → get_or (zero_filled count bytes) i 0 ≡ get_or bytes i 0
filled_byte count bytes i h = go (ltb i (length bytes)) refl
  where
    go : (x : Bool) → ltb i (length bytes) ≡ x → get_or (zero_filled count bytes) i 0 ≡ get_or bytes i 0
    go true e = get_or-append bytes (replicate (count - length bytes) 0) 0 i (ltb-true i (length bytes) e)
    go false e =
        let behind = ltb-false i (length bytes) e in
        let at : i ≡ length bytes + (i - length bytes) = omega (arith, behind) in
        ap (λ (n : ℕ). get_or (zero_filled count bytes) n 0) at
        ∙ get_or-append-add bytes (replicate (count - length bytes) 0) (i - length bytes) 0
        ∙ get_or-replicate (count - length bytes) (i - length bytes) 0 0 (omega (arith, h, behind))
        ∙ sym (get_or-eq_default bytes 0 behind)

-- Every byte of a block that shows a command's output, whatever its status and flags
module _ (b : Block) (command status flags : ℕ) (output : List ℕ) (long : length b ≡ block_bytes) (short : length output ≤ longest_answer) where
  abbrev after : Block
  after = overwrite (marked b command status flags) result_at (result_shown output)

  before_result : (i : ℕ) → i < result_at → get_or after i 0 ≡ get_or (marked b command status flags) i 0
  before_result = word_before (marked b command status flags) result_at (result_shown output) (result_fits b command status flags output long short)

  pub command_shown : get_or after command_at 0 ≡ command
  unfolding marked
  command_shown =
      before_result command_at (omega arith)
      ∙ get_or-set_other (set (set b command_at command) status_at status) flags_at command_at flags 0 (λ e. omega (arith, e))
      ∙ get_or-set_other (set b command_at command) status_at command_at status 0 (λ e. omega (arith, e))
      ∙ get_or-set_same b command_at command 0 (omega (arith, long))

  pub status_shown_lem : get_or after status_at 0 ≡ status
  unfolding marked
  status_shown_lem =
      before_result status_at (omega arith)
      ∙ get_or-set_other (set (set b command_at command) status_at status) flags_at status_at flags 0 (λ e. omega (arith, e))
      ∙ get_or-set_same (set b command_at command) status_at status 0 (omega (arith, long, length-set b command_at command))

  pub flags_shown_lem : get_or after flags_at 0 ≡ flags
  unfolding marked
  flags_shown_lem =
      let wide = length-set (set b command_at command) status_at status ∙ length-set b command_at command in
      before_result flags_at (omega arith) ∙ get_or-set_same (set (set b command_at command) status_at status) flags_at flags 0 (omega (arith, long, wide))

  -- Operands and mask
  pub rest_stays : (i : ℕ) → i < result_at → (i ≡ command_at → ⊥) → (i ≡ status_at → ⊥) → (i ≡ flags_at → ⊥) → get_or after i 0 ≡ get_or b i 0
  unfolding marked
  rest_stays i h c s f =
      before_result i h
      ∙ get_or-set_other (set (set b command_at command) status_at status) flags_at i flags 0 f
      ∙ get_or-set_other (set b command_at command) status_at i status 0 s
      ∙ get_or-set_other b command_at i command 0 c

  pub result_shown_lem : (i : ℕ) → i < result_count → get_or after (result_at + i) 0 ≡ get_or output (suc i) 0
  result_shown_lem i h =
      word_inside (marked b command status flags) result_at (result_shown output) (result_fits b command status flags output long short) i
      (omega (arith, result_length output short, h))
      ∙ filled_byte result_count (drop 1 output) i h
      ∙ get_or-drop 1 output i 0
      ∙ ap (λ (n : ℕ). get_or output n 0) next
    where
      next : 1 + i ≡ suc i
      next = omega arith
