-- What is read at each offset, of any block and after a reset.
use Prim.Native.Nat.{ℕ, zero, suc, ◌≤◌, ◌<◌}
use native.Mathlib.Omega.{arith}
use mathlib.Core.Path.{◌≡◌, refl, ap, ◌∙◌}
use mathlib.Core.Bool.{Bool, true, false, cond}
use lib.ListN.{get_or, replicate}
use lib.Seq.{get_or-set_other}
use lib.Dec.{eqb, ltb}
use borrow.Author.Tests.{ne_eqb, lt-ltb, le-ltb}
use Rattle.register_block.specs.declared.flags.Flags.{Flags}
use Rattle.register_block.specs.Block.{Block, block_bytes, flags_at, mask_at, registers_end, flags_in, flag_byte, flags_of, clear_block, read_block}

-- What is read at an offset: the flags, another register, or zero
module _ (b : Block) where
  abbrev reads : (flags registers : Bool) (offset : ℕ) → ℕ
  reads x y offset = cond x (flag_byte (flags_of b)) (cond y (get_or b offset 0) 0)

  -- "other offsets read zero": all those past the registers, 40 and more among them
  pub others_read_zero : (offset : ℕ) → registers_end ≤ offset → read_block b offset ≡ 0
  others_read_zero offset h =
      ap (λ (x : Bool). reads x (ltb offset registers_end) offset) (ne_eqb offset flags_at (λ e. omega (arith, e)))
      ∙ ap (λ (y : Bool). reads false y offset) (le-ltb offset registers_end h)

  pub read_flags : read_block b flags_at ≡ flag_byte (flags_of b)
  read_flags = refl

  pub read_register : (offset : ℕ) → (offset ≡ flags_at → ⊥) → offset < registers_end → read_block b offset ≡ get_or b offset 0
  read_register offset n h =
      ap (λ (x : Bool). reads x (ltb offset registers_end) offset) (ne_eqb offset flags_at n) ∙ ap (λ (y : Bool). reads false y offset) (lt-ltb offset registers_end h)

-- A byte holds three flags as they are
pub flags_held : (f : Flags) → flags_in (flag_byte f) ≡ f
flags_held f = go f.done f.refused f.full
  where
    go : (x y z : Bool) → flags_in (flag_byte (record { done = x; refused = y; full = z })) ≡ record { done = x; refused = y; full = z }
    go true true true = refl
    go true true false = refl
    go true false true = refl
    go true false false = refl
    go false true true = refl
    go false true false = refl
    go false false true = refl
    go false false false = refl

zeros : (n i : ℕ) → get_or {A = ℕ} (replicate n 0) i 0 ≡ 0
zeros zero i = refl
zeros (suc n) zero = refl
zeros (suc n) (suc i) = zeros n i

-- "Reset clears the block": every offset but the mask's reads zero, and the store is as it was
pub cleared_reads : (mask offset : ℕ) → (offset ≡ mask_at → ⊥) → read_block (clear_block mask) offset ≡ 0
cleared_reads mask offset n = go (eqb offset flags_at) (ltb offset registers_end)
  where
    go : (x y : Bool) → reads (clear_block mask) x y offset ≡ 0
    go true y = refl
    go false true = get_or-set_other (replicate block_bytes 0) mask_at offset mask 0 n ∙ zeros block_bytes offset
    go false false = refl
