-- When the interrupt line is high.
use Prim.Native.Nat.{ℕ}
use mathlib.Core.Path.{◌≡◌, refl, ap₂, sym}
use mathlib.Core.Bool.{Bool, true, false, true≢false, ◌&&◌, ◌||◌}
use mathlib.Core.Logic.{◌⊎◌, inl, inr}
use lib.ListN.{get_or}
use Rattle.register_block.specs.declared.flags.Flags.{Flags}
use Rattle.register_block.specs.Block.{Block, flags_at, mask_at, has_bit, flags_in, flags_of, line_high}

-- "The interrupt line is high exactly if a flag and its mask bit are both set."
abbrev pub SetInBoth : (value : ℕ) → Block → Type 0
SetInBoth value b = (has_bit value (get_or b flags_at 0) ≡ true) × (has_bit value (get_or b mask_at 0) ≡ true)

both_true : (x y : Bool) → x && y ≡ true → (x ≡ true) × (y ≡ true)
both_true true y e = (refl, e)
both_true false y e = absurd (true≢false (sym e))

one_true : (x y : Bool) → x || y ≡ true → (x ≡ true) ⊎ (y ≡ true)
one_true true y e = inl refl
one_true false y e = inr e

or_right : (x : Bool) {y : Bool} → y ≡ true → x || y ≡ true
or_right true e = refl
or_right false e = e

module _ (b : Block) where
  abbrev f : Flags
  f = flags_of b

  abbrev m : Flags
  m = flags_in (get_or b mask_at 0)

  later : (f.refused && m.refused ≡ true) ⊎ (f.full && m.full ≡ true) → SetInBoth 2 b ⊎ SetInBoth 4 b
  later (inl e) = inl (both_true f.refused m.refused e)
  later (inr e) = inr (both_true f.full m.full e)

  first : (f.done && m.done ≡ true) ⊎ ((f.refused && m.refused) || (f.full && m.full) ≡ true) → SetInBoth 1 b ⊎ (SetInBoth 2 b ⊎ SetInBoth 4 b)
  first (inl e) = inl (both_true f.done m.done e)
  first (inr e) = inr (later (one_true (f.refused && m.refused) (f.full && m.full) e))

  pub high_for_a_flag : line_high b ≡ true → SetInBoth 1 b ⊎ (SetInBoth 2 b ⊎ SetInBoth 4 b)
  high_for_a_flag high = first (one_true (f.done && m.done) ((f.refused && m.refused) || (f.full && m.full)) high)

  pub high_with_a_flag : SetInBoth 1 b ⊎ (SetInBoth 2 b ⊎ SetInBoth 4 b) → line_high b ≡ true
  high_with_a_flag (inl (e, h)) = ap₂ (λ (x y : Bool). (x && y) || ((f.refused && m.refused) || (f.full && m.full))) e h
  high_with_a_flag (inr (inl (e, h))) = or_right (f.done && m.done) (ap₂ (λ (x y : Bool). (x && y) || (f.full && m.full)) e h)
  high_with_a_flag (inr (inr (e, h))) = or_right (f.done && m.done) (or_right (f.refused && m.refused) (ap₂ ◌&&◌ e h))
