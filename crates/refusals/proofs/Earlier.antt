-- The earlier of two refusals: what two lists of grounds, one behind the other, come to.
use Prim.Native.Nat.{ℕ, zero, suc}
use native.Mathlib.Omega.{arith}
use mathlib.Core.Path.{◌≡◌, refl}
use mathlib.Core.List.{List, ◌++◌}
use Rattle.store.specs.Refusals.{Ground, first_met}
use Rattle.store.proofs.RefusalLaws.{Numbered, first_refuses, first_passes}
use Rattle.refusals.specs.Grounds.{earlier}

pub earlier_both : (gs hs : List Ground) → Numbered gs → first_met (gs ++ hs) ≡ earlier (first_met gs) (first_met hs)
earlier_both gs hs some = go (first_met gs) refl
  where
    go : (n : ℕ) → first_met gs ≡ n → first_met (gs ++ hs) ≡ earlier n (first_met hs)
    go zero e = first_passes gs hs some e
    go (suc n) e = first_refuses gs hs n e

-- A first refusal that is met is the earlier one
pub by_first : {r n : ℕ} (m : ℕ) → r ≡ n → (r ≡ 0 → ⊥) → r ≡ earlier n m
by_first {n = zero} m e some = absurd (some e)
by_first {n = suc n} m e some = e

-- Else the second one is
pub by_second : {r n x m : ℕ} → r ≡ n → r ≡ 0 → x ≡ m → x ≡ earlier n m
by_second {n = zero} e none f = f
by_second {n = suc n} e none f = absurd (omega arith)

-- Where there is no refusal, there is none of either
pub neither : (n m : ℕ) → earlier n m ≡ 0 → (n ≡ 0) × (m ≡ 0)
neither zero m e = (refl, e)
neither (suc n) m e = absurd (omega arith)
