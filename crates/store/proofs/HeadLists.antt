-- The head's places as passes start and end.
use Prim.Native.Nat.{ℕ, suc, ◌+◌, ◌-◌, ◌≤◌, ◌<◌}
use native.Mathlib.Omega.{arith}
use mathlib.Core.Path.{◌≡◌, ap, ap₂, sym, ◌∙◌}
use mathlib.Core.List.{List, [], ◌∷◌, ◌++◌}
use lib.ListN.{length, take, drop, set, length-append, length-drop}
use lib.Seq.{length-take-le, take-suc-set, take-take, take-add, take-append-add, take-append_seam, drop-append_seam, drop-append-add}
use Rattle.store.specs.declared.types.OpenPass.{OpenPass}
use Rattle.store.specs.Head.{no_pass}
use Rattle.store.specs.Writing.{closed_up}

-- A pass more, in the first place that is free
pub list_more : (passes : List OpenPass) (count : ℕ) (p : OpenPass) → count < length passes
    → take (count + 1) (set passes count p) ≡ take count passes ++ (p ∷ [])
list_more passes count p h =
    let next : count + 1 ≡ suc count = omega arith in
    ap (λ (n : ℕ). take n (set passes count p)) next ∙ take-suc-set passes count p h

module _ (passes : List OpenPass) (at count : ℕ) (inside : at < count) (fits : count ≤ length passes) where
  front_length : length (take at passes) ≡ at
  front_length = length-take-le at passes (omega arith)

  back_length : length (take (count - (at + 1)) (drop (at + 1) passes)) ≡ count - (at + 1)
  back_length = length-take-le (count - (at + 1)) (drop (at + 1) passes) (omega (arith, length-drop (at + 1) passes))

  pub closed_length : length (closed_up passes at count) ≡ length passes
  closed_length =
      omega (
        arith,
        length-append (take at passes) (take (count - (at + 1)) (drop (at + 1) passes) ++ (no_pass ∷ drop count passes)),
        length-append (take (count - (at + 1)) (drop (at + 1) passes)) (no_pass ∷ drop count passes),
        front_length,
        back_length,
        length-drop count passes,
      )

  -- The listed passes without the one at a place: those in front of it, and those behind it
  behind : drop (suc at) (take count passes) ≡ take (count - (at + 1)) (drop (at + 1) passes)
  behind =
      let n : suc at ≡ at + 1 = omega arith in
      let m : count ≡ at + 1 + (count - (at + 1)) = omega arith in
      let long : length (take (at + 1) passes) ≡ at + 1 = length-take-le (at + 1) passes (omega arith) in
      ap₂ (λ (i c : ℕ). drop i (take c passes)) n m
      ∙ ap (drop (at + 1)) (take-add (at + 1) (count - (at + 1)) passes)
      ∙ ap (λ (i : ℕ). drop i (take (at + 1) passes ++ take (count - (at + 1)) (drop (at + 1) passes))) (sym long)
      ∙ drop-append_seam (take (at + 1) passes) (take (count - (at + 1)) (drop (at + 1) passes))

  pub list_closed : take (count - 1) (closed_up passes at count) ≡ take at (take count passes) ++ drop (suc at) (take count passes)
  list_closed =
      let size : count - 1 ≡ length (take at passes) + length (take (count - (at + 1)) (drop (at + 1) passes)) =
      omega (arith, front_length, back_length) in
      ap (λ (n : ℕ). take n (closed_up passes at count)) size
      ∙ take-append-add (take at passes) (take (count - (at + 1)) (drop (at + 1) passes) ++ (no_pass ∷ drop count passes))
      (length (take (count - (at + 1)) (drop (at + 1) passes)))
      ∙ ap₂ ◌++◌ (sym (take-take at count passes (omega arith)))
      (take-append_seam (take (count - (at + 1)) (drop (at + 1) passes)) (no_pass ∷ drop count passes) ∙ sym behind)

  -- The places from the count on are as they were
  pub closed_rest : drop count (closed_up passes at count) ≡ drop count passes
  closed_rest =
      let front : List OpenPass = take at passes in
      let back : List OpenPass = take (count - (at + 1)) (drop (at + 1) passes) in
      let size : count ≡ length front + (length back + 1) = omega (arith, front_length, back_length) in
      ap (λ (n : ℕ). drop n (closed_up passes at count)) size
      ∙ drop-append-add front (back ++ (no_pass ∷ drop count passes)) (length back + 1)
      ∙ drop-append-add back (no_pass ∷ drop count passes) 1
