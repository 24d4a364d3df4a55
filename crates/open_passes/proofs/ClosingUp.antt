-- The list of open passes closed up: the passes behind a place moved one place down, and the place set free zeroed.
use Prim.Native.Nat.{ℕ, suc, ◌+◌, ◌-◌, ◌≤◌}
use native.Mathlib.Omega.{arith}
use mathlib.Core.Path.{◌≡◌, ap, ap₂, ◌∙◌}
use mathlib.Core.List.{List, ◌∷◌, ◌++◌, append_assoc}
use lib.ListN.{length, take, drop, get_or, set, length-drop}
use lib.Seq.{paste, length_paste_head, drop-cons, set_at}
use Rattle.store.specs.declared.types.OpenPass.{OpenPass}
use Rattle.store.specs.Head.{no_pass}
use Rattle.store.specs.Writing.{closed_up}

module _ (passes : List OpenPass) (place last moved : ℕ) (from : place + moved ≡ last) (room : last + 1 ≤ length passes) where
  front_length : length (take place passes ++ take moved (drop (place + 1) passes)) ≡ last
  front_length = length_paste_head passes place (drop (place + 1) passes) moved (omega arith) (rw length-drop (omega arith)) ∙ from

  pub closing : set (paste passes place (drop (place + 1) passes) moved) last no_pass ≡ closed_up passes place (last + 1)
  closing =
      let later : List OpenPass = drop (place + 1) passes in
      let front : List OpenPass = take place passes ++ take moved later in
      let as_many : moved ≡ last + 1 - (place + 1) = omega arith in
      let past : suc last ≡ last + 1 = omega arith in
      ap (λ (r : List OpenPass). set (front ++ r) last no_pass) (ap (λ (n : ℕ). drop n passes) from ∙ drop-cons passes last no_pass (omega arith))
      ∙ set_at front (get_or passes last no_pass) (drop (suc last) passes) no_pass last front_length
      ∙ append_assoc (take place passes) (take moved later) (no_pass ∷ drop (suc last) passes)
      ∙ ap₂ (λ (m n : ℕ). take place passes ++ (take m later ++ (no_pass ∷ drop n passes))) as_many past
