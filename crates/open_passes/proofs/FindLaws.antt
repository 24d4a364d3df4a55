-- One law for each way through the loop that looks for an open pass by its number.
use Prim.Native.Nat.{ℕ, ◌≤◌, ◌<◌, ◌+◌, min}
use native.Mathlib.Omega.{arith}
use native.Mathlib.Decide.{dec_le}
use mathlib.Core.Path.{◌≡◌, refl, ap, sym, ◌∙◌}
use mathlib.Core.List.{List}
use lib.ListN.{length, get_or, take, drop}
use lib.Seq.{take_all}
use borrow.Author.Tests.{eq-eqb, ne_eqb}
use Rattle.std.proofs.lemmas.List.{at_drop_more, at_drop_all}
use Rattle.std.specs.Prelude.{None}
use Rattle.store.specs.declared.types.OpenPass.{OpenPass}
use Rattle.store.specs.Head.{open_limit, found_at, find_pass}

module _ (passes : List OpenPass) (number place : ℕ) where
  module _ (d : OpenPass) (more : place < length passes) where
    pub find_here : (get_or passes place d).number ≡ number → find_pass number place (drop place passes) ≡ found_at place (get_or passes place d)
    unfolding find_pass
    find_here e = at_drop_more (find_pass number place) passes place d more ∙ rw (eq-eqb _ _ e) refl

    pub find_next : ((get_or passes place d).number ≡ number → ⊥) → find_pass number place (drop place passes) ≡ find_pass number (place + 1) (drop (place + 1) passes)
    unfolding find_pass
    find_next e = at_drop_more (find_pass number place) passes place d more ∙ rw (ne_eqb _ _ e) refl

  pub find_none : length passes ≤ place → find_pass number place (drop place passes) ≡ None
  unfolding find_pass
  find_none h = at_drop_all (find_pass number place) passes place h

-- A list of 64 has no more passes than 64, whatever the head says
pub take_listed : (passes : List OpenPass) (count : ℕ) → length passes ≡ open_limit → take (min count open_limit) passes ≡ take count passes
take_listed passes count full = go (dec_le count open_limit)
  where
    go : Dec (count ≤ open_limit) → take (min count open_limit) passes ≡ take count passes
    go (yes h) = let same : min count open_limit ≡ count = omega arith in ap (λ (n : ℕ). take n passes) same
    go (no h) = take_all (min count open_limit) passes (omega arith) ∙ sym (take_all count passes (omega arith))
