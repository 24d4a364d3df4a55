-- The two words of an event, as the code writes them.
use Prim.Native.Nat.{ℕ, suc, ◌+◌, ◌≤◌}
use native.Mathlib.Omega.{arith}
use mathlib.Core.Path.{◌≡◌, refl, ap, ap₂, ◌∙◌}
use mathlib.Core.List.{List, [], ◌∷◌}
use lib.ListN.{length, set}
use Rattle.words.specs.Overwrite.{overwrite}
use Rattle.words.proofs.OverwriteLaws.{overwrite_sets}
use Rattle.store.specs.declared.types.Answer.{Answer}
use Rattle.store.specs.declared.types.Answer.TheVariants.{Refused, Opened, Started, Ended, Totals, BatTime}
use Rattle.store.specs.Answers.{refusal_of, values_of}
use Rattle.c_answers.specs.Said.{number_said}
use Rattle.demand.specs.Bursts.{new_number, result_words}

-- The pass number that an answer says, or 0
number_new : (a : Answer) → number_said 0 (values_of a) ≡ new_number a
number_new (Refused n) = refl
number_new Opened = refl
number_new (Started number) = refl
number_new Ended = refl
number_new (Totals count sum pages) = refl
number_new (BatTime total pages) = refl

-- An answer's two words, stored one behind the other
two_set : (l : List ℕ) (at a b : ℕ) → at + 2 ≤ length l → set (set l at a) (at + 1) b ≡ overwrite l at (a ∷ (b ∷ []))
two_set l at a b h =
    let next : at + 1 ≡ suc at = omega arith in
    ap (λ (i : ℕ). set (set l at a) i b) next ∙ overwrite_sets l at (a ∷ (b ∷ [])) h

pub result_put : (l : List ℕ) (at : ℕ) (answer : Answer) {refusal number : ℕ} → refusal ≡ refusal_of answer → number ≡ number_said 0 (values_of answer)
    → at + 2 ≤ length l → set (set l at refusal) (at + 1) number ≡ overwrite l at (result_words (answer ∷ []))
unfolding result_words
result_put l at answer {refusal} {number} e f h =
    two_set l at refusal number h ∙ ap₂ (λ (a b : ℕ). overwrite l at (a ∷ (b ∷ []))) e (f ∙ number_new answer)
