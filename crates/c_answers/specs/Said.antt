-- What a call says to C: 0 or the number of the refusal, and lent numbers.
use Rattle.std.specs.Prelude.{ℕ, ◌≡◌, cond, List, [], ◌∷◌, length, eqb}
use Rattle.store.specs.declared.types.Answer.{Answer}
use Rattle.store.specs.Answers.{refusal_of, values_of}

-- The pass number that an answer's values are; where they are not, what stood in the lent number before
abbrev pub number_said : ℕ → (values : List ℕ) → ℕ
number_said old [] = old
number_said old (number ∷ []) = number
number_said old (v ∷ (w ∷ values)) = old

-- The values of a reading call go into lent numbers, one each; an answer with another number of values, as a refusal has, leaves what stood there before
abbrev pub values_told : (old values : List ℕ) → List ℕ
values_told old values = cond (eqb (length old) (length values)) values old

-- A reading call that answers a: the refusal, and the values. "A refusal returns its number and no other field"
pub record Tells (a : Answer) (r : ℕ) (before after : List ℕ) : Type 0 where
  pub refusal : r ≡ refusal_of a
  pub values : after ≡ values_told before (values_of a)
  pub kept : (r ≡ 0 → ⊥) → after ≡ before
