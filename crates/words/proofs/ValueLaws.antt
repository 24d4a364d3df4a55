-- The laws of adding values: the order and the grouping do not matter, and the zero adds nothing to a value of two 64-bit words.
use Rattle.std.proofs.Common.{◌≡◌, ℕ, zero, suc, ◌+◌, ◌-◌, ◌^◌, ◌<◌, ◌≤◌, List, length, get_or, sym, refl, ap, ◌∙◌, arith, ext_get_or}
use native.Mathlib.Decide.{dec_lt}
use Rattle.words.specs.declared.value.Value.{Value}
use Rattle.words.specs.Value.{plus, value_words, value_at, encode_value}
use Rattle.words.specs.Value as value
use Rattle.words.specs.Overwrite.{overwrite}
use Rattle.words.proofs.OverwriteLaws.{overwrite_length, word_before, word_inside, word_behind}

-- Values with the same count and the same sum are the same
pub value_path : {a b : Value} → a.count ≡ b.count → a.sum ≡ b.sum → a ≡ b
value_path p q = λ i. record { count = p i; sum = q i }

-- Where its words stand, the value is read back
pub value_back : (words : List ℕ) (at : ℕ) (v : Value)
    → ((i : ℕ) → i < value_words → get_or words (at + i) 0 ≡ get_or (encode_value v) i 0) → value_at words at ≡ v
value_back words at v h = value_path (ap (λ (n : ℕ). get_or words n 0) (omega arith) ∙ h 0 (omega arith)) (h 1 (omega arith))

-- A value that was read from words and is written again is the same words
pub value_again : (words : List ℕ) (at i : ℕ) → i < value_words → get_or (encode_value (value_at words at)) i 0 ≡ get_or words (at + i) 0
value_again words at zero h = ap (λ (n : ℕ). get_or words n 0) (omega arith)
value_again words at (suc zero) h = refl
value_again words at (suc (suc i)) h = absurd (omega arith)

-- Words that are alike have the same value
pub value_alike : (words others : List ℕ) (at : ℕ) → ((i : ℕ) → i < value_words → get_or words (at + i) 0 ≡ get_or others (at + i) 0)
    → value_at words at ≡ value_at others at
value_alike words others at same = value_back words at (value_at others at) (λ i l. same i l ∙ sym (value_again others at i l))

-- Words stay as they are where they have such a value already
module _ (words others : List ℕ) (at : ℕ) (fits : at + value_words ≤ length words)
    (same : (i : ℕ) → i < value_words → get_or words (at + i) 0 ≡ get_or others (at + i) 0) where
  abbrev again : List ℕ
  again = overwrite words at (encode_value (value_at others at))

  from_there : (i : ℕ) → at ≤ i → Dec (i < at + value_words) → get_or again i 0 ≡ get_or words i 0
  from_there i h (no l) = word_behind words at (encode_value (value_at others at)) fits i (omega arith)
  from_there i h (yes l) =
      let here : i ≡ at + (i - at) = omega arith in
      let inside : i - at < value_words = omega arith in
      ap (λ (n : ℕ). get_or again n 0) here
      ∙ word_inside words at (encode_value (value_at others at)) fits (i - at) inside
      ∙ value_again others at (i - at) inside
      ∙ sym (ap (λ (n : ℕ). get_or words n 0) here ∙ same (i - at) inside)

  each_word : (i : ℕ) → Dec (i < at) → get_or again i 0 ≡ get_or words i 0
  each_word i (yes l) = word_before words at (encode_value (value_at others at)) fits i l
  each_word i (no l) = from_there i (omega arith) (dec_lt i (at + value_words))

  pub value_same : again ≡ words
  value_same =
      ext_get_or 0 again words (overwrite_length words at (encode_value (value_at others at)) fits) (λ i l. each_word i (dec_lt i at))

pub plus_comm : (a b : Value) → plus a b ≡ plus b a
unfolding plus
plus_comm a b = value_path (omega arith) (omega arith)

pub plus_assoc : (a b c : Value) → plus (plus a b) c ≡ plus a (plus b c)
unfolding plus
plus_assoc a b c = value_path (omega arith) (omega arith)

-- The first two of three values change places
pub plus_exchange : (a b c : Value) → plus a (plus b c) ≡ plus b (plus a c)
plus_exchange a b c = sym (plus_assoc a b c) ∙ ap (λ (v : Value). plus v c) (plus_comm a b) ∙ plus_assoc b a c

-- A value that is two 64-bit words
abbrev pub Stored : Value → Type 0
Stored v = (v.count < 2 ^ 64) × (v.sum < 2 ^ 64)

pub read_stored : (words : List ℕ) (at : ℕ) → ((i : ℕ) → get_or words i 0 < 2 ^ 64) → Stored (value_at words at)
read_stored words at small = (small at, small (at + 1))

pub plus_stored : (a b : Value) → Stored (plus a b)
unfolding plus
plus_stored a b = omega arith

pub zero_plus : (v : Value) → Stored v → plus value.zero v ≡ v
unfolding plus
zero_plus v h = value_path (omega arith) (omega arith)

pub plus_zero : (v : Value) → Stored v → plus v value.zero ≡ v
plus_zero v h = plus_comm v value.zero ∙ zero_plus v h

pub zero_plus_plus : (a b : Value) → plus value.zero (plus a b) ≡ plus a b
zero_plus_plus a b = zero_plus (plus a b) (plus_stored a b)

-- What is added to two sums alike may be left out of both
pub plus_cancel : (a x y : Value) → Stored x → Stored y → plus a x ≡ plus a y → x ≡ y
unfolding plus
plus_cancel a x y h k e =
    value_path (omega (arith, h.0, k.0, ap (λ (v : Value). v.count) e)) (omega (arith, h.1, k.1, ap (λ (v : Value). v.sum) e))
