-- What the definitions of a burst come to, in words: when it is refused, which event stands where, and what its result words are.
use Prim.Native.Nat.{ℕ, zero, suc, ◌+◌, ◌*◌, ◌/◌, ◌%◌, ◌≤◌}
use native.Mathlib.Omega.{arith}
use mathlib.Core.Path.{◌≡◌, refl, ap, ap₂, sym, ◌∙◌}
use mathlib.Core.Bool.{Bool, true, false, cond}
use mathlib.Core.Logic.{◌⊎◌, inl, inr}
use mathlib.Core.List.{List, [], ◌∷◌, ◌++◌}
use lib.ListN.{length, get_or, take, drop, length-append}
use lib.Seq.{take_at, drop-append-add}
use borrow.Author.Tests.{ltb-false, le-ltb}
use Rattle.store.specs.declared.types.Answer.{Answer}
use Rattle.store.specs.declared.types.Answer.TheVariants.{Refused, Opened, Started, Ended, Totals}
use Rattle.store.specs.Trees.{Store}
use Rattle.store.specs.Answers.{refusal_of}
use Rattle.store.specs.Refusals.{first_met}
use Rattle.command.specs.Stream.{event_kind}
use Rattle.demand.specs.Bursts.{most_events, event_bytes, event_words, event_count, too_many_events, ends_inside_event, too_few_words, burst_refusal, Asked, asked_by, events_from, events_of, answer_to, answers_to, new_number, result_words}

-- So many whole events, no more than may come together, and two words for each
pub record Fits (bytes : List ℕ) (words : ℕ) : Type 0 where
  pub events : ℕ
  pub whole : length bytes ≡ 9 * events
  pub few : events ≤ 256
  pub room : 2 * events ≤ words

-- "It refuses (31 ...) a longer burst, one that ends inside an event, or a result list too short for it": 31 and no other number, and nothing else
module _ (bytes : List ℕ) (words : ℕ) where
  abbrev by_tests : (x y z : Bool) → ℕ
  by_tests x y z = cond x 31 (cond y 31 (cond z 31 0))

  abbrev many : Bool
  many = (too_many_events bytes).met

  abbrev inside : Bool
  inside = (ends_inside_event bytes).met

  abbrev short : Bool
  short = (too_few_words bytes words).met

  pub takes_what_fits : Fits bytes words → burst_refusal bytes words ≡ 0
  unfolding burst_refusal first_met
  takes_what_fits fits =
      let e : many ≡ false = le-ltb (most_events * event_bytes) (length bytes) (omega (arith, fits.whole, fits.few)) in
      let f : inside ≡ false = le-ltb 0 (length bytes % event_bytes) (omega (arith, fits.whole)) in
      let g : short ≡ false = le-ltb words (event_words * event_count bytes) (omega (arith, fits.whole, fits.room)) in
      ap (λ (x : Bool). by_tests x inside short) e ∙ ap (λ (y : Bool). by_tests false y short) f ∙ ap (by_tests false false) g

  pub fits_or_31 : Fits bytes words ⊎ (burst_refusal bytes words ≡ 31)
  unfolding burst_refusal first_met
  fits_or_31 = go many inside short refl refl refl
    where
      go : (x y z : Bool) → many ≡ x → inside ≡ y → short ≡ z → Fits bytes words ⊎ (by_tests x y z ≡ 31)
      go true y z e f g = inr refl
      go false true z e f g = inr refl
      go false false true e f g = inr refl
      go false false false e f g =
          let most = ltb-false (most_events * event_bytes) (length bytes) e in
          let none = ltb-false 0 (length bytes % event_bytes) f in
          let enough = ltb-false words (event_words * event_count bytes) g in
          inl (record { events = event_count bytes; whole = omega (arith, none); few = omega (arith, most); room = omega (arith, enough) })

-- The events in their order: a kind and its 8 operand bytes, then the events of the bytes behind them
pub first_of : (kind : ℕ) (operands bytes : List ℕ) → length operands ≡ 8
    → events_of (kind ∷ (operands ++ bytes)) ≡ asked_by (event_kind kind) operands ∷ events_of bytes
unfolding events_from
first_of kind operands bytes h =
    let more : event_count (kind ∷ (operands ++ bytes)) ≡ suc (event_count bytes) = omega (arith, h, length-append operands bytes) in
    let here : 8 ≡ length operands + 0 = omega (arith, h) in
    let behind : drop 8 (operands ++ bytes) ≡ bytes = ap (λ (n : ℕ). drop n (operands ++ bytes)) here ∙ drop-append-add operands bytes 0 in
    ap (λ (n : ℕ). events_from n (kind ∷ (operands ++ bytes))) more
    ∙ ap₂ (λ (front rest : List ℕ). asked_by (event_kind kind) front ∷ events_from (event_count bytes) rest) (take_at operands bytes 8 h) behind

-- One answer for each event
pub as_many_events : (count : ℕ) (bytes : List ℕ) → length (events_from count bytes) ≡ count
unfolding events_from
as_many_events zero bytes = refl
as_many_events (suc n) bytes = ap suc (as_many_events n (drop event_bytes bytes))

pub as_many_answers : (s : Store) (es : List Asked) → length (answers_to s es) ≡ length es
unfolding answers_to
as_many_answers s [] = refl
as_many_answers s (e ∷ es) = ap suc (as_many_answers (answer_to s e).store es)

-- Two words for each answer and no more
pub two_words_each : (answers : List Answer) → length (result_words answers) ≡ 2 * length answers
unfolding result_words
two_words_each [] = refl
two_words_each (a ∷ answers) = omega (arith, two_words_each answers)

-- "a refused event writes its number" and 0, an accepted start 0 and its number, an accepted end twice 0
pub words_of_refused : (n : ℕ) (answers : List Answer) → result_words (Refused n ∷ answers) ≡ n ∷ (0 ∷ result_words answers)
unfolding result_words
words_of_refused n answers = refl

pub words_of_started : (number : ℕ) (answers : List Answer) → result_words (Started number ∷ answers) ≡ 0 ∷ (number ∷ result_words answers)
unfolding result_words
words_of_started number answers = refl

pub words_of_ended : (answers : List Answer) → result_words (Ended ∷ answers) ≡ 0 ∷ (0 ∷ result_words answers)
unfolding result_words
words_of_ended answers = refl
