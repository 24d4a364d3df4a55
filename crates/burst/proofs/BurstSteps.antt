-- A burst as the code enters it: what has been entered so far, and what is left of the definition.
use Prim.Native.Nat.{ℕ, zero, suc, ◌+◌, ◌-◌, ◌*◌, ◌≤◌, ◌<◌}
use native.Mathlib.Omega.{arith}
use mathlib.Core.Path.{◌≡◌, refl, ap, ap₂, sym, subst, ◌∙◌}
use mathlib.Core.Bool.{true, false, true≢false}
use mathlib.Core.Logic.{◌⊎◌, inl, inr}
use mathlib.Core.List.{List, [], ◌∷◌, ◌++◌}
use lib.ListN.{length, get_or, take, drop, length-append}
use lib.Seq.{take_all}
use Rattle.std.specs.declared.result.Result.{Result}
use Rattle.std.specs.declared.result.Result.TheVariants.{Ok, Err}
use Rattle.std.specs.Result.{is_err}
use Rattle.words.specs.Overwrite.{overwrite}
use Rattle.words.proofs.OverwriteLaws.{overwrite_none, overwrite_more, overwrite_length}
use Rattle.store.specs.declared.types.Answer.{Answer}
use Rattle.store.specs.declared.types.Head.{Head}
use Rattle.store.specs.declared.refusal.Refusal.{Refusal}
use Rattle.store.specs.Trees.{Lent, Store}
use Rattle.store.specs.Answers.{Answered}
use Rattle.store.specs.Refused.{told}
use Rattle.store.proofs.RefusedNumbers.{numbered}
use Rattle.command.specs.Stream.{event_kind, answered}
use Rattle.command.proofs.KindLaws.{few_event_operands}
use Rattle.replies.specs.declared.types.Reply.{Reply}
use Rattle.replies.specs.Replies.{RepliedAs}
use Rattle.replies.proofs.RepliesAs.{replied}
use Rattle.demand.specs.Bursts.{most_events, event_bytes, event_words, event_count, burst_refusal, Asked, asked_by, events_from, events_of, answer_to, answers_to, store_behind, result_words, unless_refused_whole, enter_burst}
use Rattle.demand.proofs.BurstReadings.{Fits, fits_or_31, first_of}
use Rattle.demand.proofs.WholeCommands.{whole_command}
use Rattle.burst.specs.BurstReplies.{EventsEntered, BurstAs}

-- A burst, by its refusal
module _ (s : Store) (bytes before : List ℕ) where
  by_number : (n : ℕ) → (n ≡ 0 → ⊥) → {refused : Result (Unit {0}) Refusal} → told refused ≡ n
      → BurstAs (unless_refused_whole n s (events_of bytes)) (record { refused = refused; head = s.head }) before before s.lent
  unfolding result_words
  by_number zero some e = absurd (some refl)
  by_number (suc n) some e = record { refusal = e; words = sym (overwrite_none before 0); head = refl; lent_is = refl }

  pub refused_whole : (refused : Result (Unit {0}) Refusal) → told refused ≡ burst_refusal bytes (length before) → is_err refused ≡ true
      → BurstAs (enter_burst s bytes (length before)) (record { refused = refused; head = s.head }) before before s.lent
  refused_whole (Ok done) e err = absurd (true≢false (sym err))
  refused_whole (Err refusal) e err = by_number (burst_refusal bytes (length before)) (λ none. numbered refusal (e ∙ none)) e

  pub entered_whole : (refused : Result (Unit {0}) Refusal) → told refused ≡ burst_refusal bytes (length before) → is_err refused ≡ false
      → {r : Head} {results : List ℕ} {lent : Lent} → EventsEntered s (events_of bytes) r before results lent
      → BurstAs (enter_burst s bytes (length before)) (record { refused = refused; head = r }) before results lent
  entered_whole (Err refusal) e ok h = absurd (true≢false ok)
  entered_whole (Ok done) e ok {r} {results} {lent} h =
      subst (λ (m : ℕ). BurstAs (unless_refused_whole m s (events_of bytes)) (record { refused = Ok done; head = r }) before results lent) e
      (record { refusal = refl; words = h.words; head = h.head; lent_is = h.lent_is })

pub takes_few : (bytes : List ℕ) (words : ℕ) (refused : Result (Unit {0}) Refusal) → told refused ≡ burst_refusal bytes words → is_err refused ≡ false
    → (event_count bytes ≤ most_events) × (event_words * event_count bytes ≤ words)
takes_few bytes words (Err refusal) e ok = absurd (true≢false ok)
takes_few bytes words (Ok done) e ok = go (fits_or_31 bytes words)
  where
    go : Fits bytes words ⊎ (burst_refusal bytes words ≡ 31) → (event_count bytes ≤ most_events) × (event_words * event_count bytes ≤ words)
    go (inl fits) = (omega (arith, fits.whole, fits.few), omega (arith, fits.whole, fits.room))
    go (inr other) = absurd (omega (arith, e, other))

-- So far, so many events, with these bytes left: what the whole burst comes to is what the events in them come to, from here on
pub record Going (s₀ : Store) (bytes before : List ℕ) (s : Store) (results : List ℕ) (place : ℕ) (rest : List ℕ) : Type 0 where
  pub count : place + event_count rest ≡ event_count bytes
  pub store : store_behind s₀ (events_of bytes) ≡ store_behind s (events_of rest)
  pub words : overwrite before 0 (result_words (answers_to s₀ (events_of bytes))) ≡ overwrite results (event_words * place) (result_words (answers_to s (events_of rest)))
  pub long : length results ≡ length before

module _ (s₀ : Store) (bytes before : List ℕ) where
  pub begin : {place : ℕ} {rest : List ℕ} → place ≡ 0 → rest ≡ bytes → Going s₀ bytes before s₀ before place rest
  begin none all =
      record {
        count = omega (arith, none, ap length all);
        store = ap (λ (l : List ℕ). store_behind s₀ (events_of l)) (sym all);
        words = ap₂ (λ (n : ℕ) (l : List ℕ). overwrite before (event_words * n) (result_words (answers_to s₀ (events_of l)))) (sym none) (sym all);
        long = refl;
      }

  module _ {s : Store} {results : List ℕ} {place : ℕ} {rest : List ℕ} (g : Going s₀ bytes before s results place rest) where
    pub all_entered : length rest < event_bytes → EventsEntered s₀ (events_of bytes) s.head before results s.lent
    unfolding events_from store_behind answers_to result_words
    all_entered done =
        let none : event_count rest ≡ 0 = omega (arith, done) in
        let last = g.store ∙ ap (λ (n : ℕ). store_behind s (events_from n rest)) none in
        let said = g.words
        ∙ ap (λ (n : ℕ). overwrite results (event_words * place) (result_words (answers_to s (events_from n rest)))) none
        ∙ overwrite_none results (event_words * place) in
        record { words = sym said; head = ap (λ (x : Store). x.head) (sym last); lent_is = ap (λ (x : Store). x.lent) (sym last) }

    module _ (room : event_words * event_count bytes ≤ length before) (event behind : List ℕ) (cut : rest ≡ event ++ behind) (nine : length event ≡ event_bytes) where
      pub words_inside : event_words * place + event_words ≤ length results
      words_inside = omega (arith, room, g.count, g.long, ap length cut, length-append event behind, nine)

    pub entered_on : event_words * event_count bytes ≤ length before → (event : List ℕ) {behind : List ℕ} → rest ≡ event ++ behind → length event ≡ event_bytes
        → {r : Reply} {lent : Lent} → RepliedAs (answered s (take (length event - 1) (drop 1 event)) (event_kind (get_or event 0 0))) r lent → {results' : List ℕ}
        → {at next : ℕ} → at ≡ place → next ≡ place + 1 → results' ≡ overwrite results (event_words * at) (result_words (r.answer ∷ []))
        → Going s₀ bytes before (record { head = r.head; lent = lent }) results' next behind
    unfolding store_behind answers_to result_words
    entered_on room [] cut nine h here more put = absurd (omega (arith, nine))
    entered_on room (kind ∷ operands) {behind} cut nine {r} {lent} h {results'} {at} {next} here more put =
        let eight : length operands ≡ 8 = omega (arith, nine) in
        let asks : Asked = asked_by (event_kind kind) operands in
        let a : Answered = answer_to s asks in
        let handed = take_all (length (kind ∷ operands) - 1) operands (omega arith) in
        let whole = ap (λ (l : List ℕ). answered s l (event_kind kind)) handed ∙ whole_command s operands (event_kind kind) (omega (arith, few_event_operands kind, eight)) in
        let entered : RepliedAs a r lent = replied (sym whole) h in
        let first : events_of rest ≡ asks ∷ events_of behind = ap events_of cut ∙ first_of kind operands behind eight in
        let head = entered.head in
        let lent_is = entered.lent_is in
        let after : a.store ≡ record { head = r.head; lent = lent } = λ i. record { head = sym head i; lent = sym lent_is i } in
        let inside = words_inside room (kind ∷ operands) behind cut nine in
        let words : results' ≡ overwrite results (event_words * place) (result_words (a.answer ∷ [])) =
        put ∙ ap₂ (λ (n : ℕ) (x : Answer). overwrite results (event_words * n) (result_words (x ∷ []))) here entered.answer in
        let later : List ℕ = result_words (answers_to (record { head = r.head; lent = lent }) (events_of behind)) in
        let stores = ap (store_behind s) first ∙ ap (λ (x : Store). store_behind x (events_of behind)) after in
        let said = ap (λ (es : List Asked). overwrite results (event_words * place) (result_words (answers_to s es))) first
        ∙ ap (λ (x : Store). overwrite results (event_words * place) (result_words (a.answer ∷ answers_to x (events_of behind)))) after
        ∙ sym (overwrite_more results (event_words * place) (result_words (a.answer ∷ [])) inside (event_words * next) later (omega (arith, more)))
        ∙ ap (λ (l : List ℕ). overwrite l (event_words * next) later) (sym words) in
        record {
          count = omega (arith, more, g.count, ap length cut, length-append operands behind, eight);
          store = g.store ∙ stores;
          words = g.words ∙ said;
          long = ap length words ∙ overwrite_length results (event_words * place) (result_words (a.answer ∷ [])) inside ∙ g.long;
        }
