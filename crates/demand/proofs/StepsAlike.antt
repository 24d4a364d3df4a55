-- Events one after the other, and a step by its refusal as a whole: the store and the pass book answer alike and go on alike.
use Prim.Native.Nat.{ℕ, zero, suc}
use mathlib.Core.Path.{◌≡◌, refl, ap, ap₂}
use mathlib.Core.List.{List, [], ◌∷◌, map}
use Rattle.words.specs.Lists.{All}
use Rattle.store.specs.Trees.{Store}
use Rattle.store.specs.Answers.{refusal_of}
use Rattle.store.specs.Book.{Book, book_part, fed_by}
use Rattle.store.proofs.Agreement.{Agrees}
use Rattle.store.proofs.Outcomes.{Alike, outcome, turn_alike}
use Rattle.demand.specs.Bursts.{Asked, unknown_kind, asked, answer_to, answers_to, store_behind, Entered, unless_refused_whole}
use Rattle.demand.specs.Steps.{book_parts, refusals_in, book_turn_at, book_answers_to, book_behind, BookStep, unless_book_refuses}
use Rattle.demand.proofs.SentEvents.{SentAsked}

-- One call or event
event_alike : (s : Store) (b : Book) (e : Asked) → SentAsked e → Agrees s b → Alike (answer_to s e) (book_turn_at b e)
event_alike s b unknown_kind sent a = record { answer = refl; next = a }
event_alike s b (asked c) sent a = turn_alike s b c a (outcome s b c sent a)

-- Events one after the other
record EventsAlike (s : Store) (b : Book) (es : List Asked) : Type 0 where
  pub answers : map book_part (answers_to s es) ≡ book_answers_to b es (map refusal_of (answers_to s es))
  pub next : Agrees (store_behind s es) (book_behind b es (map refusal_of (answers_to s es)))

events_alike : (s : Store) (b : Book) (es : List Asked) → All SentAsked es → Agrees s b → EventsAlike s b es
unfolding answers_to store_behind book_answers_to book_behind
events_alike s b [] sent a = record { answers = refl; next = a }
events_alike s b (e ∷ es) sent a =
    let one = event_alike s b e sent.0 a in
    let rest = events_alike (answer_to s e).store (book_turn_at b e (fed_by (refusal_of (answer_to s e).answer))).book es sent.1 one.next in
    record { answers = ap₂ ◌∷◌ one.answer rest.answers; next = rest.next }

-- A call or a burst, by its refusal as a whole
pub record StepAlike (e : Entered) (turn : BookStep) : Type 0 where
  pub said : book_parts e ≡ turn.said
  pub next : Agrees e.store turn.book

pub step_alike : (n : ℕ) (s : Store) (b : Book) (es : List Asked) → All SentAsked es → Agrees s b
    → StepAlike (unless_refused_whole n s es) (unless_book_refuses n b es (refusals_in (unless_refused_whole n s es)))
step_alike zero s b es sent a =
    let all = events_alike s b es sent a in
    record { said = ap (λ (answers : List _). record { refusal = 0; answers = answers }) all.answers; next = all.next }
step_alike (suc n) s b es sent a = record { said = refl; next = a }
