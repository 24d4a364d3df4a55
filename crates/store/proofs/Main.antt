-- Demand 3, the theorem: for every list of openings, starts, ends, questions and lookups, refused ones among them, run from a store just
-- opened, each call answers what document 01's pass book answers (specs/Demand has the claim, clause by clause).
use Prim.Native.Nat.{ℕ}
use mathlib.Core.Path.{◌≡◌, refl, ap, ap₂, sym, subst}
use mathlib.Core.List.{List, [], ◌∷◌, map}
use Rattle.words.specs.Lists.{All}
use Rattle.store.specs.Trees.{Store}
use Rattle.store.specs.Calls.{Call, opening, Sent}
use Rattle.store.specs.Answers.{refusal_of, unless_refused}
use Rattle.store.specs.Performing.{refusal, served, perform, perform_all}
use Rattle.store.specs.Book.{Book, book_part, empty_book, book_answers}
use Rattle.store.specs.Demand.{next_book, Along, Demand3}
use Rattle.store.proofs.Agreement.{Agrees}
use Rattle.store.proofs.Bounds.{trees_bounded}
use Rattle.store.proofs.OpeningReady.{takes_enough, opened_agrees}
use Rattle.store.proofs.Outcomes.{outcome, turn_alike, turn_exact, turn_opens}

same_answers : (s : Store) (b : Book) (calls : List Call) → All Sent calls → Agrees s b
    → map book_part (perform_all s calls) ≡ book_answers b calls (map refusal_of (perform_all s calls))
unfolding perform_all book_answers
same_answers s b [] sent a = refl
same_answers s b (c ∷ calls) sent a =
    let alike = turn_alike s b c a (outcome s b c sent.0 a) in
    ap₂ ◌∷◌ alike.answer (same_answers (perform s c).store (next_book s b c) calls sent.1 alike.next)

all_along : (s : Store) (b : Book) (calls : List Call) → All Sent calls → Agrees s b → Along s b calls
all_along s b [] sent a = trees_bounded s b a
all_along s b (c ∷ calls) sent a =
    let ends = outcome s b c sent.0 a in
    record {
      bounded = trees_bounded s b a;
      refusals = turn_exact s b c ends;
      opens = turn_opens s b c ends;
      next = all_along (perform s c).store (next_book s b c) calls sent.1 (turn_alike s b c a ends).next;
    }

-- A store just opened agrees with the empty book, whatever the memory held
pub just_opened : (memory : Store) → refusal memory opening ≡ 0 → Agrees (perform memory opening).store empty_book
unfolding served
just_opened memory takes =
    let is : (perform memory opening).store ≡ (served memory opening).store =
    ap (λ (r : ℕ). (unless_refused r memory (served memory opening)).store) takes in
    subst (λ (s : Store). Agrees s empty_book) (sym is) (opened_agrees memory.lent (takes_enough memory takes))

pub demand_3 : Demand3
demand_3 head lent takes calls sent =
    let memory : Store = record { head = head; lent = lent } in
    let opened : Store = (perform memory opening).store in
    let a : Agrees opened empty_book = just_opened memory takes in
    record { answers = same_answers opened empty_book calls sent a; along = all_along opened empty_book calls sent a }
