-- A turn of the book, by what is met first: a refusal of its own, 27 or 28 of the store, neither.
use Prim.Native.Nat.{ℕ, zero, suc, ◌≤◌, ◌<◌}
use native.Mathlib.Omega.{arith}
use mathlib.Core.Path.{◌≡◌, refl, ap, sym, ◌∙◌}
use mathlib.Core.List.{List}
use lib.ListN.{length, set, get_or}
use Rattle.words.specs.Words.{open_end}
use Rattle.store.specs.Calls.{Call, opening, start, end, question, bat_time, lookup_in}
use Rattle.store.specs.Passes.{Pass}
use Rattle.store.specs.declared.types.Answer.TheVariants.{Refused}
use Rattle.store.specs.Book.{Book, BookTurn, Fed, neither, pages_lacked, root_lacked, book_says, refused, unless_fed, unless_met, book_refusal, book_does, book_done, book_turn}
use Rattle.pass_list.specs.declared.types.PassBook.{PassBook}
use Rattle.pass_list.specs.declared.types.ListedPass.{ListedPass}
use Rattle.pass_list.specs.PassList.{book_in}
use Rattle.pass_book.specs.Turns.{lacked, in_words, TurnsAs}
use Rattle.pass_list.proofs.PassLaws.{ended_pass, passes_ended}

-- What the book says to a call that it takes is no refusal
says_none : (b : Book) (c : Call) → (book_says b c).refusal ≡ 0
says_none b opening = refl
says_none b (start tick key weight) = refl
says_none b (end tick number) = refl
says_none b (question k1 k2 t1 t2) = refl
says_none b (bat_time k1 k2 t1 t2) = refl
says_none b (lookup_in tree t k) = refl

module _ (b : Book) (c : Call) where
  abbrev stays : ℕ → BookTurn
  stays number = record { book = b; answer = refused number }

  -- A turn by the ground of the book's own and by what it is fed
  abbrev turned : Fed → ℕ → BookTurn
  turned fed r = unless_met b (unless_fed b (book_done b c) fed) r

  refused_own : (fed : Fed) (r : ℕ) → (r ≡ 0 → ⊥) → r ≡ (turned fed r).answer.refusal
  refused_own fed zero some = absurd (some refl)
  refused_own fed (suc n) some = refl

  refused_fed : (fed : Fed) → lacked fed ≡ (turned fed 0).answer.refusal
  refused_fed neither = sym (says_none b c)
  refused_fed pages_lacked = refl
  refused_fed root_lacked = refl

  -- The first refusal of a turn: one of the book's own, else that of what it is fed
  pub refuses_own : (fed : Fed) (r : ℕ) → r ≡ book_refusal b c → (r ≡ 0 → ⊥) → r ≡ (book_turn b c fed).answer.refusal
  unfolding book_turn
  refuses_own fed r is some = refused_own fed r some ∙ ap (λ (n : ℕ). (turned fed n).answer.refusal) is

  pub refuses_fed : (fed : Fed) (n : ℕ) → 0 ≡ book_refusal b c → n ≡ lacked fed → n ≡ (book_turn b c fed).answer.refusal
  unfolding book_turn
  refuses_fed fed n none is = is ∙ refused_fed fed ∙ ap (λ (r : ℕ). (turned fed r).answer.refusal) none

  by_refusal : (fed : Fed) (r n : ℕ) → n ≡ (turned fed r).answer.refusal → (n ≡ 0 → ⊥) → turned fed r ≡ stays n
  by_refusal fed (suc r) n is some = rw is refl
  by_refusal neither zero n is some = absurd (some (is ∙ says_none b c))
  by_refusal pages_lacked zero n is some = rw is refl
  by_refusal root_lacked zero n is some = rw is refl

  by_none : (fed : Fed) (r : ℕ) → 0 ≡ (turned fed r).answer.refusal → (r ≡ 0) × (turned fed r ≡ book_done b c)
  by_none fed (suc r) is = absurd (omega (arith, is))
  by_none neither zero is = (refl, refl)
  by_none pages_lacked zero is = absurd (omega (arith, is))
  by_none root_lacked zero is = absurd (omega (arith, is))

  pub turn_refused : (fed : Fed) (n : ℕ) → n ≡ (book_turn b c fed).answer.refusal → (n ≡ 0 → ⊥) → book_turn b c fed ≡ stays n
  unfolding book_turn
  turn_refused fed n is some = by_refusal fed (book_refusal b c) n is some

  pub turn_does : (fed : Fed) → 0 ≡ (book_turn b c fed).answer.refusal → (book_refusal b c ≡ 0) × (book_turn b c fed ≡ book_done b c)
  unfolding book_turn
  turn_does fed is = by_none fed (book_refusal b c) is

-- What the list then holds, as the book
module _ (ps : List ListedPass) (b : PassBook) (tick : ℕ) where
  pub book_ended : (number : ℕ) (d : ListedPass) → b.started ≤ length ps → number < b.started → tick < open_end → {qs : List ListedPass} → qs ≡ set ps number (ended_pass tick (get_or ps number d))
      → book_in qs (record { last = tick; started = b.started }) ≡ book_does (book_in ps b) (end tick number)
  book_ended number d room known early e =
      rw e (ap (λ (list : List Pass). record { last = tick; passes = list }) (passes_ended tick early ps number b.started d known room))

-- A refused turn
refused_in_words : (c : Call) (n : ℕ) → refused n ≡ in_words c (refused n)
refused_in_words opening n = refl
refused_in_words (start tick key weight) n = refl
refused_in_words (end tick number) n = refl
refused_in_words (question k1 k2 t1 t2) n = refl
refused_in_words (bat_time k1 k2 t1 t2) n = refl
refused_in_words (lookup_in tree t k) n = refl

pub stays_as : (ps : List ListedPass) (b : PassBook) (c : Call) (n : ℕ) {t : BookTurn} → t ≡ record { book = book_in ps b; answer = refused n }
    → TurnsAs c t (record { answer = Refused n; book = b }) ps
stays_as ps b c n e = rw e (record { answer = refused_in_words c n; book = refl })
