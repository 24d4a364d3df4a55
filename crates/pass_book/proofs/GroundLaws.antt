-- The grounds of starts and ends, by the numbers that the code compares, and what is known where none is met.
use Prim.Native.Nat.{ℕ, ◌≤◌, ◌<◌}
use native.Mathlib.Omega.{arith}
use native.Mathlib.Decide.{dec_le}
use mathlib.Core.Path.{◌≡◌, refl, ap, sym, ◌∙◌}
use mathlib.Core.Bool.{false≢true}
use mathlib.Core.List.{List}
use lib.ListN.{length, get_or-eq_default}
use borrow.Author.Tests.{le-ltb, le-leb, lt-leb, ne_eqb}
use Rattle.words.specs.Words.{key_limit, open_end}
use Rattle.store.specs.Head.{open_limit, pass_limit, weight_limit}
use Rattle.store.specs.Calls.{start, end}
use Rattle.store.specs.Refusals.{first_met}
use Rattle.store.specs.Grounds.{argument_grounds, state_grounds}
use Rattle.store.specs.Passes.{count_where}
use Rattle.store.specs.Book.{is_open, never_started, pass_numbered, book_knows, book_refusal}
use Rattle.store.proofs.RefusalLaws.{first_both}
use Rattle.store.proofs.ArgumentFacts.{arguments_numbered, end_tick, may_start, may_end}
use Rattle.pass_list.specs.declared.types.PassBook.{PassBook}
use Rattle.pass_book.specs.declared.types.Call.{Call}
use Rattle.pass_book.specs.declared.types.Call.TheVariants as made
use Rattle.pass_list.specs.declared.types.ListedPass.{ListedPass}
use Rattle.pass_list.specs.PassList.{passes_in, book_in}
use Rattle.pass_book.specs.BookCalls.{call_of}
use Rattle.pass_list.proofs.PassLaws.{passes_length}

-- A start that its input and the last tick do not refuse
module _ (ps : List ListedPass) (b : PassBook) (room : b.started ≤ length ps) (tick key weight count : ℕ) (key_fits : key < key_limit) (some : weight ≡ 0 → ⊥) (light : weight ≤ weight_limit)
    (early : tick ≡ open_end → ⊥) (later : b.last ≤ tick) (is_count : count ≡ count_where is_open (passes_in ps b.started)) where
  pub start_all_started : count < open_limit → pass_limit ≤ b.started → 25 ≡ book_refusal (book_in ps b) (start tick key weight)
  unfolding book_refusal first_met
  start_all_started free full =
      rw (lt-leb key_limit key key_fits, ne_eqb weight 0 some, le-ltb weight_limit weight light, ne_eqb tick open_end early, le-ltb tick b.last later, ← is_count, lt-leb open_limit count free, passes_length ps b.started room, le-leb pass_limit b.started full) refl

  pub start_accepted : count < open_limit → b.started < pass_limit → 0 ≡ book_refusal (book_in ps b) (start tick key weight)
  unfolding book_refusal first_met
  start_accepted free more =
      rw (lt-leb key_limit key key_fits, ne_eqb weight 0 some, le-ltb weight_limit weight light, ne_eqb tick open_end early, le-ltb tick b.last later, ← is_count, lt-leb open_limit count free, passes_length ps b.started room, lt-leb pass_limit b.started more) refl

-- What is known of a call that the book does not refuse
module _ (ps : List ListedPass) (b : PassBook) (room : b.started ≤ length ps) (call : Call) (none : book_refusal (book_in ps b) (call_of call) ≡ 0) where
  pub started_few : (tick key weight : ℕ) → call ≡ made.Start tick key weight → tick ≤ open_end → b.started ≤ pass_limit
  unfolding book_refusal
  started_few tick key weight is wide =
      let c = start tick key weight in
      let known = book_knows (book_in ps b) c in
      let both = first_both (argument_grounds c) (state_grounds known c) (arguments_numbered c) (rw is at none) in
      omega (arith, (may_start known tick key weight both.1).number, passes_length ps b.started room)

  module _ (tick number : ℕ) (is : call ≡ made.End tick number) (wide : tick ≤ open_end) where
    both : (first_met (argument_grounds (end tick number)) ≡ 0) × (first_met (state_grounds (book_knows (book_in ps b) (end tick number)) (end tick number)) ≡ 0)
    unfolding book_refusal
    both =
        first_both (argument_grounds (end tick number)) (state_grounds (book_knows (book_in ps b) (end tick number)) (end tick number))
        (arguments_numbered (end tick number)) (rw is at none)

    pub end_early : tick < open_end
    end_early = end_tick tick number wide both.0

    pub end_known : number < b.started
    end_known =
        go (dec_le b.started number)
      where
        -- No pass has a number that was not given yet, and so none is open
        go : Dec (b.started ≤ number) → number < b.started
        go (yes beyond) =
            let none : pass_numbered (book_in ps b) number ≡ never_started =
            get_or-eq_default (passes_in ps b.started) never_started {n = number} (omega (arith, passes_length ps b.started room)) in
            absurd (false≢true (sym (ap is_open none) ∙ (may_end (book_knows (book_in ps b) (end tick number)) tick number both.1).was_open))
        go (no below) = omega (arith, below)
