-- What is known of a book, whatever was called: of every pass, that its key and weight are in their range and that it started no later than the last tick, nor than it
-- ended; and of all of them, how much time they have gathered, since at most 64 are open together.
use Prim.Native.Nat.{ℕ, zero, suc, ◌+◌, ◌*◌, ◌-◌, ◌≤◌, ◌<◌, min}
use native.Mathlib.Omega.{arith}
use native.Mathlib.Nat.{mul-le-mul_left}
use mathlib.Core.Path.{◌≡◌, refl, ap}
use mathlib.Core.Bool.{true, false≢true}
use mathlib.Core.List.{List, [], ◌∷◌}
use lib.ListN.{length, get_or, length-append}
use Rattle.words.specs.Lists.{All}
use Rattle.words.specs.Words.{key_limit, open_end}
use Rattle.tree.proofs.Lists.{all_map, all_append}
use Rattle.store.specs.Head.{weight_limit, open_limit, pass_limit}
use Rattle.store.specs.Calls.{Call, opening, start, end, question, bat_time, lookup_in, Sent}
use Rattle.store.specs.Refusals.{first_met}
use Rattle.store.specs.Grounds.{argument_grounds, state_grounds}
use Rattle.store.specs.Passes.{End, Pass, still_open, ended_at, sum_where, count_where}
use Rattle.store.specs.Book.{Book, Fed, neither, pages_lacked, root_lacked, not_ended, is_open, never_started, empty_book, book_knows, book_refusal, book_done, book_does, end_pass_at, unless_fed, unless_met, book_turn}
use Rattle.store.proofs.RefusalLaws.{first_both}
use Rattle.store.proofs.ArgumentFacts.{StartArguments, MayStart, MayEnd, start_arguments, end_tick, arguments_numbered, may_start, may_end}
use Rattle.store.proofs.SumLaws.{every, sum_where_append, sum_where_one}
use Rattle.store.proofs.QuestionSums.{StartedBy}
use Rattle.store.proofs.LivedTicks.{ticks_before, lived, EndedBy, gathers}

pub record PassKept (last : ℕ) (p : Pass) : Type 0 where
  pub key : p.key < key_limit
  pub some : 1 ≤ p.weight
  pub weight : p.weight ≤ weight_limit
  pub start : p.start ≤ last
  pub lived : StartedBy p.start p.end
  pub ended : EndedBy last p.end

-- Weight times the ticks lived up to a tick, of all passes
abbrev pub gathered : ℕ → List Pass → ℕ
gathered t passes = sum_where (lived (t + 1)) every passes

-- "At most 64 are open together": a tick that goes by adds at most 64 weights, and a start adds one
abbrev pub GatheredWithin : ℕ → List Pass → Type 0
GatheredWithin t passes = gathered t passes ≤ weight_limit * (open_limit * t + length passes)

pub record BookKept (b : Book) : Type 0 where
  pub passes : All (PassKept b.last) b.passes
  pub now : b.last < open_end
  pub few : length b.passes ≤ pass_limit
  pub few_open : count_where is_open b.passes ≤ open_limit
  pub within : GatheredWithin b.last b.passes

pub empty_kept : BookKept empty_book
unfolding sum_where
empty_kept = record { passes = tt; now = omega arith; few = omega arith; few_open = omega arith; within = omega arith }

-- At a later tick the same is known
later_end : (last tick : ℕ) → last ≤ tick → (e : End) → EndedBy last e → EndedBy tick e
later_end last tick later still_open h = tt
later_end last tick later (ended_at e) h = omega arith

later_kept : (b : Book) (tick : ℕ) → b.last ≤ tick → BookKept b → All (PassKept tick) b.passes
later_kept b tick later kept =
    all_map (PassKept b.last) (PassKept tick)
    (λ p k.
    record {
      key = k.key;
      some = k.some;
      weight = k.weight;
      start = omega (arith, k.start, later);
      lived = k.lived;
      ended = later_end b.last tick later p.end k.ended;
    })
    b.passes kept.passes

all_gather : (last d : ℕ) (passes : List Pass) → All (PassKept last) passes
    → gathered (last + d) passes ≤ gathered last passes + weight_limit * (d * count_where is_open passes)
unfolding sum_where
all_gather last d [] h = omega arith
all_gather last d (p ∷ passes) h =
    omega (arith, gathers last d p.weight p.start p.end h.0.weight h.0.start h.0.ended, all_gather last d passes h.1)

-- Past the last tick only the open ones gather time
pub later_within : (b : Book) → BookKept b → (t : ℕ) → b.last ≤ t → GatheredWithin t b.passes
later_within b kept t later =
    let d = t - b.last in
    let now : t ≡ b.last + d = omega arith in
    omega (arith, ap (λ (n : ℕ). gathered n b.passes) now, all_gather b.last d b.passes kept.passes, kept.within, mul-le-mul_left d kept.few_open)

-- A start: the pass has gathered one weight, at its own tick
pub started_kept : (b : Book) (tick key weight : ℕ) → StartArguments tick key weight → MayStart (book_knows b (start tick key weight)) tick → BookKept b
    → BookKept (book_does b (start tick key weight))
started_kept b tick key weight arguments may kept =
    let p : Pass = record { key = key; weight = weight; start = tick; end = still_open } in
    let longer = length-append b.passes (p ∷ []) in
    let one : tick + 1 - tick ≡ 1 = omega arith in
    record {
      passes =
          all_append (PassKept tick) b.passes (p ∷ []) (later_kept b tick may.later kept) (
            record { key = arguments.bounds.key; some = arguments.some; weight = arguments.weight_fits; start = omega arith; lived = tt; ended = tt },
            tt,
          );
      now = arguments.bounds.tick;
      few = omega (arith, longer, may.number);
      few_open = omega (arith, may.place, sum_where_append (λ (q : Pass). 1) is_open b.passes (p ∷ []), sum_where_one (λ (q : Pass). 1) is_open p);
      within =
          omega (
            arith,
            longer,
            later_within b kept tick may.later,
            sum_where_append (lived (tick + 1)) every b.passes (p ∷ []),
            sum_where_one (lived (tick + 1)) every p,
            ap (λ (n : ℕ). weight * n) one,
            arguments.weight_fits,
          );
    }

-- The passes after one has ended
pub ended_length : (number tick : ℕ) (passes : List Pass) → length (end_pass_at number tick passes) ≡ length passes
unfolding end_pass_at
ended_length number tick [] = refl
ended_length zero tick (p ∷ passes) = refl
ended_length (suc number) tick (p ∷ passes) = ap suc (ended_length number tick passes)

module _ (tick : ℕ) where
  -- The pass that ends at a tick started by then, as all did
  one_ended : (number : ℕ) (passes : List Pass) → All (PassKept tick) passes → All (PassKept tick) (end_pass_at number tick passes)
  unfolding end_pass_at
  one_ended number [] h = tt
  one_ended zero (p ∷ passes) h =
      (record { key = h.0.key; some = h.0.some; weight = h.0.weight; start = h.0.start; lived = h.0.start; ended = omega arith }, h.1)
  one_ended (suc number) (p ∷ passes) h = (h.0, one_ended number passes h.1)

  fewer_open : (number : ℕ) (passes : List Pass) → count_where is_open (end_pass_at number tick passes) ≤ count_where is_open passes
  unfolding end_pass_at sum_where
  fewer_open number [] = omega arith
  fewer_open zero (p ∷ passes) = omega arith
  fewer_open (suc number) (p ∷ passes) = omega (arith, fewer_open number passes)

  -- and at that tick it has lived as long as if it were open
  same_gathered : (number : ℕ) (passes : List Pass) → is_open (get_or passes number never_started) ≡ true
      → gathered tick (end_pass_at number tick passes) ≡ gathered tick passes
  unfolding end_pass_at sum_where
  same_gathered number [] is = refl
  same_gathered zero (p ∷ passes) is = go p.end is
    where
      go : (e : End) → not_ended e ≡ true
          → p.weight * (min (tick + 1) (tick + 1) - p.start) + gathered tick passes ≡ p.weight * ticks_before (tick + 1) p.start e + gathered tick passes
      go still_open is =
          let same : min (tick + 1) (tick + 1) ≡ tick + 1 = omega arith in
          ap (λ (n : ℕ). p.weight * (n - p.start) + gathered tick passes) same
      go (ended_at e) is = absurd (false≢true is)
  same_gathered (suc number) (p ∷ passes) is = omega (arith, same_gathered number passes is)

pub ended_kept : (b : Book) (tick number : ℕ) → tick < open_end → MayEnd (book_knows b (end tick number)) tick → BookKept b → BookKept (book_does b (end tick number))
ended_kept b tick number fits may kept =
    let same = ended_length number tick b.passes in
    record {
      passes = one_ended tick number b.passes (later_kept b tick may.later kept);
      now = fits;
      few = omega (arith, same, kept.few);
      few_open = omega (arith, fewer_open tick number b.passes, kept.few_open);
      within = omega (arith, same, same_gathered tick number b.passes may.was_open, later_within b kept tick may.later);
    }

-- A call that the book does not refuse
done_kept : (b : Book) (c : Call) → Sent c → first_met (argument_grounds c) ≡ 0 → first_met (state_grounds (book_knows b c) c) ≡ 0 → BookKept b → BookKept (book_does b c)
done_kept b opening sent e f kept = empty_kept
done_kept b (start tick key weight) sent e f kept =
    started_kept b tick key weight (start_arguments tick key weight sent e) (may_start (book_knows b (start tick key weight)) tick key weight f) kept
done_kept b (end tick number) sent e f kept =
    ended_kept b tick number (end_tick tick number sent e) (may_end (book_knows b (end tick number)) tick number f) kept
done_kept b (question k1 k2 t1 t2) sent e f kept = kept
done_kept b (bat_time k1 k2 t1 t2) sent e f kept = kept
done_kept b (lookup_in tree t k) sent e f kept = kept

-- A turn of the book, whatever it is fed
pub turn_kept : (b : Book) (c : Call) (fed : Fed) → Sent c → BookKept b → BookKept (book_turn b c fed).book
unfolding book_turn book_refusal
turn_kept b c fed sent kept = go (book_refusal b c) refl fed
  where
    go : (n : ℕ) → book_refusal b c ≡ n → (fed : Fed) → BookKept (unless_met b (unless_fed b (book_done b c) fed) n).book
    go zero e neither =
        let both = first_both (argument_grounds c) (state_grounds (book_knows b c) c) (arguments_numbered c) e in
        done_kept b c sent both.0 both.1 kept
    go zero e pages_lacked = kept
    go zero e root_lacked = kept
    go (suc n) e fed = kept
