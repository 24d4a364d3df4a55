-- Document 02, Paper 4, "Bands as bat-time": what holds of it in whole lists of calls, and in any store. Of this crate's proofs about that paper open this first.
use Prim.Native.Nat.{ℕ, ◌+◌, ◌*◌, ◌^◌, ◌≤◌, ◌<◌}
use native.Mathlib.Omega.{arith}
use native.Mathlib.Nat.{mul-le-mul_left}
use mathlib.Core.Path.{◌≡◌, refl, ap, ◌∙◌}
use mathlib.Core.Bool.{Bool, true, false, cond}
use mathlib.Core.List.{List, [], ◌∷◌, ◌++◌, map}
use lib.ListN.{length, length-append}
use Rattle.words.specs.Lists.{All}
use Rattle.words.specs.Words.{open_end}
use Rattle.tree.proofs.Lists.{all_append}
use Rattle.store.specs.declared.types.TreeName.TheVariants.{Starts, Ends, Time}
use Rattle.store.specs.declared.types.Answer.TheVariants.{BatTime}
use Rattle.store.specs.Trees.{Store}
use Rattle.store.specs.Calls.{Call, opening, question, bat_time, Sent}
use Rattle.store.specs.Refusals.{Ground}
use Rattle.store.specs.Grounds.{Known, argument_grounds, state_grounds}
use Rattle.store.specs.Answers.{refusal_of, pages_said, Answered, unless_refused}
use Rattle.store.specs.Reading.{PointLookup, points_before, none_precede, lookup_before, lookups_of, pages_in}
use Rattle.store.specs.Performing.{head_knows, opens_over_too_little, head_unfit, page_grounds, refusal, served, perform, perform_all, store_after}
use Rattle.store.specs.Passes.{End, still_open, ended_at, Pass}
use Rattle.store.specs.BatTime.{shared_ticks, has_key_in, bat_time_of}
use Rattle.store.specs.Points.{end_points_of, end_time_of, points_of}
use Rattle.store.specs.Book.{Book, empty_book}
use Rattle.store.specs.Demand.{next_book}
use Rattle.store.proofs.SumLaws.{every, sum_where_less}
use Rattle.store.proofs.RefusalLaws.{first_both}
use Rattle.store.proofs.RefusedOrServed.{refused_or_served}
use Rattle.store.proofs.ArgumentFacts.{asked, arguments_numbered}
use Rattle.store.proofs.LivedTicks.{lived, shared_lived}
use Rattle.store.proofs.SharedTicks.{ticks_counted, shared_counted}
use Rattle.store.proofs.BookPasses.{BookKept, GatheredWithin, empty_kept}
use Rattle.store.proofs.Agreement.{Agrees}
use Rattle.store.proofs.LookupPages.{pages_most}
use Rattle.store.proofs.BandLookups.{four_most}
use Rattle.store.proofs.BatTimeSums.{most_fits, lived_most}
use Rattle.store.proofs.BatTimeValues.{bat_time_exact}
use Rattle.store.proofs.Outcomes.{outcome, turn_alike}
use Rattle.store.proofs.Main.{just_opened}
use Rattle.store.proofs.ClosedLives.{book_after, all_kept}

-- A store after calls from its opening on, and the book after the same calls, fed with the store's refusals
abbrev pub grown_store : (memory : Store) → List Call → Store
grown_store memory calls = store_after (perform memory opening).store calls

abbrev pub grown_book : (memory : Store) → List Call → Book
grown_book memory calls = book_after empty_book calls (map refusal_of (perform_all (perform memory opening).store calls))

pub record BandsAsBatTime : Type 0 where
  -- "The total must be exact all the same": what the store answers is the sum over the book's passes, a natural number. Demand 3 has it of every answer of a list
  pub exact : (memory : Store) → refusal memory opening ≡ 0 → (calls : List Call) → All Sent calls → (k1 k2 t1 t2 : ℕ) → t2 ≤ open_end
      → refusal (grown_store memory calls) (bat_time k1 k2 t1 t2) ≡ 0
      → (perform (grown_store memory calls) (bat_time k1 k2 t1 t2)).answer
      ≡ BatTime (bat_time_of k1 k2 t1 t2 (grown_book memory calls).passes) (pages_in (grown_store memory calls) (lookups_of (bat_time k1 k2 t1 t2)))
  -- The ticks shared by a pass and the interval are those of the interval at which the pass lives, counted one by one
  pub counted : (t1 n start : ℕ) (e : End) → ticks_counted t1 n start e ≡ shared_ticks t1 (t1 + n) start e
  -- The bound that this needs, a theorem about the book, whatever was called and whatever the store refused: with T the last tick and n passes, all passes together have
  -- gathered at most 10,000 × (64 × T + n) up to T, since at most 64 are open together
  pub gathered_within : (calls : List Call) (refusals : List ℕ) → All Sent calls
      → let b : Book = book_after empty_book calls refusals in GatheredWithin b.last b.passes
  -- So every total is below 2^52
  pub below_2_52 : (calls : List Call) (refusals : List ℕ) → All Sent calls → (k1 k2 t1 t2 : ℕ) → t1 < t2 → t2 ≤ open_end
      → bat_time_of k1 k2 t1 t2 (book_after empty_book calls refusals).passes < 2 ^ 52
  -- "n being its own points": as many as the trees of starts and of ends took together
  pub own_points : (passes : List Pass) → length (points_of Time passes) ≡ length (points_of Starts passes) + length (points_of Ends passes)
  -- In any store: what refuses a question before a page is opened refuses bat-time, its lookups are all in the tree of time, and they open at most 16 pages
  pub refused_as_question : (known : Known) (k1 k2 t1 t2 : ℕ)
      → argument_grounds (bat_time k1 k2 t1 t2) ++ state_grounds known (bat_time k1 k2 t1 t2)
      ≡ argument_grounds (question k1 k2 t1 t2) ++ state_grounds known (question k1 k2 t1 t2)
  pub in_time_alone : (k1 k2 t1 t2 : ℕ) → All (λ (l : PointLookup). l.tree ≡ Time) (lookups_of (bat_time k1 k2 t1 t2))
  pub sixteen_pages : (s : Store) (k1 k2 t1 t2 : ℕ) → pages_said (perform s (bat_time k1 k2 t1 t2)).answer ≤ 16

-- The store agrees with the book along the list
after_agrees : (s : Store) (b : Book) (calls : List Call) → All Sent calls → Agrees s b
    → Agrees (store_after s calls) (book_after b calls (map refusal_of (perform_all s calls)))
unfolding store_after perform_all
after_agrees s b [] sent a = a
after_agrees s b (c ∷ calls) sent a =
    after_agrees (perform s c).store (next_book s b c) calls sent.1 (turn_alike s b c a (outcome s b c sent.0 a)).next

total_exact : (s : Store) (b : Book) → Agrees s b → (k1 k2 t1 t2 : ℕ) → t2 ≤ open_end → refusal s (bat_time k1 k2 t1 t2) ≡ 0
    → (perform s (bat_time k1 k2 t1 t2)).answer ≡ BatTime (bat_time_of k1 k2 t1 t2 b.passes) (pages_in s (lookups_of (bat_time k1 k2 t1 t2)))
unfolding refusal served
total_exact s b a k1 k2 t1 t2 wide e =
    let c : Call = bat_time k1 k2 t1 t2 in
    let rest : List Ground = opens_over_too_little s c ∷ (head_unfit s c ∷ (state_grounds (head_knows s.head c) c ++ page_grounds s c)) in
    let none = first_both (argument_grounds c) rest (arguments_numbered c) e in
    ap (λ (n : ℕ). (unless_refused n s (served s c)).answer) e
    ∙ ap (λ (total : ℕ). BatTime total (pages_in s (lookups_of c))) (bat_time_exact s b a k1 k2 t1 t2 wide (asked k1 k2 t1 t2 none.0))

-- A pass shares no more ticks with an interval than it has lived before its end
total_most : (b : Book) → BookKept b → (k1 k2 t1 t2 : ℕ) → t1 < t2 → t2 ≤ open_end → bat_time_of k1 k2 t1 t2 b.passes < 2 ^ 52
total_most b kept k1 k2 t1 t2 some wide =
    omega (
      arith,
      sum_where_less (λ (p : Pass). p.weight * shared_ticks t1 t2 p.start p.end) (lived t2) (has_key_in k1 k2) no_more b.passes,
      lived_most b kept t2 wide every,
      most_fits,
    )
  where
    no_more : (p : Pass) → p.weight * shared_ticks t1 t2 p.start p.end ≤ lived t2 p
    no_more p = mul-le-mul_left p.weight (omega (arith, shared_lived t1 t2 p.start p.end (omega arith)))

points_together : (passes : List Pass) → length (points_of Time passes) ≡ length (points_of Starts passes) + length (points_of Ends passes)
unfolding points_of
points_together [] = refl
points_together (p ∷ passes) =
    omega (
      arith,
      length-append (end_time_of p p.end) (points_of Time passes),
      length-append (end_points_of p p.end) (points_of Ends passes),
      same p.end,
      points_together passes,
    )
  where
    same : (e : End) → length (end_time_of p e) ≡ length (end_points_of p e)
    same still_open = refl
    same (ended_at e) = refl

one_in_time : (t k : ℕ) → All (λ (l : PointLookup). l.tree ≡ Time) (lookup_before Time t k)
one_in_time t k = go (none_precede t k)
  where
    go : (none : Bool) → All (λ (l : PointLookup). l.tree ≡ Time) (cond none [] (points_before Time t k ∷ []))
    go true = tt
    go false = (refl, tt)

pages_16 : (s : Store) (k1 k2 t1 t2 : ℕ) → pages_said (perform s (bat_time k1 k2 t1 t2)).answer ≤ 16
unfolding served
pages_16 s k1 k2 t1 t2 =
    refused_or_served (λ (a : Answered). pages_said a.answer ≤ 16) s (bat_time k1 k2 t1 t2) (λ n. omega arith)
    (λ e. omega (arith, pages_most s (lookups_of (bat_time k1 k2 t1 t2)), four_most Time Time k1 k2 t1 t2))

pub bands_as_bat_time : BandsAsBatTime
bands_as_bat_time =
    let InTime : PointLookup → Type 0 = λ (l : PointLookup). l.tree ≡ Time in
    record {
      exact = λ memory takes calls sent.
          total_exact (grown_store memory calls) (grown_book memory calls)
          (after_agrees (perform memory opening).store empty_book calls sent (just_opened memory takes));
      counted = shared_counted;
      gathered_within = λ calls refusals sent. (all_kept empty_book calls refusals sent empty_kept).within;
      below_2_52 = λ calls refusals sent. total_most (book_after empty_book calls refusals) (all_kept empty_book calls refusals sent empty_kept);
      own_points = points_together;
      refused_as_question = λ known k1 k2 t1 t2. refl;
      in_time_alone = λ k1 k2 t1 t2.
          all_append InTime (lookup_before Time t2 k2) _ (one_in_time t2 k2)
          (all_append InTime (lookup_before Time t1 k2) _ (one_in_time t1 k2)
          (all_append InTime (lookup_before Time t2 k1) (lookup_before Time t1 k1) (one_in_time t2 k1) (one_in_time t1 k1)));
      sixteen_pages = pages_16;
    }
