-- Document 02, Paper 2, "The last tick is heard": what closed lives mean, of whole lists of calls and of any store. Of this crate's proofs about that paper open this first.
use Prim.Native.Nat.{ℕ, ◌≤◌, ◌<◌}
use native.Mathlib.Omega.{arith}
use mathlib.Core.Path.{◌≡◌, refl, ◌∙◌}
use mathlib.Core.Bool.{Bool, true, false, cond}
use mathlib.Core.List.{List, [], ◌∷◌, ◌++◌}
use lib.ListN.{length, get_or, length-append}
use Rattle.words.specs.Lists.{All}
use Rattle.tree.proofs.Lists.{all_map, all_append}
use Rattle.store.specs.declared.types.TreeName.TheVariants.{Starts}
use Rattle.store.specs.Trees.{Store}
use Rattle.store.specs.Calls.{Call, opening, start, end, question, bat_time, lookup_in, Sent}
use Rattle.store.specs.Refusals.{Ground}
use Rattle.store.specs.Grounds.{Known, argument_grounds, state_grounds}
use Rattle.store.specs.Answers.{Answered, pages_said}
use Rattle.store.specs.Reading.{PointLookup, points_before, none_precede, lookup_before, lookups_of}
use Rattle.store.specs.Performing.{head_knows, page_grounds, grounds, refusal, served, perform}
use Rattle.store.specs.Passes.{Pass, meets}
use Rattle.store.specs.Book.{Book, fed_by, empty_book, never_started, is_open, book_knows, book_refusal, book_does, book_turn}
use Rattle.store.proofs.RefusalLaws.{first_has, first_both, first_passes}
use Rattle.store.proofs.RefusedOrServed.{refused_or_served}
use Rattle.store.proofs.NumberOrder.{Between, rises_between, arguments_rise, pages_rise}
use Rattle.store.proofs.ArgumentFacts.{arguments_numbered, start_arguments, end_passes, end_may}
use Rattle.store.proofs.Intersections.{InBand, Intersects, meets_intersects, intersects_meets}
use Rattle.store.proofs.BookPasses.{PassKept, BookKept, empty_kept, turn_kept}
use Rattle.store.proofs.LookupPages.{pages_most}
use Rattle.store.proofs.BandLookups.{one_most}

-- The book after a list of calls, each fed with the refusal that the store gave to it, or 0
abbrev pub book_after : Book → List Call → List ℕ → Book
book_after b [] refusals = b
book_after b (c ∷ cs) [] = b
book_after b (c ∷ cs) (r ∷ rs) = book_after (book_turn b c (fed_by r)).book cs rs

-- A question counts a pass exactly if its key is in the band and it lives, from its start tick to its end tick, at some tick from t1 up to but not t2
pub record CountedExactly (k1 k2 t1 t2 : ℕ) (p : Pass) : Type 0 where
  pub only : meets k1 k2 t1 t2 p ≡ true → InBand p k1 k2 × Intersects p t1 t2
  pub always : InBand p k1 k2 → Intersects p t1 t2 → meets k1 k2 t1 t2 p ≡ true

pub record ClosedLives : Type 0 where
  -- "Totals are compared with Definition 1 over these lives": of every pass in the book, whatever was called and whatever the store refused
  pub counted : (calls : List Call) (refusals : List ℕ) → All Sent calls → (k1 k2 t1 t2 : ℕ) → t1 < t2
      → All (CountedExactly k1 k2 t1 t2) (book_after empty_book calls refusals).passes
  -- "single clicks that start and end on one tick are passes too": a book that takes a start takes its end at the same tick
  pub click : (b : Book) (tick key weight : ℕ) → Sent (start tick key weight) → book_refusal b (start tick key weight) ≡ 0
      → book_refusal (book_does b (start tick key weight)) (end tick (length b.passes)) ≡ 0
  -- "t1 = 0 looks up none": a question from tick 0 on follows paths of the tree of starts only, two at most, in any store
  pub no_ends : (k1 k2 t2 : ℕ) → All (λ (l : PointLookup). l.tree ≡ Starts) (lookups_of (question k1 k2 0 t2))
  pub eight_pages : (s : Store) (k1 k2 t2 : ℕ) → pages_said (perform s (question k1 k2 0 t2)).answer ≤ 8
  -- "Refusal 23 goes": it comes to no call of any store
  pub never_23 : (s : Store) (c : Call) → refusal s c ≡ 23 → ⊥

-- Every pass of the book is kept in bounds, so that it has a tick at which it lives
pub all_kept : (b : Book) (calls : List Call) (refusals : List ℕ) → All Sent calls → BookKept b → BookKept (book_after b calls refusals)
all_kept b [] refusals sent kept = kept
all_kept b (c ∷ cs) [] sent kept = kept
all_kept b (c ∷ cs) (r ∷ rs) sent kept = all_kept (book_turn b c (fed_by r)).book cs rs sent.1 (turn_kept b c (fed_by r) sent.0 kept)

counted_exactly : (calls : List Call) (refusals : List ℕ) → All Sent calls → (k1 k2 t1 t2 : ℕ) → t1 < t2
    → All (CountedExactly k1 k2 t1 t2) (book_after empty_book calls refusals).passes
counted_exactly calls refusals sent k1 k2 t1 t2 some =
    let after : Book = book_after empty_book calls refusals in
    all_map (PassKept after.last) (CountedExactly k1 k2 t1 t2)
    (λ p k. record { only = meets_intersects p k1 k2 t1 t2 some k.lived; always = intersects_meets p k1 k2 t1 t2 })
    after.passes (all_kept empty_book calls refusals sent empty_kept).passes

-- The pass that has just started is open
last_open : (passes : List Pass) (p : Pass) → is_open p ≡ true → is_open (get_or (passes ++ (p ∷ [])) (length passes) never_started) ≡ true
last_open [] p e = e
last_open (q ∷ passes) p e = last_open passes p e

click_taken : (b : Book) (tick key weight : ℕ) → Sent (start tick key weight) → book_refusal b (start tick key weight) ≡ 0
    → book_refusal (book_does b (start tick key weight)) (end tick (length b.passes)) ≡ 0
unfolding book_refusal
click_taken b tick key weight sent e =
    let begin : Call = start tick key weight in
    let finish : Call = end tick (length b.passes) in
    let known : Known = book_knows (book_does b begin) finish in
    let both = first_both (argument_grounds begin) (state_grounds (book_knows b begin) begin) (arguments_numbered begin) e in
    first_passes (argument_grounds finish) (state_grounds known finish) (arguments_numbered finish)
    (end_passes tick (length b.passes) (start_arguments tick key weight sent both.0).bounds.tick)
    ∙ end_may tick (length b.passes) known (record { later = omega arith; was_open = last_open b.passes _ refl })

-- A lookup of the tree of starts
in_starts : (t k : ℕ) → All (λ (l : PointLookup). l.tree ≡ Starts) (lookup_before Starts t k)
in_starts t k = go (none_precede t k)
  where
    go : (none : Bool) → All (λ (l : PointLookup). l.tree ≡ Starts) (cond none [] (points_before Starts t k ∷ []))
    go true = tt
    go false = (refl, tt)

two_lookups : (k1 k2 t2 : ℕ) → length (lookups_of (question k1 k2 0 t2)) ≤ 2
two_lookups k1 k2 t2 = omega (arith, length-append (lookup_before Starts t2 k2) (lookup_before Starts t2 k1 ++ []), length-append (lookup_before Starts t2 k1) [], one_most Starts t2 k2, one_most Starts t2 k1)

pages_from_0 : (s : Store) (k1 k2 t2 : ℕ) → pages_said (perform s (question k1 k2 0 t2)).answer ≤ 8
unfolding served
pages_from_0 s k1 k2 t2 =
    refused_or_served (λ (a : Answered). pages_said a.answer ≤ 8) s (question k1 k2 0 t2) (λ n. omega arith)
    (λ e. omega (arith, pages_most s (lookups_of (question k1 k2 0 t2)), two_lookups k1 k2 t2))

-- No ground calls for 23
abbrev Not23 : Ground → Type 0
Not23 g = g.number ≡ 23 → ⊥

states_not_23 : (known : Known) (c : Call) → All Not23 (state_grounds known c)
states_not_23 known opening = tt
states_not_23 known (start tick key weight) = (λ e. omega (arith, e), (λ e. omega (arith, e), (λ e. omega (arith, e), tt)))
states_not_23 known (end tick number) = (λ e. omega (arith, e), (λ e. omega (arith, e), tt))
states_not_23 known (question k1 k2 t1 t2) = tt
states_not_23 known (bat_time k1 k2 t1 t2) = tt
states_not_23 known (lookup_in tree t k) = tt

no_23 : (s : Store) (c : Call) → refusal s c ≡ 23 → ⊥
unfolding refusal
no_23 s c e =
    let state : List Ground = state_grounds (head_knows s.head c) c in
    let low = all_map (Between 1 5) Not23 (λ g b f. omega (arith, b.1, f)) (argument_grounds c) (rises_between 1 5 (argument_grounds c) (arguments_rise c)) in
    let high = all_map (Between 26 28) Not23 (λ g b f. omega (arith, b.0, f)) (page_grounds s c) (rises_between 26 28 (page_grounds s c) (pages_rise s c)) in
    first_has (λ (n : ℕ). n ≡ 23 → ⊥) (grounds s c)
    (all_append Not23 (argument_grounds c) _ low
    (λ f. omega (arith, f), (λ f. omega (arith, f), all_append Not23 state (page_grounds s c) (states_not_23 (head_knows s.head c) c) high)))
    22 e refl

pub closed_lives : ClosedLives
closed_lives =
    record {
      counted = counted_exactly;
      click = click_taken;
      no_ends = λ k1 k2 t2.
          all_append (λ (l : PointLookup). l.tree ≡ Starts) (lookup_before Starts t2 k2) (lookup_before Starts t2 k1 ++ []) (in_starts t2 k2)
          (all_append (λ (l : PointLookup). l.tree ≡ Starts) (lookup_before Starts t2 k1) [] (in_starts t2 k1) tt);
      eight_pages = pages_from_0;
      never_23 = no_23;
    }
