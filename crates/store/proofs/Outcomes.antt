-- One call of a store that agrees with the book, by how it ends. The answer, the exact refusals and the pages opened follow, by one law each.
use Prim.Native.Nat.{ℕ, zero, suc, ◌≤◌}
use native.Mathlib.Omega.{arith}
use mathlib.Core.Path.{◌≡◌, refl, ap, sym, subst, ◌∙◌}
use mathlib.Core.List.{List, [], ◌∷◌, ◌++◌}
use mathlib.Core.Logic.{inl, inr}
use Rattle.words.specs.Lists.{All}
use Rattle.tree.specs.Grown.{InTime}
use Rattle.tree.proofs.Lists.{all_append}
use Rattle.store.specs.Trees.{Store}
use Rattle.store.specs.Calls.{Call, opening, start, end, question, bat_time, lookup_in, Sent}
use Rattle.store.specs.Refusals.{Ground, first_met}
use Rattle.store.specs.Grounds.{argument_grounds, state_grounds}
use Rattle.store.specs.Answers.{refusal_of, pages_said, Answered, unless_refused}
use Rattle.store.specs.Writing.{Entry, entries_of, entry_grounds}
use Rattle.store.specs.Reading.{is_spoiled, PointLookup, found_in, lookups_of}
use Rattle.store.specs.Performing.{page_grounds, refusal, served, perform}
use Rattle.store.specs.Book.{Book, book_part, Fed, fed_by, BookTurn, unless_fed, unless_met, book_knows, book_refusal, book_done, book_turn}
use Rattle.store.specs.Demand.{PagesLack, ListFull, Exact, ExactCall, paths_of, pages_on, most_pages, Opens}
use Rattle.store.proofs.RefusalLaws.{first_has, first_refuses, first_passes, first_both, each_none}
use Rattle.store.proofs.ArgumentFacts.{Usual, AllUsual, arguments_usual, states_usual, usual_numbered, arguments_numbered, lookup_bounds, start_arguments, end_tick, asked, may_start, may_end}
use Rattle.store.proofs.Agreement.{Agrees, same_grounds}
use Rattle.store.proofs.TreesTook.{planned}
use Rattle.store.proofs.Entering.{PlanReady, EntryCase, entry_case}
use Rattle.store.proofs.Ready.{ServedAlike, Ready, never_spoiled}
use Rattle.store.proofs.OpeningReady.{opening_ready}
use Rattle.store.proofs.StartReady.{start_ready}
use Rattle.store.proofs.EndReady.{end_ready}
use Rattle.store.proofs.LookupReady.{lookup_ready}
use Rattle.store.proofs.QuestionReady.{question_ready}
use Rattle.store.proofs.BatTimeReady.{bat_time_ready}

-- Both refuse for one ground; or the store lacks pages, or a place for a root; or both serve the call
pub data Outcome (s : Store) (b : Book) (c : Call) : Type 0 where
  refused : (n : ℕ) → refusal s c ≡ suc n → book_refusal b c ≡ suc n → Usual (suc n) → Outcome s b c
  lacking_pages : refusal s c ≡ 27 → book_refusal b c ≡ 0 → PagesLack s (entries_of s.head c) → Outcome s b c
  lacking_root : refusal s c ≡ 28 → book_refusal b c ≡ 0 → (PagesLack s (entries_of s.head c) → ⊥) → ListFull s (entries_of s.head c) → Outcome s b c
  done : refusal s c ≡ 0 → book_refusal b c ≡ 0 → (PagesLack s (entries_of s.head c) → ⊥) → (ListFull s (entries_of s.head c) → ⊥)
      → ServedAlike s b c → Outcome s b c

-- The case analysis by kind of call: a call that the book does not refuse
ready : (s : Store) (b : Book) (c : Call) → Sent c → Agrees s b → first_met (argument_grounds c) ≡ 0 → first_met (state_grounds (book_knows b c) c) ≡ 0
    → Ready s b c
ready s b opening sent a e f = opening_ready s b a
ready s b (start tick key weight) sent a e f =
    start_ready s b a tick key weight (start_arguments tick key weight sent e) (may_start (book_knows b (start tick key weight)) tick key weight f)
ready s b (end tick number) sent a e f =
    end_ready s b a tick number (end_tick tick number sent e) (may_end (book_knows b (end tick number)) tick number f)
ready s b (question k1 k2 t1 t2) sent a e f = question_ready s b a k1 k2 t1 t2 sent (asked k1 k2 t1 t2 e)
ready s b (bat_time k1 k2 t1 t2) sent a e f = bat_time_ready s b a k1 k2 t1 t2 sent (asked k1 k2 t1 t2 e)
ready s b (lookup_in tree t k) sent a e f = lookup_ready s b a tree t k (lookup_bounds tree t k sent e)

module _ (s : Store) (b : Book) (c : Call) (sent : Sent c) (a : Agrees s b) where
  abbrev book_grounds : List Ground
  book_grounds = argument_grounds c ++ state_grounds (book_knows b c) c

  usual : AllUsual book_grounds
  usual =
      all_append (λ (g : Ground). Usual g.number) (argument_grounds c) (state_grounds (book_knows b c) c) (arguments_usual c)
      (states_usual (book_knows b c) c)

  abbrev entries : List Entry
  entries = entries_of s.head c

  plans : (es : List Entry) → All (λ (e : Entry). InTime b.last e.point) es → All (PlanReady s) es
  plans [] h = tt
  plans (e ∷ es) h = (planned (a.trees e.tree) e.point h.0, plans es h.1)

  pub outcome : Outcome s b c
  unfolding book_refusal
  outcome = go (first_met book_grounds) refl
    where
      serve : first_met book_grounds ≡ 0 → Ready s b c → Outcome s b c
      serve e r = ends (entry_case s entries (plans entries r.entries))
        where
          is : refusal s c ≡ first_met (entry_grounds s entries)
          is =
              same_grounds s b a c
              ∙ first_passes book_grounds (page_grounds s c) (usual_numbered book_grounds usual) e
              ∙ each_none (λ (l : PointLookup). is_spoiled (found_in s l)) 26 (lookups_of c) (entry_grounds s entries)
              (never_spoiled s b a (lookups_of c) r.lookups)

          ends : EntryCase s (first_met (entry_grounds s entries)) entries → Outcome s b c
          ends (inl h) = lacking_pages (is ∙ h.0) e h.1
          ends (inr (inl h)) = lacking_root (is ∙ h.0) e h.1 h.2
          ends (inr (inr h)) = done (is ∙ h.0) e h.1 h.2 (r.serves h.3)

      go : (n : ℕ) → first_met book_grounds ≡ n → Outcome s b c
      go (suc n) e =
          refused n (same_grounds s b a c ∙ first_refuses book_grounds (page_grounds s c) n e) e (first_has Usual book_grounds usual n e)
      go zero e =
          let both = first_both (argument_grounds c) (state_grounds (book_knows b c) c) (arguments_numbered c) e in
          serve e (ready s b c sent a both.0 both.1)

-- The answers are the same, and the store agrees with the book afterwards too
pub record Alike (a : Answered) (turn : Fed → BookTurn) : Type 0 where
  pub answer : book_part a.answer ≡ (turn (fed_by (refusal_of a.answer))).answer
  pub next : Agrees a.store (turn (fed_by (refusal_of a.answer))).book

-- A call that is served gives no refusal
pub served_answers : (s : Store) (c : Call) → refusal_of (served s c).answer ≡ 0
unfolding served
served_answers s opening = refl
served_answers s (start tick key weight) = refl
served_answers s (end tick number) = refl
served_answers s (question k1 k2 t1 t2) = refl
served_answers s (bat_time k1 k2 t1 t2) = refl
served_answers s (lookup_in tree t k) = refl

module _ (s : Store) (b : Book) (c : Call) where
  -- By the numbers of both refusals
  abbrev AlikeAt : ℕ → ℕ → Type 0
  AlikeAt r q = Alike (unless_refused r s (served s c)) (λ (fed : Fed). unless_met b (unless_fed b (book_done b c) fed) q)

  alike_at : {r q : ℕ} → refusal s c ≡ r → book_refusal b c ≡ q → AlikeAt r q → Alike (perform s c) (book_turn b c)
  unfolding book_turn
  alike_at {r} {q} e f h = subst (λ (x : ℕ). AlikeAt x (book_refusal b c)) (sym e) (subst (AlikeAt r) (sym f) h)

  both_serve : ServedAlike s b c → AlikeAt 0 0
  both_serve h =
      let neither : unless_fed b (book_done b c) (fed_by (refusal_of (served s c).answer)) ≡ book_done b c =
      ap (λ (n : ℕ). unless_fed b (book_done b c) (fed_by n)) (served_answers s c) in
      record {
        answer = h.answer ∙ sym (ap (λ (t : BookTurn). t.answer) neither);
        next = subst (Agrees (served s c).store) (sym (ap (λ (t : BookTurn). t.book) neither)) h.next;
      }

  pub turn_alike : Agrees s b → Outcome s b c → Alike (perform s c) (book_turn b c)
  turn_alike a (refused n e f u) = alike_at e f (record { answer = refl; next = a })
  turn_alike a (lacking_pages e f h) = alike_at e f (record { answer = refl; next = a })
  turn_alike a (lacking_root e f h i) = alike_at e f (record { answer = refl; next = a })
  turn_alike a (done e f h i alike) = alike_at e f (both_serve alike)

  refusal_is : (r : ℕ) → refusal_of (unless_refused r s (served s c)).answer ≡ r
  refusal_is zero = served_answers s c
  refusal_is (suc n) = refl

  abbrev Lack : Type 0
  Lack = PagesLack s (entries_of s.head c)

  abbrev Full : Type 0
  Full = ListFull s (entries_of s.head c)

  exact_at : {r q : ℕ} → refusal s c ≡ r → book_refusal b c ≡ q → Exact r q Lack Full → ExactCall s b c
  exact_at {r} {q} e f h =
      subst (λ (x : ℕ). Exact x (book_refusal b c) Lack Full) (sym (refusal_is (refusal s c) ∙ e)) (subst (λ (x : ℕ). Exact r x Lack Full) (sym f) h)

  pub turn_exact : Outcome s b c → ExactCall s b c
  turn_exact (refused n e f u) =
      exact_at e f
      (record {
        never_20 = u.not_20;
        never_26 = u.not_26;
        only_27 = λ g. absurd (u.not_27 g);
        always_27 = λ q h. absurd (omega (arith, q));
        only_28 = λ g. absurd (u.not_28 g);
        always_28 = λ q h i. absurd (omega (arith, q));
      })
  turn_exact (lacking_pages e f lack) =
      exact_at e f
      (record {
        never_20 = λ g. omega arith;
        never_26 = λ g. omega arith;
        only_27 = λ g. (refl, lack);
        always_27 = λ q h. refl;
        only_28 = λ g. absurd (omega (arith, g));
        always_28 = λ q enough i. absurd (enough lack);
      })
  turn_exact (lacking_root e f enough full) =
      exact_at e f
      (record {
        never_20 = λ g. omega arith;
        never_26 = λ g. omega arith;
        only_27 = λ g. absurd (omega (arith, g));
        always_27 = λ q lack. absurd (enough lack);
        only_28 = λ g. (refl, enough, full);
        always_28 = λ q h i. refl;
      })
  turn_exact (done e f enough placed alike) =
      exact_at e f
      (record {
        never_20 = λ g. omega arith;
        never_26 = λ g. omega arith;
        only_27 = λ g. absurd (omega (arith, g));
        always_27 = λ q lack. absurd (enough lack);
        only_28 = λ g. absurd (omega (arith, g));
        always_28 = λ q h full. absurd (placed full);
      })

  abbrev SaysAt : ℕ → Type 0
  SaysAt r =
      (refusal_of (unless_refused r s (served s c)).answer ≡ 0 → pages_said (unless_refused r s (served s c)).answer ≡ pages_on (paths_of s c))
      × (pages_said (unless_refused r s (served s c)).answer ≤ most_pages c)

  refused_says : (n : ℕ) → SaysAt (suc n)
  refused_says n = (λ e. absurd (omega (arith, e)), omega arith)

  says_at : {r : ℕ} → refusal s c ≡ r → SaysAt r → Opens s c
  says_at e h = let says = subst SaysAt (sym e) h in record { said = says.0; most = says.1 }

  pub turn_opens : Outcome s b c → Opens s c
  turn_opens (refused n e f u) = says_at e (refused_says n)
  turn_opens (lacking_pages e f h) = says_at e (refused_says 26)
  turn_opens (lacking_root e f h i) = says_at e (refused_says 27)
  turn_opens (done e f h i alike) = says_at e (λ g. alike.said, omega (arith, alike.said, alike.most))
