-- A list of exported calls, bursts and accesses to the register block, each handed what the one before left, is such a list of the store: the numbers carry the head over.
use Prim.Native.Nat.{ℕ, zero, suc}
use native.Mathlib.Omega.{arith}
use mathlib.Core.Path.{◌≡◌, refl, ap, sym, subst, ◌∙◌}
use mathlib.Core.List.{List, [], ◌∷◌}
use lib.ListN.{length, length-replicate, length-set}
use Rattle.store.specs.declared.types.OpenPass.{OpenPass}
use Rattle.store.specs.declared.types.Head.{Head}
use Rattle.std.specs.Prelude.{Option, Some, None}
use Rattle.store.specs.declared.types.FoundPass.{FoundPass}
use Rattle.store.specs.Trees.{Store}
use Rattle.store.specs.Head.{open_limit, no_pass, pass_of}
use Rattle.store.specs.Calls.{Call, opening, start, end, question, bat_time, lookup_in}
use Rattle.store.specs.Answers.{Answered}
use Rattle.store.specs.Writing.{end_entries, enter_all, passes_without}
use Rattle.store.specs.Performing.{refusal, served, perform}
use Rattle.store.proofs.RefusedOrServed.{refused_or_served}
use Rattle.demand.specs.Bursts.{Asked, unknown_kind, asked, answer_to, store_behind, unless_refused_whole}
use Rattle.register_block.specs.Block.{Block, block_bytes, operands_of}
use Rattle.register_block.specs.Access.{Device}
use Rattle.demand.specs.Steps.{Step, refusal_of_step, asked_in, perform_step, device_after, perform_steps}
use Rattle.demand.proofs.StepsReady.{store_after_lem, long_after}
use Rattle.store.proofs.HeadLists.{closed_length}
use Rattle.refusals.proofs.RefusalParts.{none_of}
use Rattle.refusals.proofs.FoundPasses.{found_facts}
use Rattle.c_heads.specs.Heads.{field_numbers, head_numbers, numbers_of}
use Rattle.firmware.specs.Exported.{Handed, store_in, handed_back, export_all}
use Rattle.c_heads.proofs.HeadNumbers.{passes_length, numbers_length, head_back}

-- A store that is handed back and handed over again is as before
pub store_back : (s : Store) → length s.head.passes ≡ open_limit → store_in (handed_back s) ≡ s
store_back s long = ap (λ (h : Head). record { head = h; lent = s.lent }) (head_back s.head long)

-- Every call leaves a head with as many places
module _ (s : Store) (long : length s.head.passes ≡ open_limit) where
  -- The passes that an end leaves, by where the pass was found
  abbrev passes_after : ℕ → Option FoundPass → List OpenPass
  passes_after tick found = passes_without (enter_all s (end_entries tick found)).head found

  ended_places : (tick number : ℕ) → refusal s (end tick number) ≡ 0 → (found : Option FoundPass) → pass_of s.head number ≡ found
      → length (passes_after tick found) ≡ open_limit
  ended_places tick number e None f = long
  ended_places tick number e (Some found) f =
      let none = none_of s (end tick number) refl e in
      let facts = found_facts s.head number none.1.passes f in
      closed_length s.head.passes found.place s.head.count facts.inside (omega (arith, none.1.count, long)) ∙ long

  served_places : (c : Call) → refusal s c ≡ 0 → length (served s c).store.head.passes ≡ open_limit
  unfolding served
  served_places opening e = length-replicate open_limit no_pass
  served_places (start tick key weight) e = length-set s.head.passes s.head.count _ ∙ long
  served_places (end tick number) e = ended_places tick number e (pass_of s.head number) refl
  served_places (question k1 k2 t1 t2) e = long
  served_places (bat_time k1 k2 t1 t2) e = long
  served_places (lookup_in tree t k) e = long

  pub places_stay : (c : Call) → length (perform s c).store.head.passes ≡ open_limit
  places_stay c = refused_or_served (λ (a : Answered). length a.store.head.passes ≡ open_limit) s c (λ n. long) (served_places c)

-- So does every list of events, tried or refused as a whole
abbrev pub Places : Store → Type 0
Places s = length s.head.passes ≡ open_limit

event_places : (s : Store) → Places s → (e : Asked) → Places (answer_to s e).store
event_places s long unknown_kind = long
event_places s long (asked c) = places_stay s long c

events_places : (s : Store) → Places s → (es : List Asked) → Places (store_behind s es)
unfolding store_behind
events_places s long [] = long
events_places s long (e ∷ es) = events_places (answer_to s e).store (event_places s long e) es

pub tried_places : (n : ℕ) (s : Store) → Places s → (es : List Asked) → Places (unless_refused_whole n s es).store
tried_places zero s long es = events_places s long es
tried_places (suc n) s long es = long

pub exported_list : (h : Handed) → length h.numbers ≡ head_numbers → (block : Block) → length block ≡ block_bytes → (steps : List Step)
    → export_all h block steps ≡ perform_steps (record { store = store_in h; block = block }) steps
unfolding export_all perform_steps
exported_list h long block whole [] = refl
exported_list h long block whole (step ∷ steps) =
    let d : Device = record { store = store_in h; block = block } in
    let after : Device = device_after d step in
    let tried = tried_places (refusal_of_step step) (store_in h) (passes_length h.numbers field_numbers open_limit) (asked_in (operands_of block) step) in
    let places : Places after.store = subst Places (sym (store_after_lem d step whole)) tried in
    let written : length (numbers_of after.store.head) ≡ head_numbers = omega (arith, numbers_length after.store.head.passes, places) in
    ap (◌∷◌ (perform_step d step))
    (exported_list (handed_back after.store) written after.block (long_after d step whole) steps
    ∙ ap (λ (s : Store). perform_steps (record { store = s; block = after.block }) steps) (store_back after.store places))
