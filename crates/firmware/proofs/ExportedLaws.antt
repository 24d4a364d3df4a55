-- Exported calls: what they say and leave, from what the calls of the store hand back.
use Prim.Native.Nat.{ℕ}
use mathlib.Core.Path.{◌≡◌, refl, ap, subst, ◌∙◌}
use mathlib.Core.List.{List}
use lib.ListN.{length, drop}
use Rattle.store.specs.declared.types.Head.{Head}
use Rattle.store.specs.declared.types.Answer.{Answer}
use Rattle.store.specs.Trees.{LentTree, Lent, Store}
use Rattle.store.specs.Lending.{lent_to_trees}
use Rattle.store.specs.Head.{open_limit}
use Rattle.store.specs.Answers.{refusal_of, values_of, Answered}
use Rattle.store.specs.Calls.{Call}
use Rattle.store.specs.Performing.{perform}
use Rattle.store.proofs.RefusedOrServed.{refused_or_served}
use Rattle.store.proofs.Outcomes.{served_answers}
use Rattle.replies.specs.declared.types.Reply.{Reply}
use Rattle.replies.specs.Replies.{RepliedAs}
use Rattle.c_heads.specs.Heads.{head_numbers, head_of, head_over}
use Rattle.c_answers.specs.Said.{number_said, Tells}
use Rattle.c_heads.proofs.HeadNumbers.{numbers_back, others_kept}
use Rattle.firmware.specs.Exported.{Handed, handed_of, store_in, handed_back, Leaves}

-- What holds of the head that was read and the slices holds of the store that was handed over
pub of_handed : (P : Store → Type 0) (h : Handed) {head : Head} → head ≡ head_of h.numbers → P (record { head = head; lent = h.lent }) → P (store_in h)
of_handed P h e = subst (λ (x : Head). P (record { head = x; lent = h.lent })) e

-- What holds of the words that a call leaves in the memory that it is handed holds of the slices that this memory is made of
pub handed_on : (P : Handed → Type 0) {numbers : List ℕ} {starts ends time : LentTree} → P (record { numbers = numbers; lent = lent_to_trees starts ends time })
    → {start_table start_roots end_table end_roots time_table time_roots : List ℕ} → start_table ≡ starts.table → start_roots ≡ starts.roots
    → end_table ≡ ends.table → end_roots ≡ ends.roots → time_table ≡ time.table → time_roots ≡ time.roots
    → P (handed_of numbers start_table start_roots end_table end_roots time_table time_roots)
handed_on P is a b d e f g = rw (a, b, d, e, f, g) is

-- A reading call
pub told : (c : Call) (h : Handed) {head : Head} → head ≡ head_of h.numbers → {a : Answer} → a ≡ (perform (record { head = head; lent = h.lent }) c).answer
    → {r : ℕ} {before after : List ℕ} → Tells a r before after → Tells (perform (store_in h) c).answer r before after
told c h of_head {a} e {r} {before} {after} =
    subst (λ (x : Answer). Tells x r before after) (of_handed (λ (s : Store). a ≡ (perform s c).answer) h of_head e)

-- A writing call
pub replied_in : (c : Call) (h : Handed) {head : Head} → head ≡ head_of h.numbers → {reply : Reply} {lent : Lent}
    → RepliedAs (perform (record { head = head; lent = h.lent }) c) reply lent → RepliedAs (perform (store_in h) c) reply lent
replied_in c h of_head {reply} {lent} = of_handed (λ (s : Store). RepliedAs (perform s c) reply lent) h of_head

-- A call that refuses leaves the store as it was
call_unchanged : (s : Store) (c : Call) → (refusal_of (perform s c).answer ≡ 0 → ⊥) → (perform s c).store ≡ s
call_unchanged s c =
    refused_or_served (λ (a : Answered). (refusal_of a.answer ≡ 0 → ⊥) → a.store ≡ s) s c (λ n some. refl) (λ e some. absurd (some (served_answers s c)))

-- A head that is written where it was read from
pub handed_again : (h : Handed) → length h.numbers ≡ head_numbers → handed_back (store_in h) ≡ h
handed_again h long = ap (λ (ns : List ℕ). record { numbers = ns; lent = h.lent }) (numbers_back h.numbers long)

-- A call leaves the passes from a place on as they were
pub record KeepsFrom (places : ℕ) (before after : Head) : Type 0 where
  pub full : length after.passes ≡ open_limit
  pub rest : drop places after.passes ≡ drop places before.passes

-- A head is written in the place of the one before it, its passes as far as they may have changed
pub written_back : (before : Handed) → length before.numbers ≡ head_numbers → (s : Store) {places : ℕ} → KeepsFrom places (store_in before).head s.head
    → {head : Head} → head ≡ s.head → {lent : Lent} → lent ≡ s.lent
    → {numbers : List ℕ} → numbers ≡ head_over before.numbers places head → record { numbers = numbers; lent = lent } ≡ handed_back s
written_back before long s {places} kept is lent_is put =
    let numbers_are =
    put ∙ ap (head_over before.numbers places) is ∙ others_kept before.numbers s.head places long kept.full kept.rest in
    λ i. record { numbers = numbers_are i; lent = lent_is i }

module _ (c : Call) (before : Handed) {reply : Reply} {lent : Lent} (is : RepliedAs (perform (store_in before) c) reply lent) where
  abbrev a : Answered
  a = perform (store_in before) c

  said : (r : ℕ) → r ≡ refusal_of reply.answer → r ≡ refusal_of a.answer
  said r e = e ∙ ap refusal_of is.answer

  -- The head that the call handed back was written, its passes as far as the call may have changed them. A refused call hands back the head that it got
  pub leaves : length before.numbers ≡ head_numbers → {r : ℕ} → r ≡ refusal_of reply.answer → {places : ℕ} → KeepsFrom places (store_in before).head a.store.head
      → {numbers : List ℕ} → numbers ≡ head_over before.numbers places reply.head → Leaves a r before (record { numbers = numbers; lent = lent })
  leaves long {r} e kept put =
      let left_is = written_back before long a.store kept is.head is.lent_is put in
      let unchanged : (r ≡ 0 → ⊥) → a.store ≡ store_in before = λ some. call_unchanged (store_in before) c (λ z. some (said r e ∙ z)) in
      record { refusal = said r e; left = left_is; kept = λ some. left_is ∙ ap handed_back (unchanged some) ∙ handed_again before long }

  -- The pass number that a start says
  pub number_said_lem : (old : ℕ) {n : ℕ} → n ≡ number_said old (values_of reply.answer) → n ≡ number_said old (values_of a.answer)
  number_said_lem old counts = counts ∙ ap (λ (x : Answer). number_said old (values_of x)) is.answer
