-- What a call that only reads answers, by the refusal of its arguments and its head, and then by that of its lookups.
use Prim.Native.Nat.{ℕ}
use mathlib.Core.Path.{◌≡◌, refl, ap, sym}
use mathlib.Core.Bool.{false}
use Rattle.store.specs.declared.types.Answer.{Answer}
use Rattle.store.specs.declared.types.Answer.TheVariants.{Refused}
use Rattle.store.specs.Trees.{Store}
use Rattle.store.specs.Calls.{Call, is_opening}
use Rattle.store.specs.Refusals.{first_met}
use Rattle.store.specs.Grounds.{argument_grounds, state_grounds}
use Rattle.store.specs.Answers.{Answered}
use Rattle.store.specs.Performing.{head_knows, page_grounds, served, perform}
use Rattle.refusals.specs.Grounds.{earlier, head_grounds}
use Rattle.refusals.proofs.RefusalParts.{by_head, by_pages}
use Rattle.refusals.proofs.Outcomes.{call_refused, call_served}

module _ (s : Store) (c : Call) (other : is_opening c ≡ false) {input head : ℕ} (of_input : input ≡ first_met (argument_grounds c))
    (of_head : head ≡ earlier input (first_met (head_grounds s))) where
  abbrev answer_is : Answered → Answer
  answer_is a = a.answer

  pub head_refuses : (head ≡ 0 → ⊥) → Refused head ≡ (perform s c).answer
  head_refuses some = sym (ap answer_is (call_refused s c (by_head s c other of_input of_head some) some))

  -- What the head knows refuses no call that only reads
  module _ (none : head ≡ 0) (free : 0 ≡ first_met (state_grounds (head_knows s.head c) c)) where
    pub pages_refuse : {n : ℕ} → n ≡ first_met (page_grounds s c) → (n ≡ 0 → ⊥) → Refused n ≡ (perform s c).answer
    pages_refuse is some = sym (ap answer_is (call_refused s c (by_pages s c other of_input of_head none free refl is) some))

    pub pages_answer : 0 ≡ first_met (page_grounds s c) → (served s c).answer ≡ (perform s c).answer
    pages_answer is = sym (ap answer_is (call_served s c (by_pages s c other of_input of_head none free refl is) refl))
