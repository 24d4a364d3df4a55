-- The refusal of any call but opening, one law for each part that the code tests, and what it knows before the next part.
use Prim.Native.Nat.{ℕ, zero, suc}
use native.Mathlib.Omega.{arith}
use mathlib.Core.Path.{◌≡◌, refl, ap, sym, ◌∙◌}
use mathlib.Core.Bool.{Bool, false, ◌&&◌, not}
use mathlib.Core.List.{List, ◌∷◌, ◌++◌}
use Rattle.store.specs.Trees.{Store}
use Rattle.store.specs.Head.{head_fits}
use Rattle.store.specs.Calls.{Call, is_opening}
use Rattle.store.specs.Refusals.{Ground, ◌gives◌, first_met}
use Rattle.store.specs.Grounds.{argument_grounds, state_grounds}
use Rattle.store.specs.Writing.{lends_too_little}
use Rattle.store.specs.Performing.{head_knows, opens_over_too_little, head_unfit, page_grounds, refusal}
use Rattle.store.proofs.RefusalLaws.{first_skips}
use Rattle.store.proofs.ArgumentFacts.{arguments_numbered, states_numbered}
use Rattle.refusals.specs.Grounds.{earlier, head_grounds}
use Rattle.refusals.proofs.Earlier.{earlier_both, by_first, by_second, neither}
use Rattle.refusals.proofs.HeadFacts.{HeadFacts, fits_head}

module _ (s : Store) (c : Call) (other : is_opening c ≡ false) where
  abbrev pub head_state : List Ground
  head_state = state_grounds (head_knows s.head c) c

  -- A refusal for the arguments, or 20
  abbrev pub early : ℕ
  early = earlier (first_met (argument_grounds c)) (first_met (head_grounds s))

  rest_parts : first_met (head_unfit s c ∷ (head_state ++ page_grounds s c))
      ≡ earlier (first_met (head_grounds s)) (earlier (first_met head_state) (first_met (page_grounds s c)))
  rest_parts =
      ap (λ (b : Bool). first_met ((not b && not (head_fits s)) gives 20 ∷ (head_state ++ page_grounds s c))) other
      ∙ earlier_both (head_grounds s) (head_state ++ page_grounds s c) (omega arith, tt)
      ∙ ap (earlier (first_met (head_grounds s))) (earlier_both head_state (page_grounds s c) (states_numbered (head_knows s.head c) c))

  regroup : (n m r : ℕ) → earlier n (earlier m r) ≡ earlier (earlier n m) r
  regroup zero m r = refl
  regroup (suc n) m r = refl

  pub refusal_parts : refusal s c ≡ earlier early (earlier (first_met head_state) (first_met (page_grounds s c)))
  unfolding refusal
  refusal_parts =
      first_skips (argument_grounds c) (head_unfit s c ∷ (head_state ++ page_grounds s c)) (opens_over_too_little s c)
      (ap (λ (b : Bool). b && lends_too_little s.lent) other)
      ∙ earlier_both (argument_grounds c) (head_unfit s c ∷ (head_state ++ page_grounds s c)) (arguments_numbered c)
      ∙ ap (earlier (first_met (argument_grounds c))) rest_parts
      ∙ regroup (first_met (argument_grounds c)) (first_met (head_grounds s)) (earlier (first_met head_state) (first_met (page_grounds s c)))

  -- What is known of a call that is not refused
  pub none_of : refusal s c ≡ 0 → (first_met (argument_grounds c) ≡ 0) × HeadFacts s × (first_met head_state ≡ 0) × (first_met (page_grounds s c) ≡ 0)
  none_of e =
      let parts = neither early (earlier (first_met head_state) (first_met (page_grounds s c))) (sym refusal_parts ∙ e) in
      let first = neither (first_met (argument_grounds c)) (first_met (head_grounds s)) parts.0 in
      let last = neither (first_met head_state) (first_met (page_grounds s c)) parts.1 in
      (first.0, fits_head s first.1, last.0, last.1)

  -- What the code found: the refusal of the arguments, and then of the head
  module _ {input head : ℕ} (of_input : input ≡ first_met (argument_grounds c)) (of_head : head ≡ earlier input (first_met (head_grounds s))) where
    is : head ≡ early
    is = rw (← of_input) of_head

    pub by_head : (head ≡ 0 → ⊥) → head ≡ refusal s c
    by_head some = by_first _ is some ∙ sym refusal_parts

    module _ (none : head ≡ 0) where
      both : (first_met (argument_grounds c) ≡ 0) × (first_met (head_grounds s) ≡ 0)
      both = neither (first_met (argument_grounds c)) (first_met (head_grounds s)) (sym is ∙ none)

      pub arguments_pass : first_met (argument_grounds c) ≡ 0
      arguments_pass = both.0

      pub head_passes : HeadFacts s
      head_passes = fits_head s both.1

      -- The refusal of what the head knows, and then of the pages
      module _ {state : ℕ} (of_state : state ≡ first_met head_state) where
        pub by_state : (state ≡ 0 → ⊥) → state ≡ refusal s c
        by_state some = by_second is none (by_first _ of_state some) ∙ sym refusal_parts

        pub by_pages : {pages : ℕ} → state ≡ 0 → pages ≡ first_met (page_grounds s c) → pages ≡ refusal s c
        by_pages fine e = by_second is none (by_second of_state fine e) ∙ sym refusal_parts

  -- The same where each refusal is told at once and no later part is looked at: n is what the part says that calls for one
  pub by_arguments : {n : ℕ} → n ≡ first_met (argument_grounds c) → (n ≡ 0 → ⊥) → n ≡ refusal s c
  by_arguments is some = by_head is (by_first _ refl some) some

  module _ (passed : 0 ≡ first_met (argument_grounds c)) where
    pub by_fit : {n : ℕ} → n ≡ first_met (head_grounds s) → (n ≡ 0 → ⊥) → n ≡ refusal s c
    by_fit is some = by_head passed is some

    module _ (fits : 0 ≡ first_met (head_grounds s)) where
      pub known_head : HeadFacts s
      known_head = head_passes passed fits refl

      pub by_known : {n : ℕ} → n ≡ first_met head_state → (n ≡ 0 → ⊥) → n ≡ refusal s c
      by_known is some = by_state passed fits refl is some

      pub by_entries : {n : ℕ} → 0 ≡ first_met head_state → n ≡ first_met (page_grounds s c) → n ≡ refusal s c
      by_entries fine is = by_pages passed fits refl fine refl is
