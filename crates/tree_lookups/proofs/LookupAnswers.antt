-- What a lookup finds lent to it, and answers, that is not refused for its arguments or its head.
use Prim.Native.Nat.{ℕ, ◌+◌}
use native.Mathlib.Omega.{arith}
use mathlib.Core.Path.{◌≡◌, refl, ap, ap₂, sym, subst, ◌∙◌}
use mathlib.Core.List.{[], ◌∷◌}
use Rattle.std.specs.Prelude.{Result, Ok, Err}
use Rattle.words.specs.declared.value.Value.{Value}
use Rattle.tree.specs.declared.types.Lookup.{Lookup}
use Rattle.tree.specs.declared.types.TreeUse.{TreeUse}
use Rattle.tree.specs.declared.types.SpoiledPage.{SpoiledPage}
use Rattle.store.specs.declared.types.TreeName.{TreeName}
use Rattle.store.specs.Trees.{LentTree, Store, lent_to, used_by}
use Rattle.store.specs.Lending.{tree_of}
use Rattle.tree.proofs.Main.{UseFits}
use Rattle.store.specs.Calls.{lookup_in}
use Rattle.store.specs.Refusals.{◌gives◌, first_met}
use Rattle.store.specs.Grounds.{argument_grounds}
use Rattle.store.specs.Reading.{is_spoiled, value_of, pages_of, PointLookup, found_in}
use Rattle.store.specs.Performing.{totals, served, perform}
use Rattle.refusals.specs.Grounds.{earlier, head_grounds}
use Rattle.found_answers.specs.FoundAnswers.{answer_of}
use Rattle.refusals.proofs.RefusalParts.{head_passes}
use Rattle.refusals.proofs.ReadAnswers.{pages_refuse, pages_answer}

module _ (s : Store) (tree : TreeName) (t k : ℕ) {input head : ℕ} (of_input : input ≡ first_met (argument_grounds (lookup_in tree t k)))
    (of_head : head ≡ earlier input (first_met (head_grounds s))) where
  abbrev l : PointLookup
  l = record { tree = tree; tick = t; key = k }

  -- The use of the tree fits what is lent of it
  pub lookup_fits : head ≡ 0 → {lent : LentTree} {used : TreeUse} → lent ≡ lent_to s.lent tree → used ≡ used_by s.head tree → UseFits (tree_of lent used)
  lookup_fits none is_lent is_used = subst UseFits (sym (ap₂ tree_of is_lent is_used)) ((head_passes s (lookup_in tree t k) refl of_input of_head none).trees tree)

  pub lookup_answered : head ≡ 0 → answer_of (found_in s l) ≡ (perform s (lookup_in tree t k)).answer
  unfolding first_met served
  lookup_answered none = go (found_in s l) refl
    where
      -- The one lookup's ground
      met : {found : Result Lookup SpoiledPage} → found_in s l ≡ found → first_met (is_spoiled found gives 26 ∷ []) ≡ first_met (is_spoiled (found_in s l) gives 26 ∷ [])
      met e = sym (ap (λ (x : Result Lookup SpoiledPage). first_met (is_spoiled x gives 26 ∷ [])) e)

      one : (v : Value) (pages : ℕ) → totals v pages ≡ totals v (pages + 0)
      one v pages = ap (totals v) (omega arith)

      go : (found : Result Lookup SpoiledPage) → found_in s l ≡ found → answer_of found ≡ (perform s (lookup_in tree t k)).answer
      go (Err _) e = pages_refuse s (lookup_in tree t k) refl of_input of_head none refl (met e) (λ f. omega (arith, f))
      go (Ok f) e =
          one f.value f.pages
          ∙ sym (ap (λ (x : Result Lookup SpoiledPage). totals (value_of x) (pages_of x + 0)) e)
          ∙ pages_answer s (lookup_in tree t k) refl of_input of_head none refl (met e)
