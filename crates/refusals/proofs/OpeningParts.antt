-- The refusal of an opening, one law for each way through its tests.
use Prim.Native.Nat.{ℕ}
use mathlib.Core.Path.{◌≡◌, refl, ap, sym, ◌∙◌}
use mathlib.Core.Bool.{Bool, true, false, cond, true≢false}
use Rattle.store.specs.declared.types.TreeName.{TreeName}
use Rattle.store.specs.declared.types.TreeName.TheVariants.{Starts, Ends, Time}
use Rattle.store.specs.Trees.{lent_to, Store, some_tree}
use Rattle.store.specs.Calls.{opening}
use Rattle.store.specs.Refusals.{first_met}
use Rattle.store.specs.Writing.{too_small}
use Rattle.store.specs.Performing.{refusal}
use Rattle.store.proofs.TreeLaws.{of_none}

module _ (s : Store) where
  abbrev is_small : TreeName → Bool
  is_small name = too_small (lent_to s.lent name)

  abbrev eight_if : Bool → ℕ
  eight_if b = cond b 8 0

  is_eight : refusal s opening ≡ eight_if (some_tree is_small)
  unfolding refusal first_met
  is_eight = refl

  -- One tree is enough
  pub one_small : (name : TreeName) → is_small name ≡ true → 8 ≡ refusal s opening
  one_small name e = go (some_tree is_small) refl
    where
      go : (b : Bool) → some_tree is_small ≡ b → 8 ≡ refusal s opening
      go true f = sym (is_eight ∙ ap eight_if f)
      go false f = absurd (true≢false (sym e ∙ of_none is_small f name))

  pub none_small : is_small Starts ≡ false → is_small Ends ≡ false → is_small Time ≡ false → 0 ≡ refusal s opening
  none_small starts ends time = let none : some_tree is_small ≡ false = rw (starts, ends, time) refl in sym (is_eight ∙ ap eight_if none)
