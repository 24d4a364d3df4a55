-- The refusal of a call that enters two points: "each list in number order", 26 of either, then 27 of either, then 28 of either. It is the lower one of the refusals that
-- each entry would get by itself.
use Prim.Native.Nat.{ℕ}
use mathlib.Core.Path.{◌≡◌, refl}
use mathlib.Core.Bool.{Bool, true, false}
use mathlib.Core.List.{List, [], ◌∷◌}
use Rattle.tree.specs.RowSteps.{Point}
use Rattle.tree.specs.Plan.{plan}
use Rattle.store.specs.declared.types.TreeName.{TreeName}
use Rattle.store.specs.Trees.{Store, tree_in}
use Rattle.store.specs.Refusals.{Ground, ◌gives◌, first_met}
use Rattle.store.specs.Writing.{Entry, plan_of, plan_spoiled, lacks_pages, lacks_root, entry_grounds}
use Rattle.room.specs.PlanGrounds.{plan_grounds}
use Rattle.refusals.specs.Grounds.{lower_of}

-- 26, 27 and 28 of one entry, and of two
abbrev of_one : (spoiled pages root : Bool) → List Ground
of_one spoiled pages root = spoiled gives 26 ∷ (pages gives 27 ∷ (root gives 28 ∷ []))

abbrev of_two : (spoiled pages root spoiled' pages' root' : Bool) → List Ground
of_two spoiled pages root spoiled' pages' root' =
    spoiled gives 26 ∷ (spoiled' gives 26 ∷ (pages gives 27 ∷ (pages' gives 27 ∷ (root gives 28 ∷ (root' gives 28 ∷ [])))))

two_lower : (a b c d e f : Bool) → first_met (of_two a b c d e f) ≡ lower_of (first_met (of_one a b c)) (first_met (of_one d e f))
unfolding first_met
-- 26 of the first entry, whatever the second gets
two_lower true b c true e f = refl
two_lower true b c false true f = refl
two_lower true b c false false true = refl
two_lower true b c false false false = refl
-- 26 of the second alone
two_lower false true c true e f = refl
two_lower false false true true e f = refl
two_lower false false false true e f = refl
-- 27 of the first, and of the second alone
two_lower false true c false true f = refl
two_lower false true c false false true = refl
two_lower false true c false false false = refl
two_lower false false true false true f = refl
two_lower false false false false true f = refl
-- 28 of the first, of the second alone, and none
two_lower false false true false false true = refl
two_lower false false true false false false = refl
two_lower false false false false false true = refl
two_lower false false false false false false = refl

module _ (s : Store) where
  -- What one entry would be refused for
  abbrev pub entry_refusal : TreeName → Point → ℕ
  entry_refusal name p = first_met (plan_grounds (tree_in s name) (plan (tree_in s name) p))

  pub two_entries : (d e : Entry) → first_met (entry_grounds s (d ∷ (e ∷ []))) ≡ lower_of (entry_refusal d.tree d.point) (entry_refusal e.tree e.point)
  two_entries d e =
      two_lower (plan_spoiled (plan_of s d)) (lacks_pages (tree_in s d.tree) (plan_of s d)) (lacks_root (tree_in s d.tree) (plan_of s d)) (plan_spoiled (plan_of s e))
      (lacks_pages (tree_in s e.tree) (plan_of s e))
      (lacks_root (tree_in s e.tree) (plan_of s e))
