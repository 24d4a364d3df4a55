-- One law for each way through the code that plans a page.
use Prim.Native.Nat.{ℕ, zero, suc, ◌-◌}
use native.Mathlib.Numerals.{sub-one}
use native.Mathlib.Omega.{arith}
use mathlib.Core.Path.{◌≡◌, refl, ap, sym, ◌∙◌}
use mathlib.Core.List.{List}
use Rattle.std.specs.Prelude.{Some, None, Result, Ok, Err}
use Rattle.tree.specs.declared.types.SpoiledPage.{SpoiledPage}
use Rattle.tree.specs.declared.types.Row.{Row}
use Rattle.tree.specs.declared.types.TreeUse.{TreeUse}
use Rattle.plan.specs.declared.planning.Counts.{Counts}
use Rattle.plan.specs.declared.planning.Met.{Met}
use Rattle.plan.specs.declared.planning.PagePlan.{PagePlan}
use Rattle.plan.specs.PlanSteps.{met_page, plan_over, plan_lowest, plan_cut, plan_found, plan_met, plan_from}

module _ (table : List ℕ) (used : TreeUse) (t k low high page : ℕ) where
  abbrev cut : Counts → Row → Result PagePlan SpoiledPage
  cut counts row = Ok (plan_cut counts)

  abbrev above : ℕ → Counts → Row → Result PagePlan SpoiledPage
  above l counts row = plan_over counts (plan_from table used t k l row.low row.high row.child)

  pub way_spoiled : (level : ℕ) {e : SpoiledPage} → Err e ≡ met_page table used t k level low high page
      → Err e ≡ plan_from table used t k level low high page
  unfolding plan_from
  way_spoiled zero met = ap (plan_met cut) met
  way_spoiled (suc l) met = ap (plan_met (above l)) met

  module _ {m : Met} where
    pub way_lowest : (level : ℕ) → Ok m ≡ met_page table used t k level low high page → m.around ≡ None
        → Ok (plan_lowest m.counts) ≡ plan_from table used t k level low high page
    unfolding plan_from
    way_lowest zero met is = sym (ap (plan_found (cut m.counts) m.counts) is) ∙ ap (plan_met cut) met
    way_lowest (suc l) met is = sym (ap (plan_found (above l m.counts) m.counts) is) ∙ ap (plan_met (above l)) met

    pub way_cut : (level : ℕ) {row : Row} → level ≡ 0 → Ok m ≡ met_page table used t k level low high page → m.around ≡ Some row
        → Ok (plan_cut m.counts) ≡ plan_from table used t k level low high page
    unfolding plan_from
    way_cut zero h met is = sym (ap (plan_found (cut m.counts) m.counts) is) ∙ ap (plan_met cut) met
    way_cut (suc l) h met is = absurd (omega arith)

    pub way_above : (level : ℕ) {row : Row} {below : Result PagePlan SpoiledPage} → (level ≡ 0 → ⊥) → Ok m ≡ met_page table used t k level low high page
        → m.around ≡ Some row → below ≡ plan_from table used t k (level - 1) row.low row.high row.child
        → plan_over m.counts below ≡ plan_from table used t k level low high page
    unfolding plan_from
    way_above zero h met is rest = absurd (h refl)
    way_above (suc l) h met is rest =
        ap (plan_over m.counts) rest ∙ rw sub-one (sym (ap (plan_found (above l m.counts) m.counts) is) ∙ ap (plan_met (above l)) met)
