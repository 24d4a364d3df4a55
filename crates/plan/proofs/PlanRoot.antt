-- The plan at the root: step 8 by counts, and one law for each way through the code's tests.
use Prim.Native.Nat.{ℕ, ◌+◌, ◌≤◌, ◌<◌}
use native.Mathlib.Omega.{arith}
use native.Mathlib.Decide.{dec_le}
use mathlib.Core.Path.{◌≡◌, refl, sym, ap, ◌∙◌}
use mathlib.Core.Bool.{Bool, true, false, cond, ◌&&◌, not}
use mathlib.Core.List.{List, []}
use lib.Dec.{eqb}
use lib.ListN.{take}
use Rattle.std.specs.Prelude.{Option, Some, None, Result, Ok, Err}
use Rattle.words.specs.Words.{open_end, key_limit, root_birth}
use Rattle.plan.specs.declared.planning.PagePlan.{PagePlan}
use Rattle.tree.specs.declared.types.Plan.{Plan}
use Rattle.words.specs.declared.value.Value.{Value}
use Rattle.tree.specs.declared.types.SpoiledPage.{SpoiledPage}
use Rattle.tree.specs.Spoiled.{spoiled}
use Rattle.tree.specs.declared.types.RootChange.TheVariants.{Kept, Added, Replaced}
use Rattle.tree.specs.Tree.{Tree, level_of, last_root, root_for, root_at, root_in_use, top_level}
use Rattle.tree.specs.RowSteps.{Point}
use Rattle.tree.specs.declared.types.Became.{Became}
use Rattle.tree.specs.declared.types.Became.TheVariants.{Stays, Copied, Halved}
use Rattle.tree.specs.Overflow.{Written}
use Rattle.tree.specs.Enter.{Entered, entered_as, enter_from, enter_root}
use Rattle.tree.specs.Plan.{ready, is_halved, top_must_split, descent_sound, plan_root, plan}
use Rattle.plan.specs.PlanSteps.{plan_top, plan_from}
use Rattle.roots.specs.declared.top.Top.{Top}
use Rattle.roots.specs.TopPage.{top_at, top_of}
use Rattle.tree.proofs.Answered.{not_spoiled}
use Rattle.roots.proofs.RootSearch.{root_none}
use Rattle.roots.proofs.TopLaws.{Starts, starts, top_fits, top_roots}
use Rattle.plan.proofs.PlanLaws.{parts_in, outcome, join_tests, plan_from_is}

-- What the root's own plan makes of the whole
abbrev pub plan_end : ℕ → ℕ → ℕ → Result PagePlan SpoiledPage → Result Plan SpoiledPage
plan_end top last t (Err e) = Err e
plan_end top last t (Ok planned) = plan_top planned.made planned.parts top last t

-- A root entry is added or replaces the last one, whatever else is written
root_said : (q : Bool) (a b : Entered) (m : ℕ) → a.made ≡ m → b.made ≡ m → a.root ≡ Replaced → b.root ≡ Added →
    ready m (cond q Replaced Added) ≡ ready (cond q a b).made (cond q a b).root
root_said true a b m p q r s = λ i. ready (sym p i) (sym r i)
root_said false a b m p q r s = λ i. ready (sym q i) (sym s i)

not_split : (e : Bool) (x : Result Plan SpoiledPage) → x ≡ cond (not (e && false)) x spoiled
not_split true x = refl
not_split false x = refl

split_test : (e : Bool) (x : Result Plan SpoiledPage) → cond e spoiled x ≡ cond (not (e && true)) x spoiled
split_test true x = refl
split_test false x = refl

end_test : (top last t : ℕ) (b : Bool) (x : Result PagePlan SpoiledPage) → plan_end top last t (cond b x spoiled) ≡ cond b (plan_end top last t x) spoiled
end_test top last t true x = refl
end_test top last t false x = refl

top_is : (tree : Tree) (t top : ℕ) (so : Written) (b : Became) → plan_top so.made (parts_in b) top (last_root tree) t
    ≡ cond (not (eqb top top_level && is_halved b)) (ready (entered_as tree t top so b).made (entered_as tree t top so b).root) spoiled
unfolding plan_top
top_is tree t top so Stays = not_split (eqb top top_level) (ready so.made Kept)
top_is tree t top so (Copied c) =
    root_said (eqb (root_birth (last_root tree)) t) _ _ so.made refl refl refl refl
    ∙ not_split (eqb top top_level) (ready (entered_as tree t top so (Copied c)).made (entered_as tree t top so (Copied c)).root)
top_is tree t top so (Halved c d) =
    ap (λ (x : Result Plan SpoiledPage). cond (eqb top top_level) spoiled x)
    (root_said (eqb (root_birth (last_root tree)) t) _ _ (so.made + 1) refl refl refl refl)
    ∙ split_test (eqb top top_level) (ready (entered_as tree t top so (Halved c d)).made (entered_as tree t top so (Halved c d)).root)

-- Where there is a root, there is a last entry
some_root : (roots : List ℕ) (t used : ℕ) {page : ℕ} → root_for t (take used roots) ≡ Some page → 0 < used
some_root roots t used {page} e = go (dec_le used 0)
  where
    go : Dec (used ≤ 0) → 0 < used
    go (yes h) =
        let none : root_for t (take used roots) ≡ None = root_none roots t h in
        let z : ◌≡◌ {A = ℕ} 0 1 = cc in
        absurd (omega arith)
    go (no h) = omega arith

-- A plan of a tree, from the root that the code finds and the test of its page
abbrev tested : Tree → Option ℕ → Result Top SpoiledPage
tested tree root = top_of (record { table = tree.table; roots = []; used = tree.used }) root

same_test : (tree : Tree) (root : Option ℕ) → tested tree root ≡ top_of tree root
same_test tree root = top_roots tree.table [] tree.roots tree.used root

module _ (tree : Tree) (t : ℕ) {root : Option ℕ} (found : root ≡ root_at tree t) where
  pub no_top_plan : {e : SpoiledPage} → Err e ≡ tested tree root → (k : ℕ) (v : Value) → Err e ≡ plan tree (record { tick = t; key = k; value = v })
  unfolding plan
  no_top_plan {e} is k v = sym (ap (plan_root tree p) (sym found) ∙ go root (is ∙ same_test tree root))
    where
      p : Point
      p = record { tick = t; key = k; value = v }

      either : (page : ℕ) (b rest : Bool) (whole : Result Plan SpoiledPage) → Err e ≡ cond b (top_at page (level_of tree.table page)) spoiled → cond (b && rest) whole spoiled ≡ Err e
      either page true rest whole f = not_spoiled f
      either page false rest whole f = refl

      go : (r : Option ℕ) → Err e ≡ top_of tree r → plan_root tree p r ≡ Err e
      go None f = refl
      go (Some page) f = either page (root_in_use tree page) _ _ f

  module _ {top : Top} (is : Ok top ≡ tested tree root) where
    started : Starts tree root top.page top.level
    started = starts tree root (sym (is ∙ same_test tree root))

    pub low_top : top.level ≤ top_level
    low_top = top_fits tree root (is ∙ same_test tree root)

    pub some_last : 0 < tree.used.roots
    some_last = some_root tree.roots t tree.used.roots (sym found ∙ started.root_is)

    abbrev from_level : ℕ → ℕ → Result Plan SpoiledPage
    from_level k l = plan_end l (last_root tree) t (plan_from tree.table tree.used t k l 0 key_limit top.page)

    pub opened_plan : t < open_end → (k : ℕ) (v : Value) → from_level k top.level ≡ plan tree (record { tick = t; key = k; value = v })
    unfolding plan enter_root
    opened_plan small k v =
        let p : Point = record { tick = t; key = k; value = v } in
        let own : ℕ = level_of tree.table top.page in
        let so : Written = enter_from tree p own top.page in
        let sound : Bool = descent_sound tree p own 0 key_limit top.page in
        let whole : Result Plan SpoiledPage = ready (enter_root tree p top.page).made (enter_root tree p top.page).root in
        sym (ap (plan_root tree p) (sym found ∙ started.root_is)
        ∙ ap (λ (b : Bool). cond (b && (sound && not (top_must_split tree p top.page))) whole spoiled) started.is_in_use
        ∙ sym (ap (plan_end own (last_root tree) t) (plan_from_is tree p small own 0 key_limit top.page)
        ∙ end_test own (last_root tree) t sound (Ok (outcome so))
        ∙ ap (λ (x : Result Plan SpoiledPage). cond sound x spoiled) (top_is tree t own so so.became)
        ∙ join_tests sound (not (top_must_split tree p top.page)) whole spoiled)
        ∙ ap (from_level k) started.level_is)
