-- An entry that meets none of 26, 27 and 28 in a tree whose use fits is one that `enter` takes, and so are both entries of a call.
use Prim.Native.Nat.{ℕ}
use native.Mathlib.Omega.{arith}
use mathlib.Core.Path.{◌≡◌, refl, ap, sym, ◌∙◌}
use mathlib.Core.Bool.{true≢false}
use Rattle.std.specs.Prelude.{Result, Ok, Err}
use Rattle.tree.specs.declared.types.Plan.{Plan}
use Rattle.tree.specs.declared.types.SpoiledPage.{SpoiledPage}
use Rattle.tree.specs.Tree.{Tree}
use Rattle.tree.specs.RowSteps.{Point}
use Rattle.tree.specs.Plan.{plan}
use Rattle.tree.specs.Grown.{Room}
use Rattle.tree.proofs.Main.{UseFits, fits_takes}
use Rattle.tree.proofs.UseLaws.{left_has}
use Rattle.enter.specs.EnterRoot.{Planned}
use Rattle.store.specs.declared.types.TreeName.{TreeName}
use Rattle.store.specs.Trees.{Store, tree_in}
use Rattle.store.specs.Refusals.{first_met}
use Rattle.store.specs.Writing.{plan_spoiled}
use Rattle.store.proofs.RefusalLaws.{none_met}
use Rattle.store.proofs.Entering.{room_for}
use Rattle.room.specs.PlanGrounds.{plan_grounds}
use Rattle.refusals.specs.Grounds.{lower_of}
use Rattle.refusals.proofs.Lower.{none_lower}
use Rattle.refusals.proofs.TwoEntries.{entry_refusal}

module _ (tree : Tree) (p : Point) (fit : UseFits tree) where
  with_room : Room tree p → Planned tree p
  with_room room =
      record {
        made = room.made;
        change = room.root;
        plan_is = room.planned;
        room = left_has tree (fits_takes fit) fit.pages_held room.made room.pages;
        place = room.place;
        some = fit.some_roots;
        inside = fit.roots_listed;
        takes = fits_takes fit;
        roots_few = fit.roots_pages;
      }

  pub planned : first_met (plan_grounds tree (plan tree p)) ≡ 0 → Planned tree p
  planned e = go (plan tree p) refl
    where
      go : (r : Result Plan SpoiledPage) → plan tree p ≡ r → Planned tree p
      go (Err spoiled) is =
          let none = none_met (plan_grounds tree (plan tree p)) (omega arith, (omega arith, (omega arith, tt))) e in
          absurd (true≢false (sym (ap plan_spoiled is) ∙ none.0))
      go (Ok x) is =
          let none = none_met (plan_grounds tree (plan tree p)) (omega arith, (omega arith, (omega arith, tt))) e in
          with_room (room_for tree p x.made x.root is none.1.0 none.1.1.0)

-- Two points, and a refusal that is the lower one of theirs
pub both_planned : (s : Store) → ((name : TreeName) → UseFits (tree_in s name)) → (one other : TreeName) (p q : Point) {r : ℕ} → r ≡ 0
    → r ≡ lower_of (entry_refusal s one p) (entry_refusal s other q) → Planned (tree_in s one) p × Planned (tree_in s other) q
both_planned s fit one other p q e is =
    let none = none_lower (entry_refusal s one p) (entry_refusal s other q) (sym is ∙ e) in
    (planned (tree_in s one) p (fit one) none.0, planned (tree_in s other) q (fit other) none.1)
