-- What the plan says is what the entry does: of every tree, a spoiled one too.
use Prim.Native.Nat.{ℕ, ◌+◌}
use mathlib.Core.Path.{◌≡◌, refl, ap₂, ◌∙◌}
use mathlib.Core.Bool.{Bool, true, false, cond, ◌&&◌, not}
use mathlib.Core.List.{List}
use lib.Dec.{eqb}
use Rattle.std.specs.Prelude.{Option, Some, None}
use Rattle.words.specs.Words.{root_birth, key_limit}
use Rattle.tree.specs.Spoiled.{spoiled}
use Rattle.tree.specs.Fresh.{fresh_page, two_rows}
use Rattle.tree.specs.declared.types.RootChange.{RootChange}
use Rattle.tree.specs.Tree.{Tree, put_page, level_of, root_at, root_in_use, last_root}
use Rattle.tree.specs.RowSteps.{Point}
use Rattle.tree.specs.declared.types.Became.{Became}
use Rattle.tree.specs.declared.types.Became.TheVariants.{Stays, Copied, Halved}
use Rattle.tree.specs.Use.{taken_page, use_after}
use Rattle.tree.specs.Overflow.{Written}
use Rattle.tree.specs.Enter.{Entered, enter_from, with_root, entered_as, enter_root}
use Rattle.tree.specs.Plan.{ready, descent_sound, top_must_split, plan_root, plan, entered_root, enter}
use Rattle.tree.proofs.Answered.{not_spoiled, same_ready}
use Rattle.tree.proofs.RootLaws.{root_replaced, root_added}

-- The tree after an entry that makes so many pages and changes the root list so
pub record Does (before : Tree) (made : ℕ) (change : RootChange) (after : Tree) : Type 0 where
  pub used_is : after.used ≡ use_after before.used made change

abbrev Done : Tree → Entered → Type 0
Done tree so = Does tree so.made so.root so.tree

either : (tree : Tree) (b : Bool) (x y : Entered) → Done tree x → Done tree y → Done tree (cond b x y)
either tree true x y p q = p
either tree false x y p q = q

with_root_lem : (tree : Tree) (t page : ℕ) (table : List ℕ) (made : ℕ) → Done tree (with_root tree t page table made)
with_root_lem tree t page table made =
    either tree (eqb (root_birth (last_root tree)) t) (root_replaced tree t page table made) (root_added tree t page table made)
    (record { used_is = refl }) (record { used_is = refl })

entered_as_lem : (tree : Tree) (t level : ℕ) (so : Written) (became : Became) → Done tree (entered_as tree t level so became)
entered_as_lem tree t level so Stays = record { used_is = refl }
entered_as_lem tree t level so (Copied c) = with_root_lem tree t c.page so.table so.made
entered_as_lem tree t level so (Halved c d) =
    with_root_lem tree t (taken_page tree.used so.made)
    (put_page so.table (taken_page tree.used so.made) (fresh_page (level + 1) 0 key_limit t (two_rows t c.high c.page d.page)))
    (so.made + 1)

pub root_done : (tree : Tree) (p : Point) (page : ℕ)
    → Does tree (enter_root tree p page).made (enter_root tree p page).root (enter_root tree p page).tree
unfolding enter_root
root_done tree p page =
    entered_as_lem tree p.tick (level_of tree.table page) (enter_from tree p (level_of tree.table page) page)
    (enter_from tree p (level_of tree.table page) page).became

pub as_planned : (tree : Tree) (p : Point) {made : ℕ} {change : RootChange} → plan tree p ≡ ready made change
    → Does tree made change (enter tree p)
unfolding plan enter
as_planned tree p {made} {change} e = go (root_at tree p.tick) e
  where
    at : (page : ℕ) (b : Bool) → cond b (ready (enter_root tree p page).made (enter_root tree p page).root) spoiled ≡ ready made change
        → Does tree made change (enter_root tree p page).tree
    at page false f = not_spoiled f
    at page true f =
        let parts = same_ready f in
        let d = root_done tree p page in
        record { used_is = d.used_is ∙ ap₂ (use_after tree.used) parts.0 parts.1 }

    go : (root : Option ℕ) → plan_root tree p root ≡ ready made change → Does tree made change (entered_root tree p root)
    go None f = not_spoiled f
    go (Some page) f =
        at page
        (root_in_use tree page && (descent_sound tree p (level_of tree.table page) 0 key_limit page && not (top_must_split tree p page))) f
