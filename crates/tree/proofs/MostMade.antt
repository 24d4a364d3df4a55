-- How many pages an entry makes, of every tree: two at most for each page below the root, and for the root a copy of it, or two halves and a new
-- root over them. An entry that adds a root entry makes one at least.
use Prim.Native.Nat.{ℕ, zero, suc, ◌+◌, ◌*◌, ◌≤◌}
use native.Mathlib.Omega.{arith}
use native.Mathlib.Decide.{ℕ_discrete}
use mathlib.Core.Path.{◌≡◌, refl, sym, ap, ◌∙◌}
use mathlib.Core.Bool.{Bool, true, false, true≢false, cond, ◌&&◌, not, and-eq-true_iff}
use mathlib.Core.List.{List}
use lib.Dec.{leb, eqb}
use lib.ListN.{length}
use borrow.Author.Tests.{leb-true, eq-eqb}
use Rattle.std.specs.Prelude.{Option, Some, None}
use Rattle.words.specs.Words.{key_limit}
use Rattle.tree.specs.Spoiled.{spoiled}
use Rattle.tree.specs.declared.types.Row.{Row}
use Rattle.tree.specs.Row.{rows_of, row_limit, copy_limit}
use Rattle.tree.specs.KeyOrder.{Placed}
use Rattle.tree.specs.TrueValue.{Search, none, one}
use Rattle.tree.specs.Fresh.{fresh_page, two_rows}
use Rattle.tree.specs.declared.types.RootChange.{RootChange}
use Rattle.tree.specs.declared.types.RootChange.TheVariants.{Added}
use Rattle.tree.specs.Tree.{Tree, page_at, put_page, level_of, root_at, root_in_use, top_level}
use Rattle.tree.specs.RowSteps.{Point, row_around, gain_rows, leaf_rows, relink_row}
use Rattle.tree.specs.declared.types.Became.{Became}
use Rattle.tree.specs.declared.types.Became.TheVariants.{Stays, Copied, Halved}
use Rattle.tree.specs.Use.{in_use, taken_page}
use Rattle.tree.specs.Overflow.{Written, copied_rows, finish_page}
use Rattle.tree.specs.Enter.{unwritten, enter_below, enter_from, entered_as, enter_root}
use Rattle.tree.specs.Plan.{ready, descent_sound, is_halved, top_must_split, plan_root, plan}
use Rattle.tree.specs.Limits.{most_made}
use Rattle.tree.proofs.RootLaws.{root_made}
use Rattle.tree.proofs.Answered.{not_spoiled, same_ready}

-- The new pages that take a page's rows
abbrev pub new_pages : Became → ℕ
new_pages Stays = 0
new_pages (Copied c) = 1
new_pages (Halved c d) = 2

pub new_few : (b : Became) → new_pages b ≤ 2
new_few Stays = omega arith
new_few (Copied c) = omega arith
new_few (Halved c d) = omega arith

-- What is true of three outcomes is true of the one that the tests choose
of_three : (P : Written → Type 0) (a b : Bool) (x y z : Written) → P x → P y → P z → P (cond a x (cond b y z))
of_three P true b x y z p q r = p
of_three P false true x y z p q r = q
of_three P false false x y z p q r = r

finish_made : (tree : Tree) (t : ℕ) (so : Written) (page : ℕ) (rows : List Row)
    → (finish_page tree t so page rows).made ≡ so.made + new_pages (finish_page tree t so page rows).became
unfolding finish_page
finish_made tree t so page rows =
    of_three (λ (w : Written). w.made ≡ so.made + new_pages w.became) (leb (length rows) row_limit) (leb (length (copied_rows t rows)) copy_limit) _ _ _
    (omega arith) refl refl

-- From a page of a level down
pub made_below : (tree : Tree) (p : Point) (level page : ℕ)
    → (enter_from tree p level page).made ≤ 2 * level + new_pages (enter_from tree p level page).became
unfolding enter_from
made_below tree p zero page = omega (arith, finish_made tree p.tick (unwritten tree) page (leaf_rows p (rows_of (page_at tree.table page))))
made_below tree p (suc l) page = go (row_around p (rows_of (page_at tree.table page))) (λ child. made_below tree p l child)
  where
    below : ℕ → Written
    below child = enter_from tree p l child

    go : (s : Search Placed) → ((child : ℕ) → (below child).made ≤ 2 * l + new_pages (below child).became)
        → (enter_below tree p page below s).made ≤ 2 * suc l + new_pages (enter_below tree p page below s).became
    go none ih = omega (arith, finish_made tree p.tick (unwritten tree) page (gain_rows p (rows_of (page_at tree.table page))))
    go (one x) ih =
        let child : Written = below x.row.child in
        let rows : List Row = relink_row p.tick x child.became (gain_rows p (rows_of (page_at tree.table page))) in
        omega (arith, finish_made tree p.tick child page rows, ih x.row.child, new_few child.became)

-- With the root that is put over two halves, which a root at the top level must not have
with_root_lem : (tree : Tree) (t level : ℕ) (so : Written) (b : Became) → so.made ≤ 2 * level + new_pages b → level ≤ top_level
    → not (eqb level top_level && is_halved b) ≡ true → (entered_as tree t level so b).made ≤ most_made
with_root_lem tree t level so Stays h low top = omega arith
with_root_lem tree t level so (Copied c) h low top = omega (arith, root_made tree t c.page so.table so.made)
with_root_lem tree t level so (Halved c d) h low top = go (ℕ_discrete level top_level)
  where
    go : Dec (level ≡ top_level) → (entered_as tree t level so (Halved c d)).made ≤ most_made
    go (yes e) = absurd (true≢false (sym top ∙ ap (λ (b : Bool). not (b && true)) (eq-eqb level top_level e)))
    go (no n) =
        let number : ℕ = taken_page tree.used so.made in
        let new : List ℕ = fresh_page (level + 1) 0 key_limit t (two_rows t c.high c.page d.page) in
        omega (arith, root_made tree t number (put_page so.table number new) (so.made + 1))

root_few : (tree : Tree) (p : Point) (page : ℕ) → level_of tree.table page ≤ top_level → not (top_must_split tree p page) ≡ true
    → (enter_root tree p page).made ≤ most_made
unfolding enter_root
root_few tree p page low top =
    let level : ℕ = level_of tree.table page in
    let so : Written = enter_from tree p level page in
    with_root_lem tree p.tick level so so.became (made_below tree p level page) low top

-- No plan that is ready makes more
pub made_at_most : (tree : Tree) (p : Point) {made : ℕ} {root : RootChange} → plan tree p ≡ ready made root → made ≤ most_made
unfolding plan
made_at_most tree p {made} {root} e = go (root_at tree p.tick) e
  where
    at : (page : ℕ) (b : Bool)
        → (root_in_use tree page && (descent_sound tree p (level_of tree.table page) 0 key_limit page && not (top_must_split tree p page))) ≡ b
        → cond b (ready (enter_root tree p page).made (enter_root tree p page).root) spoiled ≡ ready made root → made ≤ most_made
    at page false b f = not_spoiled f
    at page true b f =
        let is_in_use = (and-eq-true_iff (root_in_use tree page) _).0 b in
        let low = ((and-eq-true_iff (in_use tree.used page) _).0 is_in_use.0).1 in
        let sound = (and-eq-true_iff (descent_sound tree p (level_of tree.table page) 0 key_limit page) _).0 is_in_use.1 in
        omega (arith, root_few tree p page (leb-true (level_of tree.table page) top_level low) sound.1, (same_ready f).0)

    go : (r : Option ℕ) → plan_root tree p r ≡ ready made root → made ≤ most_made
    go None f = not_spoiled f
    go (Some page) f = at page _ refl f

-- The pages that took a page's rows are among those made
made_least : (tree : Tree) (p : Point) (level page : ℕ) → new_pages (enter_from tree p level page).became ≤ (enter_from tree p level page).made
unfolding enter_from
made_least tree p zero page = omega (arith, finish_made tree p.tick (unwritten tree) page (leaf_rows p (rows_of (page_at tree.table page))))
made_least tree p (suc l) page = go (row_around p (rows_of (page_at tree.table page)))
  where
    below : ℕ → Written
    below child = enter_from tree p l child

    go : (s : Search Placed) → new_pages (enter_below tree p page below s).became ≤ (enter_below tree p page below s).made
    go none = omega (arith, finish_made tree p.tick (unwritten tree) page (gain_rows p (rows_of (page_at tree.table page))))
    go (one x) =
        let child : Written = below x.row.child in
        let rows : List Row = relink_row p.tick x child.became (gain_rows p (rows_of (page_at tree.table page))) in
        omega (arith, finish_made tree p.tick child page rows)

root_some : (tree : Tree) (t level : ℕ) (so : Written) (b : Became) → new_pages b ≤ so.made → (entered_as tree t level so b).root ≡ Added
    → 1 ≤ (entered_as tree t level so b).made
root_some tree t level so Stays h e = let z : ◌≡◌ {A = ℕ} 0 1 = cc in absurd (omega arith)
root_some tree t level so (Copied c) h e = omega (arith, root_made tree t c.page so.table so.made)
root_some tree t level so (Halved c d) h e =
    let number : ℕ = taken_page tree.used so.made in
    let new : List ℕ = fresh_page (level + 1) 0 key_limit t (two_rows t c.high c.page d.page) in
    omega (arith, root_made tree t number (put_page so.table number new) (so.made + 1))

pub entered_some : (tree : Tree) (p : Point) (page : ℕ) → (enter_root tree p page).root ≡ Added → 1 ≤ (enter_root tree p page).made
unfolding enter_root
entered_some tree p page =
    let level : ℕ = level_of tree.table page in
    let so : Written = enter_from tree p level page in
    root_some tree p.tick level so so.became (made_least tree p level page)

pub added_some : (tree : Tree) (p : Point) {made : ℕ} → plan tree p ≡ ready made Added → 1 ≤ made
unfolding plan
added_some tree p {made} e = go (root_at tree p.tick) e
  where
    at : (page : ℕ) (b : Bool) → cond b (ready (enter_root tree p page).made (enter_root tree p page).root) spoiled ≡ ready made Added → 1 ≤ made
    at page false f = not_spoiled f
    at page true f =
        let parts = same_ready f in
        omega (arith, entered_some tree p page parts.1, parts.0)

    go : (r : Option ℕ) → plan_root tree p r ≡ ready made Added → 1 ≤ made
    go None f = not_spoiled f
    go (Some page) f =
        at page
        (root_in_use tree page && (descent_sound tree p (level_of tree.table page) 0 key_limit page && not (top_must_split tree p page))) f
