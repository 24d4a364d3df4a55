-- Where a descent starts: at the page of a root that passes its test, and what such a page has.
use Prim.Native.Nat.{ℕ, ◌≤◌}
use mathlib.Core.Path.{◌≡◌, refl, sym, ap, subst, ◌∙◌}
use mathlib.Core.Bool.{Bool, true, false, cond, and-eq-true_iff}
use mathlib.Core.List.{List}
use lib.Dec.{leb}
use borrow.Author.Tests.{le-leb, leb-true}
use Rattle.std.specs.Prelude.{Option, Some, None, Result}
use Rattle.tree.specs.declared.types.TreeUse.{TreeUse}
use Rattle.tree.specs.declared.types.SpoiledPage.{SpoiledPage}
use Rattle.tree.specs.Spoiled.{spoiled}
use Rattle.tree.specs.Tree.{Tree, level_of, top_level, root_in_use}
use Rattle.tree.specs.Use.{in_use}
use Rattle.tree.specs.Taking.{InUse}
use Rattle.tree.proofs.Answered.{not_spoiled, same_answer}
use Rattle.roots.specs.declared.top.Top.{Top}
use Rattle.roots.specs.TopPage.{top_at, top_of, TopFits}

pub top_opens : (tree : Tree) (page : ℕ) → InUse tree.used page → (level : ℕ) → level ≡ level_of tree.table page → level ≤ top_level
    → top_of tree (Some page) ≡ top_at page level
top_opens tree page h level is fits = rw (h, ← is, le-leb level top_level fits)

-- The root list does not matter once the root is known
pub top_roots : (table a b : List ℕ) (used : TreeUse) (root : Option ℕ)
    → top_of (record { table = table; roots = a; used = used }) root ≡ top_of (record { table = table; roots = b; used = used }) root
top_roots table a b used None = refl
top_roots table a b used (Some page) = refl

-- The level of such a page is one that a root may have
pub top_fits : (tree : Tree) (root : Option ℕ) {start : Result Top SpoiledPage} → start ≡ top_of tree root → TopFits start
top_fits tree root is = subst TopFits (sym is) (go root)
  where
    either : (page : ℕ) (b : Bool) → root_in_use tree page ≡ b → TopFits (cond b (top_at page (level_of tree.table page)) spoiled)
    either page true e =
        leb-true (level_of tree.table page) top_level
        ((and-eq-true_iff (in_use tree.used page) (leb (level_of tree.table page) top_level)).0 e).1
    either page false e = tt

    go : (r : Option ℕ) → TopFits (top_of tree r)
    go None = tt
    go (Some page) = either page (root_in_use tree page) refl

-- Where a descent starts at a page, that is the root's, and it passed the test
pub record Starts (tree : Tree) (root : Option ℕ) (page level : ℕ) : Type 0 where
  pub root_is : root ≡ Some page
  pub is_in_use : root_in_use tree page ≡ true
  pub level_is : level_of tree.table page ≡ level

pub starts : (tree : Tree) (root : Option ℕ) {page level : ℕ} → top_of tree root ≡ top_at page level → Starts tree root page level
starts tree root {page} {level} e = go root e
  where
    either : (r : ℕ) (b : Bool) → root_in_use tree r ≡ b → cond b (top_at r (level_of tree.table r)) spoiled ≡ top_at page level
        → Starts tree (Some r) page level
    either r true u f =
        let top = same_answer f in
        let same = ap (λ (t : Top). t.page) top in
        record {
          root_is = ap Some same;
          is_in_use = ap (root_in_use tree) (sym same) ∙ u;
          level_is = ap (level_of tree.table) (sym same) ∙ ap (λ (t : Top). t.level) top;
        }
    either r false u f = not_spoiled f

    go : (r : Option ℕ) → top_of tree r ≡ top_at page level → Starts tree r page level
    go None f = not_spoiled f
    go (Some r) f = either r (root_in_use tree r) refl f
