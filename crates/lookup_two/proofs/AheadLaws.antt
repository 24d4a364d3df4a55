-- The page that a lookup comes to next, looked at before it is opened: where it is not in use, or of another level, the lookup meets a spoiled page.
use Prim.Native.Nat.{ℕ, ◌-◌, ◌≤◌}
use native.Mathlib.Omega.{arith}
use mathlib.Core.Path.{◌≡◌, refl, ap, sym, ◌∙◌}
use mathlib.Core.Bool.{Bool, true, false, cond, ◌&&◌}
use lib.Dec.{leb}
use borrow.Author.Tests.{leb-false, ne_eqb}
use Rattle.std.specs.Prelude.{Some, Result, Ok, Err}
use Rattle.words.specs.Words.{key_limit}
use Rattle.words.specs.declared.value.Value.{Value}
use Rattle.words.specs.Value.{zero}
use Rattle.tree.specs.declared.types.Row.{Row}
use Rattle.tree.specs.declared.types.Held.{Held}
use Rattle.tree.specs.declared.types.SpoiledPage.{SpoiledPage}
use Rattle.tree.specs.Spoiled.{spoiled}
use Rattle.tree.specs.declared.types.Lookup.{Lookup}
use Rattle.tree.specs.Use.{in_use}
use Rattle.tree.specs.PageTest.{sound_at}
use Rattle.tree.specs.Tree.{Tree, page_at, level_of, top_level, met_at}
use Rattle.tree.specs.Lookup.{lookup_from}
use Rattle.tree.proofs.Answered.{not_spoiled}
use Rattle.tree.proofs.PathLength.{from_length}
use Rattle.roots.specs.declared.top.Top.{Top}
use Rattle.roots.specs.TopPage.{top_at, top_of}
use Rattle.roots.proofs.TopLaws.{starts}
use Rattle.live.specs.Tested.{opened}
use Rattle.lookup.specs.Descent.{onward, below, lookup_held, lookup_top}
use Rattle.lookup.proofs.HeldRanges.{opened_wide}
use Rattle.lookup.proofs.LookupLaws.{held_nothing, from_opened, way_down}
use Rattle.lookup_two.specs.Ahead.{FewPages, Begins, LeadsTo}

-- A lookup where it starts
module _ (tree : Tree) (t k : ℕ) {start : Result Top SpoiledPage} where
  pub begins_at : {top : Top} {h : Result Held SpoiledPage} → start ≡ Ok top → h ≡ opened tree t k top.level 0 key_limit top.page
      → Begins tree t k start top.level h
  begins_at {top} e is = (
    opened_wide tree t k top.level 0 key_limit top.page is,
    ap (lookup_held tree t k top.level) is ∙ from_opened tree t k top.level 0 key_limit top.page ∙ ap (lookup_top tree t k) (sym e),
  )

-- A lookup on its way from there
module _ (tree : Tree) (t k level : ℕ) (h : Result Held SpoiledPage) where
  -- With nothing added yet
  pub alone : {total : Value} → total ≡ zero → onward total 0 (lookup_held tree t k level h) ≡ lookup_held tree t k level h
  alone z = ap (λ (v : Value). onward v 0 (lookup_held tree t k level h)) z ∙ held_nothing (below tree t k level) h

-- A page more than the few below it
pub few_below : (tree : Tree) (t k level low high page : ℕ) {rest : Result Lookup SpoiledPage} → level ≤ top_level → rest ≡ lookup_from tree t k level low high page
    → FewPages rest
few_below tree t k level low high page few is = go _ is
  where
    go : (rest : Result Lookup SpoiledPage) → rest ≡ lookup_from tree t k level low high page → FewPages rest
    go (Err e) is = tt
    go (Ok l) e = omega (arith, few, (from_length tree t k level low high page (sym e)).0)

module _ (tree : Tree) (level page : ℕ) where
  -- No page of another level is met, whatever tick and key range it is met for
  abbrev Unmet : Type 0
  Unmet = (t low high : ℕ) → met_at tree t level low high page ≡ false

  pub of_other_level : (level_of tree.table page ≡ level → ⊥) → Unmet
  of_other_level other t low high = go (in_use tree.used page)
    where
      go : (used : Bool) → used && sound_at t level low high (page_at tree.table page) ≡ false
      go true = rw (ne_eqb (level_of tree.table page) level other)
      go false = refl

  -- Nor is one that could not be a root's, since every level is at most 3
  pub of_no_root : level ≤ top_level → top_of tree (Some page) ≡ spoiled → Unmet
  of_no_root few none t low high = go (in_use tree.used page) (leb (level_of tree.table page) top_level) refl refl none
    where
      go : (used low_enough : Bool) → in_use tree.used page ≡ used → leb (level_of tree.table page) top_level ≡ low_enough
          → cond (used && low_enough) (top_at page (level_of tree.table page)) spoiled ≡ spoiled → met_at tree t level low high page ≡ false
      go true true u l e = not_spoiled (sym e)
      go true false u l e = of_other_level (λ same. omega (arith, same, few, leb-false (level_of tree.table page) top_level l)) t low high
      go false low_enough u l e = ap (λ (b : Bool). b && sound_at t level low high (page_at tree.table page)) u

module _ (tree : Tree) (level : ℕ) {h : Result Held SpoiledPage} where
  module _ {held : Held} (e : h ≡ Ok held) where
    abbrev row : Row
    row = held.row

    module _ (some : level ≡ 0 → ⊥) where
      unmet_spoiled : Unmet tree (level - 1) row.child → LeadsTo tree level h level spoiled
      unmet_spoiled unmet = ((λ wide. tt), λ t k. sym (met t k))
        where
          nothing : (t k : ℕ) → spoiled ≡ opened tree t k (level - 1) row.low row.high row.child
          nothing t k = rw (unmet t row.low row.high)

          met : (t k : ℕ) → lookup_held tree t k level h ≡ spoiled
          met t k = sym (held_nothing (below tree t k level) h) ∙ way_down tree t k zero 0 level some e (nothing t k)

      pub ahead_missing : level ≤ top_level → {e : SpoiledPage} → Err e ≡ top_of tree (Some row.child) → LeadsTo tree level h level spoiled
      ahead_missing few is = unmet_spoiled (of_no_root tree (level - 1) row.child (omega arith) (sym is))

      pub ahead_other : {top : Top} → Ok top ≡ top_of tree (Some row.child) → (top.level ≡ level - 1 → ⊥) → LeadsTo tree level h level spoiled
      ahead_other {top} is other =
          let start = starts tree (Some row.child) (sym is) in
          let same : row.child ≡ top.page = cc in
          unmet_spoiled (of_other_level tree (level - 1) row.child (λ f. other (sym start.level_is ∙ ap (level_of tree.table) (sym same) ∙ f)))
