-- The row that a lookup goes on from holds its key, so its key range has one.
use Prim.Native.Nat.{ℕ}
use native.Mathlib.Omega.{arith}
use mathlib.Core.Path.{◌≡◌, refl, sym, subst}
use mathlib.Core.Bool.{Bool, true, false, cond, and-eq-true_iff}
use lib.Dec.{leb, ltb}
use borrow.Author.Tests.{leb-true, ltb-true}
use Rattle.std.specs.Prelude.{Result}
use Rattle.tree.specs.declared.types.Held.{Held}
use Rattle.tree.specs.declared.types.SpoiledPage.{SpoiledPage}
use Rattle.tree.specs.Spoiled.{spoiled}
use Rattle.tree.specs.Row.{rows_of, holds}
use Rattle.tree.specs.KeyOrder.{Placed, key_order}
use Rattle.tree.specs.Tree.{Tree, page_at, met_at}
use Rattle.tree.specs.TrueValue.{Search, none, one, holding_row, held_as}
use Rattle.tree.proofs.Searches.{first_passes}
use Rattle.live.specs.Tested.{opened}
use Rattle.lookup.specs.Descent.{Wide}

pub opened_wide : (tree : Tree) (t k level low high page : ℕ) {h : Result Held SpoiledPage} → h ≡ opened tree t k level low high page → Wide h
opened_wide tree t k level low high page e = subst Wide (sym e) (go (met_at tree t level low high page))
  where
    found : (s : Search Placed) → holding_row t k (rows_of (page_at tree.table page)) ≡ s → Wide (held_as t (rows_of (page_at tree.table page)) s)
    found none e = tt
    found (one x) e =
        let h = (and-eq-true_iff (leb x.row.low k) (ltb k x.row.high)).0
        (first_passes (λ (y : Placed). holds k y.row) (key_order t (rows_of (page_at tree.table page))) e) in
        omega (arith, leb-true x.row.low k h.0, ltb-true k x.row.high h.1)

    go : (b : Bool) → Wide (cond b (held_as t (rows_of (page_at tree.table page)) (holding_row t k (rows_of (page_at tree.table page)))) spoiled)
    go true = found (holding_row t k (rows_of (page_at tree.table page))) refl
    go false = tt
