-- "Pages opened is the number of pages on it": of every tree, a spoiled one too, a lookup that is answered gives the length of its path.
-- Such a path has at most 4 pages.
use Prim.Native.Nat.{ℕ, zero, suc, ◌+◌, ◌≤◌}
use native.Mathlib.Omega.{arith}
use mathlib.Core.Path.{◌≡◌, refl, sym}
use mathlib.Core.Bool.{Bool, true, false, cond, and-eq-true_iff}
use mathlib.Core.List.{List}
use lib.ListN.{length}
use lib.Dec.{leb}
use borrow.Author.Tests.{leb-true}
use Rattle.std.specs.Prelude.{Option, Some, None, Result, Ok, Err}
use Rattle.words.specs.Words.{key_limit}
use Rattle.words.specs.declared.value.Value.{Value}
use Rattle.words.specs.Value as value
use Rattle.tree.specs.Spoiled.{spoiled}
use Rattle.tree.specs.declared.types.Row.{Row}
use Rattle.tree.specs.Row.{rows_of}
use Rattle.tree.specs.KeyOrder.{Placed}
use Rattle.tree.specs.PageTest.{sound_at}
use Rattle.tree.specs.TrueValue.{Search, none, one, true_value, holding_row, held_as}
use Rattle.tree.specs.declared.types.Lookup.{Lookup}
use Rattle.tree.specs.declared.types.SpoiledPage.{SpoiledPage}
use Rattle.tree.specs.Tree.{Tree, page_at, level_of, top_level, root_at, root_in_use}
use Rattle.tree.specs.Lookup.{found, plus_page, with_below, lookup_page, lookup_from, lookup_root, lookup}
use Rattle.tree.specs.Path.{path_from, path_of_root, path}
use Rattle.tree.specs.Use.{in_use}
use Rattle.tree.proofs.Answered.{not_spoiled, same_found}

-- What an answered lookup met in one page: the holding row, and what that led to
record PageOpened (t k : ℕ) (rows : List Row) (below : Row → Result Lookup SpoiledPage) (n : ℕ) : Type 0 where
  holder : Placed
  rest : Value
  pages : ℕ
  is_held : holding_row t k rows ≡ one holder
  onward : below holder.row ≡ found rest pages
  one_more : n ≡ pages + 1

module _ (t k : ℕ) (below : Row → Result Lookup SpoiledPage) {v : Value} {n : ℕ} where
  below_opened : (rows : List Row) (x : Placed) → holding_row t k rows ≡ one x
      → plus_page (true_value t rows x.row) (below x.row) ≡ found v n → PageOpened t k rows below n
  below_opened rows x h e = go (below x.row) refl e
    where
      go : (o : Result Lookup SpoiledPage) → below x.row ≡ o → plus_page (true_value t rows x.row) o ≡ found v n → PageOpened t k rows below n
      go (Err e) b f = not_spoiled f
      go (Ok o) b f = record { holder = x; rest = o.value; pages = o.pages; is_held = h; onward = b; one_more = sym (same_found f).1 }

  held_opened : (rows : List Row) → with_below below (held_as t rows (holding_row t k rows)) ≡ found v n → PageOpened t k rows below n
  held_opened rows e = go (holding_row t k rows) refl e
    where
      go : (s : Search Placed) → holding_row t k rows ≡ s → with_below below (held_as t rows s) ≡ found v n → PageOpened t k rows below n
      go none h f = not_spoiled f
      go (one x) h f = below_opened rows x h f

  page_opened : (tree : Tree) (level low high page : ℕ) → lookup_page tree t k level low high page below ≡ found v n
      → PageOpened t k (rows_of (page_at tree.table page)) below n
  page_opened tree level low high page e = go (in_use tree.used page) (sound_at t level low high (page_at tree.table page)) e
    where
      words : List ℕ
      words = page_at tree.table page

      go : (b c : Bool)
          → cond b (with_below below (cond c (held_as t (rows_of words) (holding_row t k (rows_of words))) spoiled)) spoiled ≡ found v n
          → PageOpened t k (rows_of words) below n
      go false c f = not_spoiled f
      go true false f = not_spoiled f
      go true true f = held_opened (rows_of words) f

-- From a page of a level on: as many pages as levels
pub from_length : (tree : Tree) (t k level low high page : ℕ) {v : Value} {n : ℕ} → lookup_from tree t k level low high page ≡ found v n
    → (n ≡ level + 1) × (n ≡ length (path_from tree.table t k level page))
unfolding lookup_from path_from
from_length tree t k zero low high page {n} e =
    let a = page_opened t k (λ (row : Row). found value.zero 0) tree 0 low high page e in
    let f : found value.zero 0 ≡ found a.rest a.pages = a.onward in
    let z = (same_found f).1 in
    let last : n ≡ 1 = omega (arith, a.one_more) in
    (last, last)
from_length tree t k (suc l) low high page {n} e =
    let a = page_opened t k (λ (row : Row). lookup_from tree t k l row.low row.high row.child) tree (suc l) low high page e in
    let r = a.holder.row in
    let ih = from_length tree t k l r.low r.high r.child a.onward in
    (omega (arith, a.one_more, ih.0), rw a.is_held (omega (arith, a.one_more, ih.1)))

module _ (tree : Tree) (t k : ℕ) {v : Value} {n : ℕ} where
  both : lookup tree t k ≡ found v n → (n ≤ top_level + 1) × (n ≡ length (path tree t k))
  unfolding lookup path
  both e = go (root_at tree t) e
    where
      go : (root : Option ℕ) → lookup_root tree t k root ≡ found v n → (n ≤ top_level + 1) × (n ≡ length (path_of_root tree.table t k root))
      go None f = not_spoiled f
      go (Some page) f = test (root_in_use tree page) refl f
        where
          test : (b : Bool) → root_in_use tree page ≡ b
              → cond b (lookup_from tree t k (level_of tree.table page) 0 key_limit page) spoiled ≡ found v n
              → (n ≤ top_level + 1) × (n ≡ length (path_from tree.table t k (level_of tree.table page) page))
          test false b g = not_spoiled g
          test true b g =
              let r = from_length tree t k (level_of tree.table page) 0 key_limit page g in
              let parts = (and-eq-true_iff (in_use tree.used page) (leb (level_of tree.table page) top_level)).0 b in
              let top : level_of tree.table page ≤ top_level = leb-true (level_of tree.table page) top_level parts.1 in
              (omega (arith, r.0), r.1)

  -- "Pages opened is the number of pages on it."
  pub path_length_lem : lookup tree t k ≡ found v n → n ≡ length (path tree t k)
  path_length_lem e = (both e).1

  pub pages_at_most_lem : lookup tree t k ≡ found v n → n ≤ top_level + 1
  pages_at_most_lem e = (both e).0
