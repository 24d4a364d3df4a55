-- A lookup on its way down: the definition adds from the leaf upward, the code from the root downward.
-- One law for each way through the loop's body, and for each exit in front of the loop.
use Prim.Native.Nat.{ℕ, zero, suc, ◌+◌, ◌-◌}
use native.Mathlib.Numerals.{sub-one}
use native.Mathlib.Omega.{arith}
use mathlib.Core.Path.{◌≡◌, refl, ap, sym, ◌∙◌}
use mathlib.Core.Bool.{Bool, true, false, cond, ◌&&◌}
use mathlib.Core.List.{List, []}
use Rattle.std.specs.Prelude.{Option, Some, None, Result, Ok, Err}
use Rattle.words.specs.Words.{key_limit}
use Rattle.words.specs.declared.value.Value.{Value}
use Rattle.words.specs.Value.{plus}
use Rattle.words.specs.Value as value
use Rattle.words.proofs.ValueLaws.{plus_assoc, plus_zero, plus_stored, zero_plus_plus}
use Rattle.tree.specs.declared.types.Row.{Row}
use Rattle.tree.specs.declared.types.Held.{Held}
use Rattle.tree.specs.declared.types.SpoiledPage.{SpoiledPage}
use Rattle.tree.specs.Spoiled.{spoiled}
use Rattle.tree.specs.PageTest.{sound_at}
use Rattle.tree.specs.declared.types.TreeUse.{TreeUse}
use Rattle.tree.specs.declared.types.Lookup.{Lookup}
use Rattle.tree.specs.Tree.{Tree, page_at, level_of, root_at, root_in_use}
use Rattle.tree.specs.Taking.{rootless}
use Rattle.tree.specs.Lookup.{found, plus_page, with_below, lookup_page, lookup_from, lookup_root, lookup}
use Rattle.tree.specs.Use.{in_use}
use Rattle.live.specs.Tested.{opened}
use Rattle.roots.specs.declared.top.Top.{Top}
use Rattle.roots.specs.TopPage.{top_at, top_of}
use Rattle.lookup.specs.Descent.{onward, below, lookup_held, lookup_top}

-- The same answer where total and pages are the same
pub same_found : {v w : Value} {m n : ℕ} → v ≡ w → m ≡ n → found v m ≡ found w n
same_found p q = λ i. found (p i) (q i)

-- The tests of the page's number and of its words, outside what is then looked up or inside
test_inside : (under : Row → Result Lookup SpoiledPage) (a b : Bool) (h : Result Held SpoiledPage)
    → with_below under (cond (a && b) h spoiled) ≡ cond a (with_below under (cond b h spoiled)) spoiled
test_inside under true b h = refl
test_inside under false b h = refl

-- Where nothing is added yet and no page is opened
plus_nothing : (v : Value) (rest : Result Lookup SpoiledPage) → onward value.zero 0 (plus_page v rest) ≡ plus_page v rest
plus_nothing v (Err e) = refl
plus_nothing v (Ok below) = same_found (zero_plus_plus v below.value) (omega arith)

pub held_nothing : (under : Row → Result Lookup SpoiledPage) (h : Result Held SpoiledPage) → onward value.zero 0 (with_below under h) ≡ with_below under h
held_nothing under (Err e) = refl
held_nothing under (Ok held) = plus_nothing held.value (under held.row)

-- Where a page is added to what there is already
deeper : (total : Value) (pages : ℕ) (v : Value) (rest : Result Lookup SpoiledPage) → onward total pages (plus_page v rest) ≡ onward (plus total v) (pages + 1) rest
deeper total pages v (Err e) = refl
deeper total pages v (Ok below) = same_found (sym (plus_assoc total v below.value)) (omega arith)

module _ (tree : Tree) (t k : ℕ) where
  -- The lookup from a page is the one from what it has
  pub from_opened : (level low high page : ℕ) → lookup_held tree t k level (opened tree t k level low high page) ≡ lookup_from tree t k level low high page
  unfolding lookup_from
  from_opened zero low high page =
      test_inside (below tree t k zero) (in_use tree.used page) (sound_at t zero low high (page_at tree.table page)) _
  from_opened (suc l) low high page =
      test_inside (below tree t k (suc l)) (in_use tree.used page) (sound_at t (suc l) low high (page_at tree.table page)) _

  -- At the root
  pub way_start : (level low high page : ℕ) {h : Result Held SpoiledPage} {v : Value} → v ≡ value.zero → h ≡ opened tree t k level low high page
      → onward v 0 (lookup_held tree t k level h) ≡ lookup_from tree t k level low high page
  way_start level low high page {h} z e =
      ap (λ (v : Value). onward v 0 (lookup_held tree t k level h)) z
      ∙ held_nothing (below tree t k level) h
      ∙ ap (lookup_held tree t k level) e
      ∙ from_opened level low high page

  leaf : (level : ℕ) (row : Row) → level ≡ 0 → below tree t k level row ≡ found value.zero 0
  leaf zero row h = refl
  leaf (suc l) row h = absurd (omega arith)

  pub above : (level : ℕ) (row : Row) → (level ≡ 0 → ⊥) → below tree t k level row ≡ lookup_from tree t k (level - 1) row.low row.high row.child
  above zero row h = absurd (h refl)
  above (suc l) row h = rw sub-one refl

  module _ (total : Value) (pages : ℕ) (level : ℕ) {h : Result Held SpoiledPage} where
    by_row : {held : Held} {rest : Result Lookup SpoiledPage} → h ≡ Ok held → below tree t k level held.row ≡ rest
        → onward total pages (lookup_held tree t k level h) ≡ onward total pages (plus_page held.value rest)
    by_row {held} e under =
        ap (λ (x : Result Held SpoiledPage). onward total pages (lookup_held tree t k level x)) e
        ∙ ap (λ (x : Result Lookup SpoiledPage). onward total pages (plus_page held.value x)) under

    -- The leaf: its row's true value is the last that is added
    pub way_leaf : {held : Held} → level ≡ 0 → h ≡ Ok held
        → onward total pages (lookup_held tree t k level h) ≡ found (plus total held.value) (pages + 1)
    way_leaf {held} z e =
        by_row e (leaf level held.row z)
        ∙ same_found (sym (plus_assoc total held.value value.zero) ∙ plus_zero (plus total held.value) (plus_stored total held.value)) refl

    -- A page above the leaf: its row's true value is added, and its child is opened next
    pub way_down : {held : Held} {next : Result Held SpoiledPage} → (level ≡ 0 → ⊥) → h ≡ Ok held
        → next ≡ opened tree t k (level - 1) held.row.low held.row.high held.row.child
        → onward total pages (lookup_held tree t k level h) ≡ onward (plus total held.value) (pages + 1) (lookup_held tree t k (level - 1) next)
    way_down {held} {next} some e n =
        let under = ap (lookup_held tree t k (level - 1)) n ∙ from_opened (level - 1) held.row.low held.row.high held.row.child in
        by_row e (above level held.row some ∙ sym under) ∙ deeper total pages held.value (lookup_held tree t k (level - 1) next)

-- Below the root a lookup does not look into the root list
from_roots : (table : List ℕ) (used : TreeUse) (a b : List ℕ) (t k level low high page : ℕ)
    → lookup_from (record { table = table; roots = a; used = used }) t k level low high page
    ≡ lookup_from (record { table = table; roots = b; used = used }) t k level low high page
unfolding lookup_from
from_roots table used a b t k zero low high page = refl
from_roots table used a b t k (suc l) low high page =
    ap (lookup_page (record { table = table; roots = b; used = used }) t k (suc l) low high page)
    (λ i. λ (row : Row). from_roots table used a b t k l row.low row.high row.child i)

-- Nor does it from a root that is known
root_roots : (table : List ℕ) (used : TreeUse) (a b : List ℕ) (t k : ℕ) (root : Option ℕ)
    → lookup_root (record { table = table; roots = a; used = used }) t k root ≡ lookup_root (record { table = table; roots = b; used = used }) t k root
root_roots table used a b t k None = refl
root_roots table used a b t k (Some page) =
    ap (λ (x : Result Lookup SpoiledPage). cond (root_in_use (record { table = table; roots = b; used = used }) page) x spoiled)
    (from_roots table used a b t k (level_of table page) 0 key_limit page)

-- The lookup from the root list is the one from the root that is found there
pub root_found : (tree : Tree) (t k : ℕ) (root : Option ℕ) → root ≡ root_at tree t → lookup_root (rootless tree.table tree.used) t k root ≡ lookup tree t k
unfolding lookup
root_found tree t k root e = root_roots tree.table tree.used [] tree.roots t k root ∙ ap (lookup_root tree t k) e

module _ (tree : Tree) (root : Option ℕ) {start : Result Top SpoiledPage} (is : start ≡ top_of tree root) where
  -- The lookup from the root is the one from there
  pub from_top : (t k : ℕ) → lookup_root tree t k root ≡ lookup_top tree t k start
  from_top t k = go root ∙ ap (lookup_top tree t k) (sym is)
    where
      either : (page : ℕ) (b : Bool)
          → cond b (lookup_from tree t k (level_of tree.table page) 0 key_limit page) spoiled
          ≡ lookup_top tree t k (cond b (top_at page (level_of tree.table page)) spoiled)
      either page true = refl
      either page false = refl

      go : (r : Option ℕ) → lookup_root tree t k r ≡ lookup_top tree t k (top_of tree r)
      go None = refl
      go (Some page) = either page (root_in_use tree page)
