-- A lookup in the pages that hold a tree at a tick: it meets no spoiled page, opens one page a level, and finds what the model finds.
-- Its path is told by the tree alone.
use Prim.Native.Nat.{ℕ, zero, suc, ◌+◌, ◌%◌, ◌^◌, ◌≤◌, ◌<◌}
use native.Mathlib.Omega.{arith}
use mathlib.Core.Path.{◌≡◌, refl, sym, ap, ap₂, ◌∙◌}
use mathlib.Core.Bool.{Bool, true, false, cond, ◌&&◌}
use mathlib.Core.List.{List, [], ◌∷◌, ◌++◌}
use lib.Dec.{leb, ltb}
use lib.ListN.{length}
use Rattle.std.specs.Prelude.{Result}
use Rattle.words.specs.declared.value.Value.{Value}
use Rattle.words.specs.Value as value
use Rattle.words.specs.Value.{plus}
use Rattle.words.proofs.Measure.{Measure}
use Rattle.words.proofs.ValueLaws.{Stored, plus_stored}
use Rattle.words.specs.Words.{open_end}
use Rattle.tree.specs.Spoiled.{spoiled}
use Rattle.tree.specs.declared.types.Row.{Row}
use Rattle.tree.specs.Row.{live, rows_of, row_limit}
use Rattle.tree.specs.KeyOrder.{Placed}
use Rattle.tree.specs.PageTest.{sound_at}
use Rattle.tree.specs.TrueValue.{Search, true_value, holding_row, held_as}
use Rattle.tree.proofs.Lists.{sum_same}
use Rattle.tree.proofs.TrueValueUpTo.{true_up_to}
use Rattle.tree.specs.declared.types.Lookup.{Lookup}
use Rattle.tree.specs.declared.types.SpoiledPage.{SpoiledPage}
use Rattle.tree.specs.Tree as ours
use Rattle.tree.specs.Tree.{page_at}
use Rattle.tree.specs.Lookup.{found, plus_page, with_below, lookup_page, lookup_from}
use Rattle.tree.specs.Path.{path_below, path_from}
use Rattle.tree.specs.Taking.{InUse}
use Rattle.tree.proofs.ModelPages.{◌≈◌, Entry, Page, only_if}
use Rattle.tree.proofs.ModelTrees.{Slot, Tree, Chain, Held, Holds, sum_slots, lookup_slots, lookup_tree}
use Rattle.tree.proofs.ReplacedRows.{tests}
use Rattle.tree.proofs.HeldTrees.{chain_le}
use Rattle.tree.proofs.SlotCuts.{Cut, cut, cut_at}
use Rattle.tree.proofs.PageKinds.{Leaf}
use Rattle.tree.proofs.View.{view_table, sum_live_view}
use Rattle.tree.proofs.RowViews.{FoundRow, holding_one}
use Rattle.tree.proofs.SoundPages.{live_tile, live_start, held_sound}

-- The path in a tree of slots: the child of the slot that holds the key, and on
abbrev pub slots_path : {A : Type 0} → ℕ → (ℕ → A → List ℕ) → List (Slot A) → List ℕ
slots_path k next [] = []
slots_path k next (y ∷ ys) = cond (leb y.entry.low k && ltb k y.entry.high) (next y.entry.page y.below) (slots_path k next ys)

abbrev pub tree_path : (n : ℕ) → ℕ → ℕ → Tree n → List ℕ
tree_path zero k page tr = page ∷ []
tree_path (suc n) k page tr = page ∷ slots_path k (tree_path n k) tr

-- Around the slot that holds the key
module _ {A : Type 0} (P : ℕ → ℕ → ℕ → A → Type 0) (k : ℕ) where
  path_cut : (next : ℕ → A → List ℕ) (lo : ℕ) (xs : List (Slot A)) (y : Slot A) (ys : List (Slot A)) → Chain P lo y.entry.low xs
      → y.entry.low ≤ k → k < y.entry.high → slots_path k next (xs ++ (y ∷ ys)) ≡ next y.entry.page y.below
  path_cut next lo [] y ys c i j = simp tests
  path_cut next lo (x ∷ xs) y ys c i j =
      let l = chain_le P x.entry.high y.entry.low xs c.rest in
      let a : x.entry.low ≤ k = omega arith in
      let b : x.entry.high ≤ k = omega arith in
      simp tests (path_cut next x.entry.high xs y ys c.rest i j)

  lookup_above : (F : A → ℕ) (lo hi : ℕ) (ys : List (Slot A)) → Chain P lo hi ys → k < lo
      → lookup_slots k F ys ≡ sum_slots (λ e. only_if (leb e.low k) e.amount) ys
  lookup_above F lo hi [] c h = refl
  lookup_above F lo hi (y ∷ ys) c h =
      let a : k < y.entry.low = omega arith in
      simp tests (omega (arith, lookup_above F y.entry.high hi ys c.rest (omega arith)))

  lookup_held_lem : (F : A → ℕ) (lo hi : ℕ) (xs : List (Slot A)) (y : Slot A) (ys : List (Slot A)) → Chain P lo y.entry.low xs
      → y.entry.low ≤ k → k < y.entry.high → Chain P y.entry.high hi ys
      → lookup_slots k F (xs ++ (y ∷ ys)) ≡ sum_slots (λ e. only_if (leb e.low k) e.amount) (xs ++ (y ∷ ys)) + F y.below
  lookup_held_lem F lo hi [] y ys c i j d = simp tests (omega (arith, lookup_above F y.entry.high hi ys d j))
  lookup_held_lem F lo hi (x ∷ xs) y ys c i j d =
      let l = chain_le P x.entry.high y.entry.low xs c.rest in
      let a : x.entry.low ≤ k = omega arith in
      let b : x.entry.high ≤ k = omega arith in
      simp tests (omega (arith, lookup_held_lem F x.entry.high hi xs y ys c.rest i j d))

-- Two sums modulo 2^64
rest_of : (a x : ℕ) → a ≡ x % 18446744073709551616 → a ≈ x
rest_of a x e = omega arith

both_sums : (a b x y : ℕ) → a ≈ x → b ≈ y → a + b ≈ x + y
both_sums a b x y f g = omega arith

add_sums : (v a b x y : ℕ) → v ≡ (a + b) % 18446744073709551616 → a ≡ x % 18446744073709551616 → b ≈ y → v ≈ x + y
add_sums v a b x y e f g = rest_of v (a + b) e ∙ both_sums a b x y (rest_of a x f) g

-- What a lookup from a page of level n on gives
pub record Reads (measure : Value → ℕ) (tree : ours.Tree) (t k n lo hi page : ℕ) (tr : Tree n) : Type 0 where
  pub value : Value
  pub is : lookup_from tree t k n lo hi page ≡ found value (n + 1)
  pub sum : measure value ≈ lookup_tree n k tr
  pub stored : Stored value
  pub path : path_from tree.table t k n page ≡ tree_path n k page tr

module _ (measure : Value → ℕ) (m : Measure measure) (tree : ours.Tree)
    (small : (x : ℕ) → InUse tree.used x → length (rows_of (page_at tree.table x)) ≤ row_limit)
    (t k : ℕ) (now : t < open_end) where
  abbrev store : ℕ → Page
  store = view_table measure tree.table

  abbrev In : ℕ → Type 0
  In = InUse tree.used

  abbrev rows_at : ℕ → List Row
  rows_at page = rows_of (page_at tree.table page)

  -- One page, around the slot that holds the key
  module _ {A : Type 0} (P : ℕ → ℕ → ℕ → A → Type 0) (n lo hi page : ℕ) (xs : List (Slot A)) (y : Slot A) (ys : List (Slot A))
      (c : Chain P lo y.entry.low xs) (i : y.entry.low ≤ k) (j : k < y.entry.high)
      (w : P y.entry.low y.entry.high y.entry.page y.below) (d : Chain P y.entry.high hi ys)
      (held : Held P n store In t lo hi page (xs ++ (y ∷ ys))) where
    at_key : FoundRow measure t (rows_at page) (holding_row t k (rows_at page)) y.entry
    at_key =
        holding_one measure m P (record { tick = t; key = k; value = value.zero }) now lo hi xs y ys (rows_at page) c i j w d held.same

    -- Its true value
    true_sum : measure (true_value t (rows_at page) at_key.item.row)
        ≡ sum_slots (λ e. only_if (leb e.low k) e.amount) (xs ++ (y ∷ ys)) % 2 ^ 64
    true_sum =
        true_up_to t lo hi k (rows_at page)
        (live_tile measure P t lo hi (rows_at page) (xs ++ (y ∷ ys)) held.chain held.same held.wide)
        (omega (arith, chain_le P lo y.entry.low xs c)) (omega (arith, chain_le P y.entry.high hi ys d))
        (live_start measure P t lo hi (rows_at page) (xs ++ (y ∷ ys)) held.chain held.same) at_key.is_found measure m
        ∙ ap (λ (z : ℕ). z % 2 ^ 64)
        (sum_same _ _ (λ s. both (live t s) (leb s.low k) (measure s.value)) (rows_at page)
        ∙ sym (sum_live_view measure t (λ e. only_if (leb e.low k) e.amount) (rows_at page))
        ∙ sym (held.same (λ e. only_if (leb e.low k) e.amount)))
      where
        both : (a b : Bool) (v : ℕ) → cond (a && b) v 0 ≡ cond a (only_if b v) 0
        both true true v = refl
        both true false v = refl
        both false b v = refl

    page_read : (below : Row → Result Lookup SpoiledPage)
        → lookup_page tree t k n lo hi page below ≡ plus_page (true_value t (rows_at page) at_key.item.row) (below at_key.item.row)
    page_read below =
        ap
        (λ (b : Bool). cond b
        (with_below below (cond (sound_at t n lo hi (page_at tree.table page)) (held_as t (rows_at page) (holding_row t k (rows_at page)))
        spoiled)) spoiled)
        held.is_in_use
        ∙ ap₂ (λ (b : Bool) (s : Search Placed). with_below below (cond b (held_as t (rows_at page) s) spoiled))
        (held_sound measure tree small P t n lo hi page (xs ++ (y ∷ ys)) held) at_key.is_found

  leaf_reads : (lo hi page : ℕ) (tr : Tree 0) → Cut Leaf lo hi k tr → Holds 0 store In t lo hi page tr
      → Reads measure tree t k 0 lo hi page tr
  unfolding lookup_from path_from
  leaf_reads lo hi page tr (cut xs y ys c i j w d) h =
      let v = true_value t (rows_at page) (at_key Leaf 0 lo hi page xs y ys c i j w d h).item.row in
      record {
        value = plus v value.zero;
        is = page_read Leaf 0 lo hi page xs y ys c i j w d h (λ (row : Row). found value.zero 0);
        sum =
            omega (
              arith,
              m.of_plus v value.zero,
              m.of_zero,
              true_sum Leaf 0 lo hi page xs y ys c i j w d h,
              lookup_held_lem Leaf k (λ x. 0) lo hi xs y ys c i j d,
            );
        stored = plus_stored v value.zero;
        path = refl;
      }

  index_reads : (n : ℕ)
      → ((lo hi page : ℕ) (tr : Tree n) → lo ≤ k → k < hi → Holds n store In t lo hi page tr → Reads measure tree t k n lo hi page tr)
      → (lo hi page : ℕ) (tr : Tree (suc n)) → Cut (Holds n store In t) lo hi k tr → Holds (suc n) store In t lo hi page tr
      → Reads measure tree t k (suc n) lo hi page tr
  unfolding lookup_from path_from
  index_reads n ih lo hi page tr (cut xs y ys c i j w d) h =
      record {
        value = plus (true_value t (rows_at page) x.row) below.value;
        is =
            page_read (Holds n store In t) (suc n) lo hi page xs y ys c i j w d h
            (λ (row : Row). lookup_from tree t k n row.low row.high row.child)
            ∙ ap (plus_page (true_value t (rows_at page) x.row)) onward
            ∙ ap (found (plus (true_value t (rows_at page) x.row) below.value)) (omega arith);
        sum =
            add_sums (measure (plus (true_value t (rows_at page) x.row) below.value)) (measure (true_value t (rows_at page) x.row))
            (measure below.value) (sum_slots (λ e. only_if (leb e.low k) e.amount) (xs ++ (y ∷ ys))) (lookup_tree n k y.below)
            (m.of_plus (true_value t (rows_at page) x.row) below.value)
            (true_sum (Holds n store In t) (suc n) lo hi page xs y ys c i j w d h) below.sum
            ∙ ap (λ (z : ℕ). z % 2 ^ 64) (sym (lookup_held_lem (Holds n store In t) k (lookup_tree n k) lo hi xs y ys c i j d));
        stored = plus_stored (true_value t (rows_at page) x.row) below.value;
        path =
            ap (◌∷◌ page)
            (ap (path_below (λ (child : ℕ). path_from tree.table t k n child)) r.is_found
            ∙ ap (λ (e : Entry). path_from tree.table t k n e.page) r.entry
            ∙ below.path
            ∙ sym (path_cut (Holds n store In t) k (tree_path n k) lo xs y ys c i j));
      }
    where
      r : FoundRow measure t (rows_at page) (holding_row t k (rows_at page)) y.entry
      r = at_key (Holds n store In t) (suc n) lo hi page xs y ys c i j w d h

      x : Placed
      x = r.item

      below : Reads measure tree t k n y.entry.low y.entry.high y.entry.page y.below
      below = ih y.entry.low y.entry.high y.entry.page y.below i j w

      onward : lookup_from tree t k n r.item.row.low r.item.row.high r.item.row.child ≡ found below.value (n + 1)
      onward = ap (λ (e : Entry). lookup_from tree t k n e.low e.high e.page) r.entry ∙ below.is

  pub reads : (n lo hi page : ℕ) (tr : Tree n) → lo ≤ k → k < hi → Holds n store In t lo hi page tr
      → Reads measure tree t k n lo hi page tr
  reads zero lo hi page tr i j h = leaf_reads lo hi page tr (cut_at Leaf lo hi k tr h.chain i j) h
  reads (suc n) lo hi page tr i j h =
      index_reads n (λ lo' hi' page' tr'. reads n lo' hi' page' tr') lo hi page tr
      (cut_at (Holds n store In t) lo hi k tr h.chain i j) h
