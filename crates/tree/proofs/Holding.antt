-- The row that holds a key: in a page that passes its test each key of the range has exactly one, and a search in key order finds it.
use Prim.Native.Nat.{ℕ, ◌+◌, ◌≤◌, ◌<◌}
use native.Mathlib.Omega.{arith}
use mathlib.Core.Path.{◌≡◌, refl, sym, ap, ◌∙◌}
use mathlib.Core.Bool.{Bool, true, false, cond, and-eq-true_iff}
use mathlib.Core.List.{List, [], ◌∷◌}
use lib.ListN.{length, get_or}
use Rattle.tree.specs.declared.types.Row.{Row}
use Rattle.tree.specs.Row.{live, holds}
use Rattle.tree.specs.KeyOrder.{Placed, key_order}
use Rattle.tree.specs.PageTest.{rows_tile}
use Rattle.tree.specs.TrueValue.{one, first, holding_row}
use Rattle.tree.proofs.Lists.{All, count, count_place}
use Rattle.tree.proofs.Places.{cover, live_holds, placed_holds, order_count, AtPlace, order_places}
use Rattle.tree.proofs.Tiling.{rows_tile_tiles}

-- What a search finds
record FirstFound {A : Type 0} (P : A → Type 0) (test : A → Bool) (xs : List A) : Type 0 where
  item : A
  found : first test xs ≡ one item
  passes : test item ≡ true
  has : P item

found_later : {A : Type 0} (P : A → Type 0) (test : A → Bool) (x : A) (xs : List A)
    → test x ≡ false → FirstFound P test xs → FirstFound P test (x ∷ xs)
unfolding first
found_later P test x xs e r = record { item = r.item; found = rw e r.found; passes = r.passes; has = r.has }

first_found : {A : Type 0} (P : A → Type 0) (test : A → Bool) (xs : List A) → All P xs → 1 ≤ count test xs → FirstFound P test xs
unfolding first
first_found P test [] h c = absurd (omega arith)
first_found P test (x ∷ xs) h c = go (test x) refl (λ d. first_found P test xs h.1 d) c
  where
    go : (b : Bool) → test x ≡ b → (1 ≤ count test xs → FirstFound P test xs) → 1 ≤ cond b 1 0 + count test xs → FirstFound P test (x ∷ xs)
    go true e ih d = record { item = x; found = rw e; passes = e; has = h.0 }
    go false e ih d = found_later P test x xs e (ih (omega arith))

placed_path : {x y : Placed} → x.place ≡ y.place → x.row ≡ y.row → x ≡ y
placed_path p q = λ i. record { place = p i; row = q i }

-- The one row of a page that is live at t and holds k, and its place; `d` stands for a row past the end of the page and does not matter
pub record HeldBy (t k : ℕ) (d : Row) (rows : List Row) (x : Placed) : Type 0 where
  pub found : holding_row t k rows ≡ one x
  pub within : x.place < length rows
  pub same : x.row ≡ get_or rows x.place d
  pub alive : live t x.row ≡ true
  pub holding : holds k x.row ≡ true
  pub only : (i : ℕ) → i < length rows → live t (get_or rows i d) ≡ true → holds k (get_or rows i d) ≡ true → i ≡ x.place

module _ (t low high k : ℕ) (d : Row) (rows : List Row)
    (tiled : rows_tile t low high rows ≡ true) (p : low ≤ k) (q : k < high) where
  -- There is one
  pub holding_row_lem : (x : Placed) × HeldBy t k d rows x
  holding_row_lem = (
    r.item,
    record { found = r.found; within = at.within; same = at.same; alive = at.alive; holding = r.passes; only = only },
  )
    where
      once : cover t k rows ≡ 1
      once = (rows_tile_tiles t low high rows tiled).once k p q

      r : FirstFound (AtPlace t d rows) (placed_holds k) (key_order t rows)
      r = first_found _ (placed_holds k) (key_order t rows) (order_places t d rows) (omega (arith, order_count t k rows, once))

      at : AtPlace t d rows r.item
      at = r.has

      only : (i : ℕ) → i < length rows → live t (get_or rows i d) ≡ true → holds k (get_or rows i d) ≡ true → i ≡ r.item.place
      only i p l h =
          let this : live_holds t k (get_or rows i d) ≡ true = (and-eq-true_iff _ _).1 (l, h) in
          let that : live_holds t k r.item.row ≡ true = (and-eq-true_iff _ _).1 (at.alive, r.passes) in
          count_place (live_holds t k) rows i r.item.place d (omega (arith, once)) p this at.within (rw at.same at that)

  -- It is the row that was found
  pub holding_found : {x : Placed} → holding_row t k rows ≡ one x → HeldBy t k d rows x
  holding_found {x} e =
      let y = holding_row_lem.0 in
      let f : holding_row t k rows ≡ one y = holding_row_lem.1.found in
      let same : y ≡ x = cc in
      rw same at holding_row_lem.1

  -- Any live row that holds the key is the one that is found
  pub found_at : (i : ℕ) → i < length rows → live t (get_or rows i d) ≡ true → holds k (get_or rows i d) ≡ true
      → holding_row t k rows ≡ one (record { place = i; row = get_or rows i d })
  found_at i p l h =
      let w = holding_row_lem.1 in
      let e : holding_row_lem.0.place ≡ i = sym (w.only i p l h) in
      w.found ∙ ap one (placed_path e (w.same ∙ ap (λ (n : ℕ). get_or rows n d) e))
