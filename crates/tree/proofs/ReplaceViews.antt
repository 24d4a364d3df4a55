-- One row of a page replaced. The model replaces the live row with a low key; our steps replace the row at a place.
-- Where that row is live at the place and no other live row has its low key, both give the same rows.
use Prim.Native.Nat.{ℕ, zero, suc, ◌+◌, ◌≤◌, ◌<◌}
use native.Mathlib.Omega.{arith}
use mathlib.Core.Path.{◌≡◌, refl, sym, ap, ap₂, ◌∙◌}
use mathlib.Core.Bool.{Bool, true, false, cond, ◌&&◌, and-eq-true_iff}
use mathlib.Core.List.{List, [], ◌∷◌, ◌++◌, append-nil}
use lib.Dec.{eqb}
use lib.ListN.{length, set, get_or, length-map}
use borrow.Author.Tests.{eq-eqb}
use Rattle.words.specs.declared.value.Value.{Value}
use Rattle.tree.specs.declared.types.Row.{Row}
use Rattle.tree.specs.KeyOrder.{Placed}
use Rattle.tree.specs.Edit.{ended, born_at}
use Rattle.tree.proofs.Lists.{count, map_append, map_set, map_get_d}
use Rattle.tree.proofs.Places.{AtPlace}
use Rattle.tree.specs.RowSteps.{replace_row}
use Rattle.tree.proofs.ModelPages as model
use Rattle.tree.proofs.ModelPages.{Entry, only_if, sum_live, replaced, kept, keep, made, makes, is_replaced, born_all, born}
use Rattle.tree.proofs.View.{view_row, view_rows, entry_of}

module _ (t m : ℕ) where
  -- How many live rows have the low key
  pub count_hits : (rs : List model.Row) → count (is_replaced t m) rs ≡ sum_live t (λ e. only_if (eqb e.low m) 1) rs
  count_hits [] = refl
  count_hits (r ∷ rs) = go (model.live t r) (eqb r.entry.low m) (count_hits rs)
    where
      go : (a b : Bool) → count (is_replaced t m) rs ≡ sum_live t (λ e. only_if (eqb e.low m) 1) rs
          → cond (a && b) 1 0 + count (is_replaced t m) rs ≡ only_if a (only_if b 1) + sum_live t (λ e. only_if (eqb e.low m) 1) rs
      go true true ih = omega arith
      go true false ih = omega arith
      go false b ih = omega arith

  module _ (a : Entry → Entry) (b : Entry → List Entry) where
    none_kept : (rs : List model.Row) → count (is_replaced t m) rs ≡ 0 → (kept t m a b rs ≡ rs) × (made t m a b rs ≡ [])
    none_kept [] h = (refl, refl)
    none_kept (r ∷ rs) h = go (is_replaced t m r) refl h (λ k. none_kept rs k)
      where
        go : (x : Bool) → is_replaced t m r ≡ x → cond x 1 0 + count (is_replaced t m) rs ≡ 0
            → (count (is_replaced t m) rs ≡ 0 → (kept t m a b rs ≡ rs) × (made t m a b rs ≡ []))
            → (kept t m a b (r ∷ rs) ≡ r ∷ rs) × (made t m a b (r ∷ rs) ≡ [])
        go true e k ih = absurd (omega arith)
        go false e k ih = let i = ih (omega arith) in (simp (e, i.0), simp (e, i.1))

    -- No row has it: nothing changes
    pub none_replaced : (rs : List model.Row) → sum_live t (λ e. only_if (eqb e.low m) 1) rs ≡ 0 → replaced t m a b rs ≡ rs
    none_replaced rs h =
        let k = none_kept rs (count_hits rs ∙ h) in
        ap₂ (λ (x : List model.Row) (y : List Entry). x ++ born_all t y) k.0 k.1 ∙ append-nil rs

    one_kept : (d : model.Row) (rs : List model.Row) (i : ℕ) → i < length rs → is_replaced t m (get_or rs i d) ≡ true
        → count (is_replaced t m) rs ≤ 1
        → (kept t m a b rs ≡ set rs i (keep t m a b (get_or rs i d))) × (made t m a b rs ≡ makes t m a b (get_or rs i d))
    one_kept d [] i l h c = absurd (omega arith)
    one_kept d (r ∷ rs) zero l h c =
        let e : 1 + count (is_replaced t m) rs ≤ 1 = rw h at c in
        let k = none_kept rs (omega arith) in
        (rw k.0, rw (k.1, append-nil (makes t m a b r)))
    one_kept d (r ∷ rs) (suc i) l h c = go (is_replaced t m r) refl c (λ k. one_kept d rs i (omega arith) h k)
      where
        go : (x : Bool) → is_replaced t m r ≡ x → cond x 1 0 + count (is_replaced t m) rs ≤ 1
            → (count (is_replaced t m) rs ≤ 1
            → (kept t m a b rs ≡ set rs i (keep t m a b (get_or rs i d))) × (made t m a b rs ≡ makes t m a b (get_or rs i d)))
            → (kept t m a b (r ∷ rs) ≡ r ∷ set rs i (keep t m a b (get_or rs i d)))
            × (made t m a b (r ∷ rs) ≡ makes t m a b (get_or rs i d))
        go true e k ih = absurd (omega (arith, counted rs i (omega arith) h))
          where
            counted : (rs : List model.Row) (i : ℕ) → i < length rs → is_replaced t m (get_or rs i d) ≡ true → 1 ≤ count (is_replaced t m) rs
            counted [] i l h = absurd (omega arith)
            counted (r ∷ rs) zero l h = rw h (omega arith)
            counted (r ∷ rs) (suc i) l h = omega (arith, counted rs i (omega arith) h)
        go false e k ih = let j = ih (omega arith) in (simp (e, j.0), simp (e, j.1))

-- Our row at a place
module _ (measure : Value → ℕ) (t m : ℕ) (a : Entry → Entry) (b : Entry → List Entry) (rows : List Row) (x : Placed)
    (at : AtPlace t x.row rows x) (is_low : x.row.low ≡ m)
    (only : sum_live t (λ e. only_if (eqb e.low m) 1) (view_rows measure rows) ≤ 1) (new : Row) (further : List Row)
    (New-is : view_row measure new ≡ record { birth = x.row.birth; end = x.row.end; entry = a (entry_of measure x.row) })
    (further_is : view_rows measure further ≡ born_all t (b (entry_of measure x.row))) where
  rs : List model.Row
  rs = view_rows measure rows

  here : get_or (view_rows measure rows) x.place (view_row measure x.row) ≡ view_row measure x.row
  here = map_get_d (view_row measure) rows x.place x.row ∙ ap (view_row measure) (sym at.same)

  hits_here : is_replaced t m (view_row measure x.row) ≡ true
  hits_here = (and-eq-true_iff _ _).1 (at.alive, eq-eqb x.row.low m is_low)

  parts : (kept t m a b (view_rows measure rows) ≡ set (view_rows measure rows) x.place (keep t m a b (view_row measure x.row)))
      × (made t m a b (view_rows measure rows) ≡ makes t m a b (view_row measure x.row))
  parts =
      let p =
      one_kept t m a b (view_row measure x.row) (view_rows measure rows) x.place
      (omega (arith, at.within, length-map rows (view_row measure)))
      (ap (is_replaced t m) here ∙ hits_here) (omega (arith, count_hits t m (view_rows measure rows))) in
      (p.0 ∙ ap (λ (r : model.Row). set (view_rows measure rows) x.place (keep t m a b r)) here, p.1 ∙ ap (makes t m a b) here)

  -- The row born at t, and any other
  kept_now : eqb x.row.birth t ≡ true
      → keep t m a b (view_row measure x.row) ≡ record { birth = x.row.birth; end = x.row.end; entry = a (entry_of measure x.row) }
  kept_now e = simp (hits_here, e)

  kept_ended : eqb x.row.birth t ≡ false → keep t m a b (view_row measure x.row) ≡ view_row measure (ended t x.row)
  kept_ended e = simp (hits_here, e)

  made_now : eqb x.row.birth t ≡ true → makes t m a b (view_row measure x.row) ≡ b (entry_of measure x.row)
  made_now e = simp (hits_here, e)

  made_ended : eqb x.row.birth t ≡ false
      → makes t m a b (view_row measure x.row) ≡ a (entry_of measure x.row) ∷ b (entry_of measure x.row)
  made_ended e = simp (hits_here, e)

  pub replace_view : view_rows measure (replace_row t x new further rows) ≡ replaced t m a b (view_rows measure rows)
  replace_view = go (eqb x.row.birth t) refl
    where
      go : (y : Bool) → eqb x.row.birth t ≡ y
          → view_rows measure (cond y (set rows x.place new ++ further)
          (set rows x.place (ended t x.row) ++ (born_at t new ∷ further))) ≡ replaced t m a b (view_rows measure rows)
      go true e =
          map_append (view_row measure) (set rows x.place new) further
          ∙ ap₂ (λ (u v : List model.Row). u ++ v)
          (map_set (view_row measure) rows x.place new
          ∙ ap (set (view_rows measure rows) x.place) (New-is ∙ sym (kept_now e))
          ∙ sym parts.0)
          (further_is ∙ ap (born_all t) (sym (parts.1 ∙ made_now e)))
      go false e =
          map_append (view_row measure) (set rows x.place (ended t x.row)) (born_at t new ∷ further)
          ∙ ap₂ (λ (u v : List model.Row). u ++ v)
          (map_set (view_row measure) rows x.place (ended t x.row)
          ∙ ap (set (view_rows measure rows) x.place) (sym (kept_ended e))
          ∙ sym parts.0)
          (ap₂ ◌∷◌ (ap (λ (r : model.Row). born t r.entry) New-is) further_is ∙ ap (born_all t) (sym (parts.1 ∙ made_ended e)))
