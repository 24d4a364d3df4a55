-- The steps of an entry at tick t, in the rows of one page, show a reader at an earlier tick the same rows.
use Prim.Native.Nat.{ℕ, zero, suc, ◌≤◌, ◌<◌}
use native.Mathlib.Omega.{arith}
use mathlib.Core.Path.{◌≡◌, refl, sym, ap, ◌∙◌}
use mathlib.Core.Bool.{Bool, true, false, cond, ◌&&◌, and-eq-true_iff, false≢true}
use mathlib.Core.List.{List, [], ◌∷◌, ◌++◌, map}
use lib.Dec.{leb, ltb, eqb}
use lib.ListN.{set, get_or}
use borrow.Author.Tests.{leb-true, ltb-true, eqb-true, lt-leb, lt-ltb}
use Rattle.words.specs.Lists.{All}
use Rattle.words.specs.Value as value
use Rattle.tree.specs.declared.types.Row.{Row}
use Rattle.tree.specs.Row.{live}
use Rattle.tree.specs.KeyOrder.{Placed, keep_if, live_placed, sort_by, key_order}
use Rattle.tree.specs.TrueValue.{Search, none, one, first}
use Rattle.tree.specs.Edit.{ended, born_at}
use Rattle.tree.specs.Fresh.{new_row}
use Rattle.tree.proofs.Places.{AtPlace, order_places}
use Rattle.tree.specs.RowSteps.{Point, gained, cut_at, linked_to, row_around, row_from, gain_in, gain_rows}
use Rattle.tree.specs.declared.types.Became.{Became}
use Rattle.tree.specs.declared.types.Became.TheVariants.{Stays, Copied, Halved}
use Rattle.tree.specs.RowSteps.{cut_in, leaf_rows, relink_row, replace_row}
use Rattle.tree.specs.Alike.{SeenRow, seen_row}
use Rattle.tree.proofs.View.{map_sort}
use Rattle.tree.proofs.Searches.{first_has, first_passes}
use Rattle.tree.proofs.RowViews.{gain_keeps}

-- The rows live at w, by place, as a reader at w sees them
abbrev pub seen_from : ℕ → ℕ → List Row → List SeenRow
seen_from w from rows = map seen_row (live_placed w from rows)

abbrev pub seen : ℕ → List Row → List SeenRow
seen w rows = seen_from w 0 rows

-- Key order shows no more
pub seen_order : (w : ℕ) (rows other : List Row) → seen w rows ≡ seen w other
    → map seen_row (key_order w rows) ≡ map seen_row (key_order w other)
seen_order w rows other e =
    map_sort (λ (r : SeenRow). r.low) seen_row (live_placed w 0 rows)
    ∙ ap (sort_by (λ (r : SeenRow). r.low)) e
    ∙ sym (map_sort (λ (r : SeenRow). r.low) seen_row (live_placed w 0 other))

abbrev row_seen : Row → SeenRow
row_seen r = record { low = r.low; high = r.high; child = r.child; birth = r.birth; value = r.value }

-- One row altered, so that a reader at w does not see it
seen_set : (w from : ℕ) (rows : List Row) (i : ℕ) (new d : Row) → live w new ≡ live w (get_or rows i d)
    → (live w new ≡ true → row_seen new ≡ row_seen (get_or rows i d)) → seen_from w from (set rows i new) ≡ seen_from w from rows
unfolding live_placed
seen_set w from [] i new d l s = refl
seen_set w from (r ∷ rs) zero new d l s = go (live w new) refl (live w r) refl
  where
    go : (a : Bool) → live w new ≡ a → (b : Bool) → live w r ≡ b
        → map seen_row (keep_if a (record { place = from; row = new }) (live_placed w (suc from) rs))
        ≡ map seen_row (keep_if b (record { place = from; row = r }) (live_placed w (suc from) rs))
    go true e true f = ap (λ (x : SeenRow). x ∷ seen_from w (suc from) rs) (s e)
    go false e false f = refl
    go true e false f = absurd (false≢true (sym f ∙ sym l ∙ e))
    go false e true f = absurd (false≢true (sym e ∙ l ∙ f))
seen_set w from (r ∷ rs) (suc i) new d l s = go (live w r) (seen_set w (suc from) rs i new d l s)
  where
    go : (b : Bool) → seen_from w (suc from) (set rs i new) ≡ seen_from w (suc from) rs
        → map seen_row (keep_if b (record { place = from; row = r }) (live_placed w (suc from) (set rs i new)))
        ≡ map seen_row (keep_if b (record { place = from; row = r }) (live_placed w (suc from) rs))
    go true ih = ap (◌∷◌ (row_seen r)) ih
    go false ih = ih

-- Rows behind the others that are not live at w
seen_none : (w from : ℕ) (rows : List Row) → All (λ (r : Row). live w r ≡ false) rows → seen_from w from rows ≡ []
unfolding live_placed
seen_none w from [] h = refl
seen_none w from (r ∷ rs) h =
    ap (λ (b : Bool). map seen_row (keep_if b (record { place = from; row = r }) (live_placed w (suc from) rs))) h.0
    ∙ seen_none w (suc from) rs h.1

seen_append : (w from : ℕ) (rows more : List Row) → All (λ (r : Row). live w r ≡ false) more
    → seen_from w from (rows ++ more) ≡ seen_from w from rows
unfolding live_placed
seen_append w from [] more h = seen_none w from more h
seen_append w from (r ∷ rs) more h = go (live w r) (seen_append w (suc from) rs more h)
  where
    go : (b : Bool) → seen_from w (suc from) (rs ++ more) ≡ seen_from w (suc from) rs
        → map seen_row (keep_if b (record { place = from; row = r }) (live_placed w (suc from) (rs ++ more)))
        ≡ map seen_row (keep_if b (record { place = from; row = r }) (live_placed w (suc from) rs))
    go true ih = ap (◌∷◌ (row_seen r)) ih
    go false ih = ih

module _ (w t : ℕ) (early : w < t) where
  unborn : (r : Row) → r.birth ≡ t → live w r ≡ false
  unborn r e = ap (λ (b : Bool). b && ltb w r.end) (lt-leb r.birth w (omega arith))

  -- A row replaced at t
  replace_seen : (x : Placed) (new : Row) (further rows : List Row) → AtPlace t x.row rows x → new.birth ≡ x.row.birth
      → All (λ (r : Row). r.birth ≡ t) further → seen w (replace_row t x new further rows) ≡ seen w rows
  replace_seen x new further rows at same born = go (eqb x.row.birth t) refl
    where
      r : Row
      r = x.row

      unseen : (rs : List Row) → All (λ (r : Row). r.birth ≡ t) rs → All (λ (r : Row). live w r ≡ false) rs
      unseen [] h = tt
      unseen (r ∷ rs) h = (unborn r h.0, unseen rs h.1)

      now_live : (r.birth ≤ t) × (t < r.end)
      now_live =
          let parts = (and-eq-true_iff (leb r.birth t) (ltb t r.end)).0 at.alive in
          (leb-true _ _ parts.0, ltb-true _ _ parts.1)

      go : (b : Bool) → eqb x.row.birth t ≡ b
          → seen w (cond b (set rows x.place new ++ further) (set rows x.place (ended t x.row) ++ (born_at t new ∷ further)))
          ≡ seen w rows
      go true e =
          let born_now : x.row.birth ≡ t = eqb-true _ _ e in
          let old : live w (get_or rows x.place x.row) ≡ false = ap (live w) (sym at.same) ∙ unborn x.row born_now in
          let none : live w new ≡ false = unborn new (same ∙ born_now) in
          seen_append w 0 (set rows x.place new) further (unseen further born)
          ∙ seen_set w 0 rows x.place new x.row (none ∙ sym old) (λ l. absurd (false≢true (sym none ∙ l)))
      go false e =
          let still : live w (ended t x.row) ≡ live w x.row =
          ap (λ (b : Bool). leb x.row.birth w && b) (lt-ltb w t early ∙ sym (lt-ltb w x.row.end (omega (arith, now_live)))) in
          seen_append w 0 (set rows x.place (ended t x.row)) (born_at t new ∷ further)
          (unborn (born_at t new) refl, unseen further born)
          ∙ seen_set w 0 rows x.place (ended t x.row) x.row (still ∙ ap (live w) at.same) (λ l. ap row_seen at.same)

-- The steps of an entry
module _ (p : Point) (w : ℕ) (early : w < p.tick) (rows : List Row) where
  found_at : (test : Placed → Bool) {x : Placed} → first test (key_order p.tick rows) ≡ one x → AtPlace p.tick x.row rows x
  found_at test {x} e = first_has (AtPlace p.tick x.row rows) test (key_order p.tick rows) (order_places p.tick x.row rows) e

  pub gain_seen : seen w (gain_rows p rows) ≡ seen w rows
  unfolding gain_rows
  gain_seen = go (row_from p rows) refl
    where
      go : (s : Search Placed) → row_from p rows ≡ s → seen w (gain_in p rows s) ≡ seen w rows
      go none e = refl
      go (one x) e = replace_seen w p.tick early x (gained p.value x.row) [] rows (found_at _ e) refl tt

  pub leaf_seen : seen w (leaf_rows p rows) ≡ seen w rows
  unfolding leaf_rows
  leaf_seen = go (row_around p rows) refl
    where
      go : (s : Search Placed) → row_around p rows ≡ s → seen w (cut_in p rows s) ≡ seen w rows
      go none e = gain_seen
      go (one x) e =
          replace_seen w p.tick early x (cut_at p.key x.row) (new_row p.tick p.key x.row.high 0 p.value ∷ []) rows
          (found_at _ e) refl (refl, tt)

  pub relink_seen : (x : Placed) → row_around p rows ≡ one x → (became : Became)
      → seen w (relink_row p.tick x became (gain_rows p rows)) ≡ seen w rows
  unfolding relink_row
  relink_seen x e became = go became ∙ gain_seen
    where
      inside : x.row.low < p.key
      inside =
          ltb-true _ _ ((and-eq-true_iff (ltb x.row.low p.key) (ltb p.key x.row.high)).0
          (first_passes _ (key_order p.tick rows) e)).0

      still : AtPlace p.tick x.row (gain_rows p rows) x
      still = gain_keeps p rows x (found_at _ e) inside

      go : (b : Became) → seen w (relink_row p.tick x b (gain_rows p rows)) ≡ seen w (gain_rows p rows)
      go Stays = refl
      go (Copied c) = replace_seen w p.tick early x (linked_to c x.row) [] (gain_rows p rows) still refl tt
      go (Halved c d) =
          replace_seen w p.tick early x (linked_to c x.row) (new_row p.tick d.low d.high d.page value.zero ∷ [])
          (gain_rows p rows)
          still refl (refl, tt)
