-- "Adding the point to every row above k: only the first gains it." Step 3 adds the point to a page once: what the rows live at its tick add
-- up to grows by its value. Where no row gains it, the rows stay as they are.
use Prim.Native.Nat.{ℕ, zero, suc, ◌<◌}
use native.Mathlib.Omega.{arith}
use mathlib.Core.Path.{◌≡◌, refl, sym, ap, ap₂, ◌∙◌}
use mathlib.Core.Bool.{Bool, true, false, cond, ◌&&◌}
use mathlib.Core.List.{List, [], ◌∷◌, ◌++◌}
use lib.ListN.{length, get_or, set}
use lib.Dec.{leb, eqb}
use borrow.Author.Tests.{le-leb, lt-ltb, le-ltb}
use Rattle.words.specs.Words.{open_end}
use Rattle.words.specs.declared.value.Value.{Value}
use Rattle.words.specs.Value as value
use Rattle.words.specs.Value.{plus}
use Rattle.words.proofs.ValueLaws.{plus_cancel, plus_comm, plus_assoc, plus_exchange, plus_stored, zero_plus, plus_zero, Stored}
use Rattle.tree.specs.declared.types.Row.{Row}
use Rattle.tree.specs.Row.{live}
use Rattle.tree.specs.KeyOrder.{Placed, key_order}
use Rattle.tree.specs.TrueValue.{Search, none, one, total_where, row_value}
use Rattle.tree.specs.Edit.{ended, born_at}
use Rattle.tree.specs.RowSteps.{Point, gained, row_from, gain_in, gain_rows}
use Rattle.tree.proofs.Places.{AtPlace, order_places}
use Rattle.tree.proofs.OrderTotals.{total_stored}
use Rattle.tree.proofs.Searches.{first_has}

module _ (t : ℕ) where
  -- What the rows live at t add up to
  abbrev pub live_total : List Row → Value
  live_total rows = total_where row_value (live t) rows

  abbrev part : Row → Value
  part r = cond (live t r) r.value value.zero

  stored : (rows : List Row) → Stored (live_total rows)
  stored rows = total_stored row_value (live t) rows

  append_total : (xs ys : List Row) → live_total (xs ++ ys) ≡ plus (live_total xs) (live_total ys)
  unfolding total_where
  append_total [] ys = sym (zero_plus (live_total ys) (stored ys))
  append_total (x ∷ xs) ys = ap (plus (part x)) (append_total xs ys) ∙ sym (plus_assoc (part x) (live_total xs) (live_total ys))

  -- One row written over
  set_total : (rows : List Row) (i : ℕ) (d new : Row) → i < length rows
      → plus (part (get_or rows i d)) (live_total (set rows i new)) ≡ plus (part new) (live_total rows)
  unfolding total_where
  set_total [] i d new p = absurd (omega arith)
  set_total (r ∷ rs) zero d new p = plus_exchange (part r) (part new) (live_total rs)
  set_total (r ∷ rs) (suc i) d new p =
      plus_exchange (part (get_or rs i d)) (part r) (live_total (set rs i new))
      ∙ ap (plus (part r)) (set_total rs i d new (omega arith))
      ∙ plus_exchange (part r) (part new) (live_total rs)

  -- A live row gains where it is, or ends and another one is added that has its value and the gain
  module _ (v : Value) (rows : List Row) (x : Placed) (at : AtPlace t x.row rows x) (now : t < open_end) where
    old : part (get_or rows x.place x.row) ≡ x.row.value
    old = ap part (sym at.same) ∙ ap (λ (b : Bool). cond b x.row.value value.zero) at.alive

    over : (new : Row) → plus x.row.value (live_total (set rows x.place new)) ≡ plus (part new) (live_total rows)
    over new = ap (λ (w : Value). plus w (live_total (set rows x.place new))) (sym old) ∙ set_total rows x.place x.row new at.within

    gains_there : live_total (set rows x.place (gained v x.row)) ≡ plus (live_total rows) v
    gains_there =
        plus_cancel x.row.value _ _ (stored (set rows x.place (gained v x.row))) (plus_stored (live_total rows) v)
        (over (gained v x.row)
        ∙ ap (λ (b : Bool). plus (cond b (plus x.row.value v) value.zero) (live_total rows)) at.alive
        ∙ plus_assoc x.row.value v (live_total rows)
        ∙ ap (plus x.row.value) (plus_comm v (live_total rows)))

    over_now : part (ended t x.row) ≡ value.zero
    over_now =
        ap (λ (b : Bool). cond (leb x.row.birth t && b) x.row.value value.zero) (le-ltb t t (omega arith))
        ∙ go (leb x.row.birth t)
      where
        go : (b : Bool) → cond (b && false) x.row.value value.zero ≡ value.zero
        go true = refl
        go false = refl

    born_now : part (born_at t (gained v x.row)) ≡ plus x.row.value v
    born_now = ap₂ (λ (a b : Bool). cond (a && b) (plus x.row.value v) value.zero) (le-leb t t (omega arith)) (lt-ltb t open_end now)

    ends_and_returns : live_total (set rows x.place (ended t x.row) ++ (born_at t (gained v x.row) ∷ [])) ≡ plus (live_total rows) v
    unfolding total_where
    ends_and_returns =
        let rest = live_total (set rows x.place (ended t x.row)) in
        append_total (set rows x.place (ended t x.row)) (born_at t (gained v x.row) ∷ [])
        ∙ ap (λ (w : Value). plus rest (plus w value.zero)) born_now
        ∙ ap (plus rest) (plus_zero (plus x.row.value v) (plus_stored x.row.value v))
        ∙ sym (plus_assoc rest x.row.value v)
        ∙ ap (λ (w : Value). plus w v)
        (plus_comm rest x.row.value
        ∙ over (ended t x.row)
        ∙ ap (λ (w : Value). plus w (live_total rows)) over_now
        ∙ zero_plus (live_total rows) (stored rows))

module _ (p : Point) (rows : List Row) where
  pub one_gains : p.tick < open_end → {x : Placed} → row_from p rows ≡ one x
      → live_total p.tick (gain_rows p rows) ≡ plus (live_total p.tick rows) p.value
  unfolding gain_rows total_where
  one_gains now {x} e = ap (λ (s : Search Placed). live_total p.tick (gain_in p rows s)) e ∙ step (eqb x.row.birth p.tick)
    where
      at : AtPlace p.tick x.row rows x
      at = first_has (AtPlace p.tick x.row rows) _ (key_order p.tick rows) (order_places p.tick x.row rows) e

      step : (b : Bool)
          → live_total p.tick
          (cond b (set rows x.place (gained p.value x.row) ++ [])
          (set rows x.place (ended p.tick x.row) ++ (born_at p.tick (gained p.value x.row) ∷ [])))
          ≡ plus (live_total p.tick rows) p.value
      step true =
          append_total p.tick (set rows x.place (gained p.value x.row)) []
          ∙ plus_zero _ (stored p.tick (set rows x.place (gained p.value x.row)))
          ∙ gains_there p.tick p.value rows x at now
      step false = ends_and_returns p.tick p.value rows x at now

  pub none_gains : row_from p rows ≡ none → gain_rows p rows ≡ rows
  unfolding gain_rows
  none_gains e = ap (gain_in p rows) e
