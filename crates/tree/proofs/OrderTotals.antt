-- Totals of values over the live rows of a page may be taken in key order; so may a row's true value.
use Prim.Native.Nat.{ℕ, suc}
use mathlib.Core.Path.{◌≡◌, refl, sym, ap, ◌∙◌}
use mathlib.Core.Bool.{Bool, true, false, cond, ◌&&◌}
use mathlib.Core.List.{List, [], ◌∷◌}
use lib.Dec.{ltb}
use native.Mathlib.Omega.{arith}
use Rattle.words.specs.declared.value.Value.{Value}
use Rattle.words.specs.Value.{zero, plus}
use Rattle.words.proofs.ValueLaws.{Stored, plus_stored, zero_plus}
use Rattle.tree.specs.declared.types.Row.{Row}
use Rattle.tree.specs.Row.{live}
use Rattle.tree.specs.KeyOrder.{Placed, placed_low, keep_if, live_placed, key_order}
use Rattle.tree.specs.TrueValue.{total_where, row_value, true_value}
use Rattle.tree.proofs.Sorted.{sort_total}

-- A total is two 64-bit words
pub total_stored : {A : Type 0} (value_of : A → Value) (test : A → Bool) (xs : List A) → Stored (total_where value_of test xs)
unfolding total_where
total_stored value_of test [] = omega arith
total_stored value_of test (x ∷ xs) = plus_stored (cond (test x) (value_of x) zero) (total_where value_of test xs)

abbrev pub placed_value : Placed → Value
placed_value x = x.row.value

module _ (t : ℕ) (test : Row → Bool) where
  abbrev live_total : List Row → Value
  live_total rows = total_where row_value (λ (r : Row). live t r && test r) rows

  abbrev placed_total : List Placed → Value
  placed_total xs = total_where placed_value (λ (x : Placed). test x.row) xs

  placed_total_lem : (from : ℕ) (rows : List Row) → placed_total (live_placed t from rows) ≡ live_total rows
  unfolding live_placed total_where
  placed_total_lem from [] = refl
  placed_total_lem from (r ∷ rs) = go (live t r) (placed_total_lem (suc from) rs)
    where
      go : (b : Bool) → placed_total (live_placed t (suc from) rs) ≡ live_total rs
          → placed_total (keep_if b (record { place = from; row = r }) (live_placed t (suc from) rs))
          ≡ plus (cond (b && test r) r.value zero) (live_total rs)
      go true ih = ap (plus (cond (test r) r.value zero)) ih
      go false ih = ih ∙ sym (zero_plus (live_total rs) (total_stored row_value (λ (s : Row). live t s && test s) rs))

  pub order_total : (rows : List Row)
      → total_where placed_value (λ (x : Placed). test x.row) (key_order t rows)
      ≡ total_where row_value (λ (r : Row). live t r && test r) rows
  order_total rows = sort_total placed_low placed_value (λ (x : Placed). test x.row) (live_placed t 0 rows) ∙ placed_total_lem 0 rows

pub order_true : (t : ℕ) (rows : List Row) (r : Row)
    → true_value t rows r ≡ plus r.value (total_where placed_value (λ (x : Placed). ltb x.row.low r.low) (key_order t rows))
order_true t rows r = ap (plus r.value) (sym (order_total t (λ (s : Row). ltb s.low r.low) rows))
