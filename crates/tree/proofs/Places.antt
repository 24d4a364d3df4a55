-- The live rows of a page, each with its place: they are just the page's rows that are live, and each stands at its place.
use Prim.Native.Nat.{ℕ, suc, ◌+◌, ◌<◌}
use native.Mathlib.Omega.{arith}
use mathlib.Core.Path.{◌≡◌, refl, sym, ap, ◌∙◌}
use mathlib.Core.Bool.{Bool, true, false, cond, ◌&&◌, false≢true}
use mathlib.Core.List.{List, [], ◌∷◌}
use lib.ListN.{length, get_or}
use Rattle.tree.specs.declared.types.Row.{Row}
use Rattle.tree.specs.Row.{live, holds}
use Rattle.tree.specs.KeyOrder.{Placed, placed_low, keep_if, live_placed, key_order}
use Rattle.tree.proofs.Lists.{All, all_map, sum_by, sum_same, one_if, count}
use Rattle.tree.proofs.Sorted.{sort_all, all_sort, sort_sum}

-- A number of a row where the row is live at t
abbrev pub live_only : ℕ → (Row → ℕ) → Row → ℕ
live_only t f r = cond (live t r) (f r) 0

placed_sum : (t from : ℕ) (f : Row → ℕ) (rows : List Row)
    → sum_by (λ (x : Placed). f x.row) (live_placed t from rows) ≡ sum_by (live_only t f) rows
unfolding live_placed
placed_sum t from f [] = refl
placed_sum t from f (r ∷ rs) = go (live t r) (placed_sum t (suc from) f rs)
  where
    go : (b : Bool) → sum_by (λ (x : Placed). f x.row) (live_placed t (suc from) rs) ≡ sum_by (live_only t f) rs
        → sum_by (λ (x : Placed). f x.row) (keep_if b (record { place = from; row = r }) (live_placed t (suc from) rs))
        ≡ cond b (f r) 0 + sum_by (live_only t f) rs
    go true ih = ap (◌+◌ (f r)) ih
    go false ih = omega arith

-- A sum over the rows in key order is one over the live rows
pub order_sum : (t : ℕ) (f : Row → ℕ) (rows : List Row) → sum_by (λ (x : Placed). f x.row) (key_order t rows) ≡ sum_by (live_only t f) rows
order_sum t f rows = sort_sum placed_low (λ (x : Placed). f x.row) (live_placed t 0 rows) ∙ placed_sum t 0 f rows

-- Live at t, and holds a key
abbrev pub live_holds : ℕ → ℕ → Row → Bool
live_holds t q r = live t r && holds q r

-- The number of rows live at t that hold a key
abbrev pub cover : ℕ → ℕ → List Row → ℕ
cover t q rows = count (live_holds t q) rows

abbrev pub placed_holds : ℕ → Placed → Bool
placed_holds q x = holds q x.row

pub order_count : (t q : ℕ) (rows : List Row) → count (placed_holds q) (key_order t rows) ≡ cover t q rows
order_count t q rows = order_sum t (one_if (holds q)) rows ∙ sum_same _ _ same rows
  where
    both : (b c : Bool) → ◌≡◌ {A = ℕ} (cond b (cond c 1 0) 0) (cond (b && c) 1 0)
    both true c = refl
    both false c = refl

    same : (r : Row) → live_only t (one_if (holds q)) r ≡ one_if (live_holds t q) r
    same r = both (live t r) (holds q r)

-- What holds of the rows in key order holds of every live row, and the other way
module _ (P : Row → Type 0) (t : ℕ) where
  abbrev pub AllLive : List Row → Type 0
  AllLive rows = All (λ (r : Row). live t r ≡ true → P r) rows

  placed_live : (from : ℕ) (rows : List Row) → All (λ (x : Placed). P x.row) (live_placed t from rows) → AllLive rows
  unfolding live_placed
  placed_live from [] h = tt
  placed_live from (r ∷ rs) h = go (live t r) refl (λ s. placed_live (suc from) rs s) h
    where
      go : (b : Bool) → live t r ≡ b → (All (λ (x : Placed). P x.row) (live_placed t (suc from) rs) → AllLive rs)
          → All (λ (x : Placed). P x.row) (keep_if b (record { place = from; row = r }) (live_placed t (suc from) rs)) → AllLive (r ∷ rs)
      go true e ih s = (λ l. s.0, ih s.1)
      go false e ih s = (λ l. absurd (false≢true (sym e ∙ l)), ih s)

  live_placed_lem : (from : ℕ) (rows : List Row) → AllLive rows → All (λ (x : Placed). P x.row) (live_placed t from rows)
  unfolding live_placed
  live_placed_lem from [] h = tt
  live_placed_lem from (r ∷ rs) h = go (live t r) refl (live_placed_lem (suc from) rs h.1)
    where
      go : (b : Bool) → live t r ≡ b → All (λ (x : Placed). P x.row) (live_placed t (suc from) rs)
          → All (λ (x : Placed). P x.row) (keep_if b (record { place = from; row = r }) (live_placed t (suc from) rs))
      go true e ih = (h.0 e, ih)
      go false e ih = ih

  pub order_live : (rows : List Row) → All (λ (x : Placed). P x.row) (key_order t rows) → AllLive rows
  order_live rows h = placed_live 0 rows (all_sort placed_low _ (live_placed t 0 rows) h)

  pub live_order : (rows : List Row) → AllLive rows → All (λ (x : Placed). P x.row) (key_order t rows)
  live_order rows h = sort_all placed_low _ (live_placed t 0 rows) (live_placed_lem 0 rows h)

-- A live row with its place, among rows of which the first has the place `from`
record FromPlace (t : ℕ) (d : Row) (from : ℕ) (rows : List Row) (x : Placed) : Type 0 where
  index : ℕ
  is_place : x.place ≡ from + index
  inside : index < length rows
  is_row : x.row ≡ get_or rows index d
  is_live : live t x.row ≡ true

module _ (t : ℕ) (d : Row) where
  from_next : (from : ℕ) (r : Row) (rs : List Row) (x : Placed) → FromPlace t d (suc from) rs x → FromPlace t d from (r ∷ rs) x
  from_next from r rs x p =
      record {
        index = suc p.index;
        is_place = omega (arith, p.is_place);
        inside = omega (arith, p.inside);
        is_row = p.is_row;
        is_live = p.is_live;
      }

  from_place : (from : ℕ) (rows : List Row) → All (FromPlace t d from rows) (live_placed t from rows)
  unfolding live_placed
  from_place from [] = tt
  from_place from (r ∷ rs) = go (live t r) refl (all_map _ _ (from_next from r rs) (live_placed t (suc from) rs) (from_place (suc from) rs))
    where
      go : (b : Bool) → live t r ≡ b → All (FromPlace t d from (r ∷ rs)) (live_placed t (suc from) rs)
          → All (FromPlace t d from (r ∷ rs)) (keep_if b (record { place = from; row = r }) (live_placed t (suc from) rs))
      go true e ih = (record { index = 0; is_place = omega arith; inside = omega arith; is_row = refl; is_live = e }, ih)
      go false e ih = ih

-- A row of the page, live at t, and its place; `d` stands for a row past the end of the page and does not matter
pub record AtPlace (t : ℕ) (d : Row) (rows : List Row) (x : Placed) : Type 0 where
  pub within : x.place < length rows
  pub same : x.row ≡ get_or rows x.place d
  pub alive : live t x.row ≡ true

pub order_places : (t : ℕ) (d : Row) (rows : List Row) → All (AtPlace t d rows) (key_order t rows)
order_places t d rows = sort_all placed_low _ (live_placed t 0 rows) (all_map _ _ at (live_placed t 0 rows) (from_place t d 0 rows))
  where
    at : (x : Placed) → FromPlace t d 0 rows x → AtPlace t d rows x
    at x p =
        let e : x.place ≡ p.index = omega (arith, p.is_place) in
        record { within = omega (arith, p.inside); same = rw e p.is_row; alive = p.is_live }
