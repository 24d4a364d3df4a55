-- How many rows a page may get in one entry, and that their keys and births fit.
use Prim.Native.Nat.{ℕ, suc, ◌+◌, ◌≤◌, ◌<◌}
use native.Mathlib.Omega.{arith}
use mathlib.Core.Path.{◌≡◌, refl}
use mathlib.Core.Bool.{Bool, true, false, cond}
use mathlib.Core.List.{List, [], ◌∷◌, ◌++◌}
use lib.Dec.{eqb}
use lib.ListN.{length, set, length-append, length-set, length-map}
use Rattle.words.specs.Lists.{All}
use Rattle.words.specs.declared.value.Value.{Value}
use Rattle.words.specs.Value as value
use Rattle.tree.specs.declared.types.Row.{Row}
use Rattle.tree.specs.Row.{live}
use Rattle.tree.specs.KeyOrder.{Placed, key_order}
use Rattle.tree.specs.TrueValue.{Search, none, one, first}
use Rattle.tree.specs.Edit.{ended, born_at}
use Rattle.tree.specs.Fresh.{new_row}
use Rattle.tree.proofs.Lists.{all_map, all_set, all_append, all_of_map, sum_by}
use Rattle.tree.proofs.Places.{live_order, order_sum, live_only}
use Rattle.tree.specs.RowSteps.{Point, gained, cut_at, linked_to, row_around, row_from, gain_in, gain_rows}
use Rattle.tree.specs.declared.types.Became.{Became}
use Rattle.tree.specs.declared.types.Became.TheVariants.{Stays, Copied, Halved}
use Rattle.tree.specs.RowSteps.{cut_in, leaf_rows, relink_row, replace_row}
use Rattle.tree.specs.Overflow.{copied_rows, gain_first, lowest_key}
use Rattle.tree.proofs.PageCodec.{Fits}
use Rattle.tree.proofs.Searches.{first_has}
use Rattle.tree.proofs.RowViews.{Covers}

-- One row replaced
pub replace_length : (t : ℕ) (x : Placed) (new : Row) (further rows : List Row)
    → length (replace_row t x new further rows) ≤ length rows + 1 + length further
replace_length t x new further rows = go (eqb x.row.birth t)
  where
    go : (b : Bool)
        → length (cond b (set rows x.place new ++ further) (set rows x.place (ended t x.row) ++ (born_at t new ∷ further)))
        ≤ length rows + 1 + length further
    go true = omega (arith, length-append (set rows x.place new) further, length-set rows x.place new)
    go false =
        omega (
          arith,
          length-append (set rows x.place (ended t x.row)) (born_at t new ∷ further),
          length-set rows x.place (ended t x.row),
        )

born_fits : (t : ℕ) (r : Row) → t < 4294967296 → Fits r → Fits (born_at t r)
born_fits t r now f = record { low = f.low; high = f.high; birth = now }

replace_fits : (t : ℕ) (x : Placed) (new : Row) (further rows : List Row) → t < 4294967296
    → Fits x.row → Fits new → All Fits further → All Fits rows → All Fits (replace_row t x new further rows)
replace_fits t x new further rows now f g h k = go (eqb x.row.birth t)
  where
    go : (b : Bool)
        → All Fits (cond b (set rows x.place new ++ further) (set rows x.place (ended t x.row) ++ (born_at t new ∷ further)))
    go true = all_append Fits (set rows x.place new) further (all_set Fits rows x.place new g k) h
    go false =
        all_append Fits (set rows x.place (ended t x.row)) (born_at t new ∷ further)
        (all_set Fits rows x.place (ended t x.row) (record { low = f.low; high = f.high; birth = f.birth }) k)
        (born_fits t new now g, h)

order_fits : (t : ℕ) (rows : List Row) → All Fits rows → All (λ (x : Placed). Fits x.row) (key_order t rows)
order_fits t rows h = live_order Fits t rows (all_map Fits (λ (r : Row). live t r ≡ true → Fits r) (λ r f l. f) rows h)

pub found_fits : (t : ℕ) (test : Placed → Bool) (rows : List Row) → All Fits rows → {x : Placed} → first test (key_order t rows) ≡ one x
    → Fits x.row
found_fits t test rows h {x} e = first_has (λ (y : Placed). Fits y.row) test (key_order t rows) (order_fits t rows h) e

module _ (p : Point) (rows : List Row) where
  pub gain_length : length (gain_rows p rows) ≤ length rows + 1
  unfolding gain_rows
  gain_length = go (row_from p rows)
    where
      go : (s : Search Placed) → length (gain_in p rows s) ≤ length rows + 1
      go none = omega arith
      go (one x) = omega (arith, replace_length p.tick x (gained p.value x.row) [] rows)

  pub leaf_length : length (leaf_rows p rows) ≤ length rows + 2
  unfolding leaf_rows
  leaf_length = go (row_around p rows)
    where
      go : (s : Search Placed) → length (cut_in p rows s) ≤ length rows + 2
      go none = omega (arith, gain_length)
      go (one x) =
          omega (
            arith,
            replace_length p.tick x (cut_at p.key x.row)
                (new_row p.tick p.key x.row.high 0 p.value ∷ []) rows,
          )

  module _ (now : p.tick < 4294967296) (fits : All Fits rows) where
    pub gain_fits : All Fits (gain_rows p rows)
    unfolding gain_rows
    gain_fits = go (row_from p rows) refl
      where
        go : (s : Search Placed) → row_from p rows ≡ s → All Fits (gain_in p rows s)
        go none e = fits
        go (one x) e =
            let f : Fits x.row = found_fits p.tick _ rows fits e in
            replace_fits p.tick x (gained p.value x.row) [] rows now f
            (record { low = f.low; high = f.high; birth = f.birth }) tt fits

    pub leaf_fits : p.key < 65536 → All Fits (leaf_rows p rows)
    unfolding leaf_rows
    leaf_fits k = go (row_around p rows) refl
      where
        go : (s : Search Placed) → row_around p rows ≡ s → All Fits (cut_in p rows s)
        go none e = gain_fits
        go (one x) e =
            let f : Fits x.row = found_fits p.tick _ rows fits e in
            replace_fits p.tick x (cut_at p.key x.row) _ rows now f (record { low = f.low; high = k; birth = f.birth })
            (record { low = k; high = f.high; birth = now }, tt) fits

module _ (t : ℕ) (x : Placed) (rows : List Row) where
  pub relink_length : (became : Became) → length (relink_row t x became rows) ≤ length rows + 2
  unfolding relink_row
  relink_length Stays = omega arith
  relink_length (Copied c) = omega (arith, replace_length t x (linked_to c x.row) [] rows)
  relink_length (Halved c d) =
      omega (arith, replace_length t x (linked_to c x.row) (new_row t d.low d.high d.page value.zero ∷ []) rows)

  pub relink_fits : (lo hi : ℕ) → t < 4294967296 → lo < 65536 → hi < 65536 → Fits x.row → All Fits rows → (became : Became)
      → Covers lo hi became → All Fits (relink_row t x became rows)
  unfolding relink_row
  relink_fits lo hi now l h f fits Stays c = fits
  relink_fits lo hi now l h f fits (Copied a) c =
      replace_fits t x (linked_to a x.row) [] rows now f
      (record { low = omega (arith, c.0); high = omega (arith, c.1); birth = f.birth }) tt fits
  relink_fits lo hi now l h f fits (Halved a b) c =
      replace_fits t x (linked_to a x.row) _ rows now f (record { low = omega (arith, c.0); high = c.3; birth = f.birth })
      (record { low = omega (arith, c.1, c.3); high = omega (arith, c.2); birth = now }, tt) fits

-- Rows that go to a new page
count_ones : {A : Type 0} (xs : List A) → sum_by (λ (x : A). 1) xs ≡ length xs
count_ones [] = refl
count_ones (x ∷ xs) = omega (arith, count_ones xs)

live_few : (t : ℕ) (rows : List Row) → sum_by (live_only t (λ (r : Row). 1)) rows ≤ length rows
live_few t [] = omega arith
live_few t (r ∷ rs) = go (live t r) (live_few t rs)
  where
    go : (b : Bool) → sum_by (live_only t (λ (r : Row). 1)) rs ≤ length rs
        → cond b 1 0 + sum_by (live_only t (λ (r : Row). 1)) rs ≤ suc (length rs)
    go true h = omega arith
    go false h = omega arith

pub copied_length : (t : ℕ) (rows : List Row) → length (copied_rows t rows) ≤ length rows
copied_length t rows =
    omega (
      arith,
      length-map (key_order t rows) (λ (x : Placed). born_at t x.row),
      count_ones (key_order t rows),
      order_sum t (λ (r : Row). 1) rows,
      live_few t rows,
    )

pub copied_fits : (t : ℕ) (rows : List Row) → t < 4294967296 → All Fits rows → All Fits (copied_rows t rows)
copied_fits t rows now h =
    all_of_map Fits (λ (x : Placed). born_at t x.row) (key_order t rows)
    (all_map (λ (x : Placed). Fits x.row) (λ (x : Placed). Fits (born_at t x.row)) (λ x f. born_fits t x.row now f)
    (key_order t rows) (order_fits t rows h))

pub first_fits : (v : Value) (rows : List Row) → All Fits rows → All Fits (gain_first v rows)
first_fits v [] h = tt
first_fits v (r ∷ rs) h = (record { low = h.0.low; high = h.0.high; birth = h.0.birth }, h.1)

pub first_length : (v : Value) (rows : List Row) → length (gain_first v rows) ≡ length rows
first_length v [] = refl
first_length v (r ∷ rs) = refl

pub lowest_fits : (d : ℕ) (rows : List Row) → d < 65536 → All Fits rows → lowest_key d rows < 65536
lowest_fits d [] h f = h
lowest_fits d (r ∷ rs) h f = f.0.low
