-- What a true value adds up: in a page that passes its test and whose live rows start within its range,
-- the true value of the row that holds a key is the total of the live rows that start at the key or below.
use Prim.Native.Nat.{ℕ, ◌+◌, ◌≤◌, ◌<◌, ◌%◌, ◌^◌}
use native.Mathlib.Nat.{le_refl}
use native.Mathlib.Decide.{dec_le}
use native.Mathlib.Omega.{arith}
use mathlib.Core.Path.{◌≡◌, refl, sym, ap, subst, ◌∙◌}
use mathlib.Core.Bool.{Bool, true, false, ◌&&◌, and-eq-true_iff}
use mathlib.Core.List.{List}
use lib.ListN.{length, get_or}
use lib.Dec.{leb, ltb}
use borrow.Author.Tests.{leb-true, ltb-true, le-leb, lt-leb, lt-ltb, le-ltb}
use Rattle.words.specs.declared.value.Value.{Value}
use Rattle.words.proofs.Measure.{Measure}
use Rattle.tree.specs.declared.types.Row.{Row}
use Rattle.tree.specs.Row.{live, holds}
use Rattle.tree.specs.KeyOrder.{Placed}
use Rattle.tree.specs.PageTest.{rows_tile}
use Rattle.tree.specs.TrueValue.{one, lower_at, true_value, holding_row}
use Rattle.tree.proofs.Lists.{All, all_at, sum_by, sum_but_one, count_place}
use Rattle.tree.proofs.Places.{live_holds, cover}
use Rattle.tree.proofs.Tiling.{Tiles, rows_tile_tiles}
use Rattle.tree.proofs.Holding.{HeldBy, holding_found}
use Rattle.tree.proofs.TrueValueSums.{number_if, true_measure}

-- Live at t, and starts at k or below
abbrev pub up_to : ℕ → ℕ → Row → Bool
up_to t k s = live t s && leb s.low k

holds_bounds : (k : ℕ) (r : Row) → holds k r ≡ true → (r.low ≤ k) × (k < r.high)
holds_bounds k r e =
    let parts = (and-eq-true_iff (leb r.low k) (ltb k r.high)).0 e in
    (leb-true _ _ parts.0, ltb-true _ _ parts.1)

bounds_hold : (k : ℕ) (r : Row) → r.low ≤ k → k < r.high → holds k r ≡ true
bounds_hold k r p q = simp (le-leb r.low k p, lt-ltb k r.high q)

module _ (t low high k : ℕ) (rows : List Row) (tiled : rows_tile t low high rows ≡ true) (p : low ≤ k) (q : k < high)
    (start : All (λ (s : Row). live t s ≡ true → low ≤ s.low) rows) {x : Placed} (found : holding_row t k rows ≡ one x) where
  -- Of any other row: it starts below the holding row just where it starts at k or below
  other : (f : Row → ℕ) (j : ℕ) → j < length rows → (j ≡ x.place → ⊥)
      → number_if f (lower_at t x.row) (get_or rows j x.row) ≡ number_if f (up_to t k) (get_or rows j x.row)
  other f j l n = go (live t s) refl (dec_le r.low s.low) (dec_le s.low k)
    where
      r : Row
      r = x.row

      s : Row
      s = get_or rows j x.row

      held : HeldBy t k r rows x
      held = holding_found t low high k r rows tiled p q found

      tiles : Tiles t low high rows
      tiles = rows_tile_tiles t low high rows tiled

      bounds : (r.low ≤ k) × (k < r.high)
      bounds = holds_bounds k r held.holding

      twice : live t s ≡ true → r.low ≤ s.low → s.low ≤ k → ⊥
      twice a b c =
          let from : low ≤ s.low = all_at (λ (s' : Row). live t s' ≡ true → low ≤ s'.low) rows j r start l a in
          let full : s.low < s.high = all_at (λ (s' : Row). live t s' ≡ true → s'.low < s'.high) rows j r tiles.full l a in
          let own : holds s.low s ≡ true = bounds_hold s.low s (le_refl _) full in
          let its : holds s.low r ≡ true = bounds_hold s.low r b (omega (arith, bounds.1)) in
          let once : cover t s.low rows ≡ 1 = tiles.once s.low from (omega arith) in
          let this : live_holds t s.low s ≡ true = (and-eq-true_iff _ _).1 (a, own) in
          let that : live_holds t s.low r ≡ true = (and-eq-true_iff _ _).1 (held.alive, its) in
          let that_there = subst (λ (s' : Row). live_holds t s.low s' ≡ true) held.same that in
          n (count_place (live_holds t s.low) rows j x.place r (omega (arith, once)) l this held.within that_there)

      go : (b : Bool) → live t s ≡ b → Dec (r.low ≤ s.low) → Dec (s.low ≤ k) → number_if f (lower_at t r) s ≡ number_if f (up_to t k) s
      go false a d e = simp a
      go true a (no b) e = simp (a, lt-ltb s.low r.low (omega arith), le-leb s.low k (omega (arith, bounds.0)))
      go true a (yes b) (no c) = simp (a, le-ltb s.low r.low b, lt-leb s.low k (omega arith))
      go true a (yes b) (yes c) = absurd (twice a b c)

  -- For any number of a row
  pub sum_up_to_lem : (f : Row → ℕ) → f x.row + sum_by (number_if f (lower_at t x.row)) rows ≡ sum_by (number_if f (up_to t k)) rows
  sum_up_to_lem f =
      let others = sum_but_one (number_if f (lower_at t r)) (number_if f (up_to t k)) rows x.place r held.within (other f) in
      omega (arith, others, lower, upper)
    where
      r : Row
      r = x.row

      held : HeldBy t k r rows x
      held = holding_found t low high k r rows tiled p q found

      lower : number_if f (lower_at t r) (get_or rows x.place r) ≡ 0
      lower = ap (number_if f (lower_at t r)) (sym held.same) ∙ simp (held.alive, le-ltb r.low r.low (le_refl _))

      upper : number_if f (up_to t k) (get_or rows x.place r) ≡ f r
      upper = ap (number_if f (up_to t k)) (sym held.same) ∙ simp (held.alive, le-leb r.low k (holds_bounds k r held.holding).0)

  pub true_up_to : (measure : Value → ℕ) → Measure measure
      → measure (true_value t rows x.row) ≡ sum_by (number_if (λ (s : Row). measure s.value) (up_to t k)) rows % 2 ^ 64
  true_up_to measure m = true_measure measure m t rows x.row ∙ ap (λ (n : ℕ). n % 2 ^ 64) (sum_up_to_lem (λ (s : Row). measure s.value))
