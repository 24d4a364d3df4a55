-- The loops over a page's rows that list the live ones, and over the lists that add values.
use Prim.Native.Nat.{ℕ, suc, ◌+◌, ◌-◌, ◌≤◌, ◌<◌}
use native.Mathlib.Omega.{arith}
use native.Mathlib.Decide.{dec_le}
use native.Mathlib.Numerals.{add-one}
use mathlib.Core.Path.{◌≡◌, sym, ap, ◌∙◌}
use mathlib.Core.Bool.{Bool, true, false, cond}
use mathlib.Core.List.{List, [], ◌∷◌, ◌++◌, map, append_assoc, append-nil}
use lib.Dec.{ltb}
use lib.ListN.{length, get_or, set, take, drop, length-map}
use borrow.Author.Tests.{lt-ltb, le-ltb}
use Rattle.words.specs.Words.{end_of}
use lib.Seq.{take-set-le, take-suc-set, length-take-le}
use Rattle.words.specs.declared.value.Value.{Value}
use Rattle.words.specs.Value as value
use Rattle.tree.specs.Row.{row_start, rows_from, row_limit, live, value_start}
use Rattle.tree.specs.RowEdits.{row_in}
use Rattle.tree.specs.KeyOrder.{Placed, keep_if, live_placed}
use Rattle.rows.specs.RowPlaces.{placed_at}
use Rattle.ranges.specs.KeyRanges.{range_of, range_low, place_in}
use Rattle.live.specs.LiveRows.{ended_by, live_rows, Listed}
use Rattle.live.specs.LiveHeld.{add_below}
use Rattle.rows.proofs.SeatedRows.{live_from, live_more}
use Rattle.words.proofs.LoopLaws.{drop_here, drop_none}

-- One comparison of whole words tells whether an end is after t
pub ended_says : (life t : ℕ) → ltb (ended_by t) life ≡ ltb t (end_of life)
ended_says life t = go (dec_le (ended_by t + 1) life)
  where
    go : Dec (ended_by t + 1 ≤ life) → ltb (ended_by t) life ≡ ltb t (end_of life)
    go (yes h) = lt-ltb (ended_by t) life (omega arith) ∙ sym (lt-ltb t (end_of life) (omega arith))
    go (no h) = le-ltb (ended_by t) life (omega arith) ∙ sym (le-ltb t (end_of life) (omega arith))

-- What a list has at its front, and what of the rows from `place` on is still to come: together that of all live rows
module _ (page : List ℕ) (t : ℕ) (f : Placed → ℕ) (all : List ℕ) where
  abbrev pub Listing : ℕ → ℕ → ℕ → List ℕ → Type 0
  Listing count place m l = take count l ++ map f (live_from page t place m) ≡ all

  one_more : (count place m : ℕ) (l : List ℕ) → count < length l → Listing count place (suc m) l →
      Listing (count + cond (live t (row_in page place)) 1 0) (suc place) m (set l count (f (placed_at page place)))
  one_more count place m l h e = go (live t (row_in page place)) (ap (λ (xs : List Placed). take count l ++ map f xs) (sym (live_more page t place m)) ∙ e)
    where
      go : (b : Bool) → take count l ++ map f (keep_if b (placed_at page place) (live_from page t (suc place) m)) ≡ all →
          take (count + cond b 1 0) (set l count (f (placed_at page place))) ++ map f (live_from page t (suc place) m) ≡ all
      go true r =
          ap (λ (n : ℕ). take n (set l count (f (placed_at page place))) ++ map f (live_from page t (suc place) m)) (add-one count)
          ∙ ap (λ (xs : List ℕ). xs ++ map f (live_from page t (suc place) m)) (take-suc-set l count (f (placed_at page place)) h)
          ∙ append_assoc (take count l) (f (placed_at page place) ∷ []) (map f (live_from page t (suc place) m)) ∙ r
      go false r =
          let same : count + 0 ≡ count = omega arith in
          ap (λ (n : ℕ). take n (set l count (f (placed_at page place))) ++ map f (live_from page t (suc place) m)) same
          ∙ ap (λ (xs : List ℕ). xs ++ map f (live_from page t (suc place) m)) (take-set-le count l count (f (placed_at page place)) (omega arith)) ∙ r

  -- the same in the loop's own terms
  pub listing_starts : (rows : ℕ) (l : List ℕ) → map f (live_rows t page rows) ≡ all → Listing 0 0 (rows - 0) l
  listing_starts rows l e = let same : rows - 0 ≡ rows = omega arith in rw same e

  pub listing_on : (rows count place : ℕ) (l : List ℕ) → place < rows → count < length l → Listing count place (rows - place) l →
      Listing (count + cond (live t (row_in page place)) 1 0) (place + 1) (rows - (place + 1)) (set l count (f (placed_at page place)))
  listing_on rows count place l p h e =
      let left : rows - place ≡ suc (rows - (place + 1)) = omega arith in
      rw (add-one place)
      (one_more count place (rows - suc place) l h (rw (left, add-one place) at e))

  pub listing_done : (rows count place : ℕ) (l : List ℕ) → rows ≤ place → Listing count place (rows - place) l → take count l ≡ all
  unfolding live_placed rows_from
  listing_done rows count place l h e =
      let none : rows - place ≡ 0 = omega arith in
      sym (append-nil (take count l)) ∙ (rw none at e)

pub listed : (t : ℕ) (page : List ℕ) (n : ℕ) (ranges places : List ℕ) (count : ℕ) → count ≤ length ranges → count ≤ row_limit →
    take count ranges ≡ map range_of (live_rows t page n) → take count places ≡ map place_in (live_rows t page n) → Listed t page n ranges places count
listed t page n ranges places count h b r p =
    record {
      counted = sym (length-take-le count ranges h) ∙ ap (λ (l : List ℕ). length l) r ∙ length-map (live_rows t page n) range_of;
      bounded = b;
      ranges_are = r;
      places_are = p;
    }

-- The loop that adds the values of rows with a lower low key
module _ (page : List ℕ) (low : ℕ) (ranges places : List ℕ) (same : length places ≡ length ranges) (at : ℕ) (total : Value) where
  pub below_on : at < length ranges →
      add_below page low total (drop at ranges) (drop at places)
      ≡ add_below page low (value.plus total (cond (ltb (range_low (get_or ranges at 0)) low) (value.value_at page (row_start (get_or places at 0) + value_start)) value.zero))
      (drop (at + 1) ranges) (drop (at + 1) places)
  unfolding add_below
  below_on h = rw (drop_here ranges at h, drop_here places at (omega arith))

  pub below_none : length ranges ≤ at → add_below page low total (drop at ranges) (drop at places) ≡ total
  unfolding add_below
  below_none h = rw (drop_none ranges at h)
