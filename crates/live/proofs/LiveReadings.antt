-- What the lists of a page's live rows say of the page: the page test, the holding row with its true value, the survey.
use Prim.Native.Nat.{ℕ, zero, suc, ◌+◌, ◌*◌, ◌%◌, ◌≤◌, ◌<◌}
use native.Mathlib.Omega.{arith}
use native.Mathlib.Decide.{dec_le}
use mathlib.Core.Path.{◌≡◌, refl, sym, ap, ap₂, ◌∙◌}
use mathlib.Core.Bool.{Bool, true, false, cond, ◌&&◌, and-eq-true_iff}
use mathlib.Core.List.{List, [], ◌∷◌, map}
use lib.Dec.{leb, ltb}
use lib.ListN.{length, get_or, take, length-map}
use borrow.Author.Tests.{leb-false, le-leb, lt-leb, lt-ltb, le-ltb}
use Rattle.std.specs.Prelude.{Result, Ok, Err}
use Rattle.words.specs.declared.value.Value.{Value}
use Rattle.words.specs.Value as value
use Rattle.words.specs.Value.{plus, value_at}
use Rattle.words.proofs.ValueLaws.{Stored, plus_stored, plus_zero, zero_plus, plus_assoc}
use Rattle.tree.specs.declared.types.Row.{Row}
use Rattle.tree.specs.declared.types.SpoiledPage.{SpoiledPage}
use Rattle.tree.specs.declared.types.Held.{Held}
use Rattle.tree.specs.declared.pages.TreePages.{TreePages}
use Rattle.tree.specs.declared.pages.ExpectedPage.{ExpectedPage}
use Rattle.tree.specs.Row.{word, page_words, row_at, row_start, row_words, rows_from, rows_of, header_words, holds, row_limit, live, value_start}
use Rattle.tree.specs.KeyOrder.{Placed, placed_low, placed_high, keep_if, live_placed, key_order}
use Rattle.tree.specs.PageTest.{header_fits, rows_tile, sound_at}
use Rattle.tree.specs.TrueValue.{Search, none, one, first, total_where, row_value, holding_row, held_as}
use Rattle.tree.specs.Tree.{page_at, met_at}
use Rattle.tree.specs.Use.{in_use}
use Rattle.tree.specs.Taking.{tree_of_pages, InUse}
use Rattle.tree.proofs.TableLaws.{page_length}
use Rattle.tree.proofs.Lists as lists
use Rattle.tree.proofs.Lists.{All, all_map, all_at}
use Rattle.tree.proofs.Sorted.{sort_all, all_sort, sort_sum, sort_total}
use Rattle.tree.proofs.Places.{cover, placed_holds, order_count, order_live, live_order}
use Rattle.tree.proofs.Tiling.{rows_tile_tiles, tiles_rows_tile}
use Rattle.tree.proofs.OrderTotals.{placed_value, total_stored, order_total}
use Rattle.live.specs.Survey.{is_around, starts_from, survey_of}
use Rattle.words.specs.Sums.{count}
use Rattle.ranges.specs.KeyRanges.{range_of, range_low, range_high, place_in, holds_key}
use Rattle.live.specs.LiveRows.{live_rows, Listed, AllIn}
use Rattle.tiles.specs.TileTest.{tiles}
use Rattle.std.specs.declared.option.Option.TheVariants.{Some, None}
use Rattle.ranges.specs.Nearest.{no_range, least, place_at, place_found}
use Rattle.live.specs.Tested.{TestedAs, ListsFit, held_tested, opened}
use Rattle.live.specs.LiveHeld.{add_below, held_at_place, held_among, survey_among}
use Rattle.rows.proofs.SeatedRows.{Seated, low_fits, high_fits, live_more, live_seated, live_from, order_seated}
use Rattle.tree.proofs.Searches.{first_has}
use Rattle.tree.proofs.Sorted.{sort_length}
use Rattle.tree.proofs.UseLaws.{in_use_inside}
use Rattle.live.proofs.PageReadings.{header_facts, sound_few}
use Rattle.ranges.proofs.NearestLaws.{Short, range_low_is, range_high_is, row_fits, least_inside, place_is_first}
use Rattle.tiles.proofs.RangeTiles.{tiles_once, once_tiles}

-- Tests that agree on all items of a list find the same item
first_same : {A : Type 0} (f g : A → Bool) (xs : List A) → All (λ (x : A). f x ≡ g x) xs → first f xs ≡ first g xs
unfolding first
first_same f g [] h = refl
first_same f g (x ∷ xs) h = ap₂ (λ (b : Bool) (s : Search _). cond b (one x) s) h.0 (first_same f g xs h.1)

both_true : (a b : Bool) → (a ≡ true → b ≡ true) → (b ≡ true → a ≡ true) → a ≡ b
both_true true b f g = sym (f refl)
both_true false true f g = g refl
both_true false false f g = refl

-- Bounds as one search takes them
less_next : (a b : ℕ) → ltb a (b + 1) ≡ leb a b
less_next a b = go (dec_le a b)
  where
    go : Dec (a ≤ b) → ltb a (b + 1) ≡ leb a b
    go (yes h) = lt-ltb a (b + 1) (omega arith) ∙ sym (le-leb a b h)
    go (no h) = le-ltb a (b + 1) (omega arith) ∙ sym (lt-leb a b (omega arith))

next_at_most : (a b : ℕ) → leb (a + 1) b ≡ ltb a b
next_at_most a b = go (dec_le (a + 1) b)
  where
    go : Dec (a + 1 ≤ b) → leb (a + 1) b ≡ ltb a b
    go (yes h) = le-leb (a + 1) b h ∙ sym (lt-ltb a b (omega arith))
    go (no h) = lt-leb (a + 1) b (omega arith) ∙ sym (le-ltb a b (omega arith))

-- No more rows are live than there are
pub live_few : (page : List ℕ) (t from m : ℕ) → length (live_from page t from m) ≤ m
unfolding live_placed rows_from
live_few page t from zero = omega arith
live_few page t from (suc m) = rw (live_more page t from m) (go (live t (row_at page (row_start from))) (live_few page t (suc from) m))
  where
    go : (b : Bool) → length (live_from page t (suc from) m) ≤ m → length (keep_if b (record { place = from; row = row_at page (row_start from) }) (live_from page t (suc from) m)) ≤ suc m
    go true h = omega arith
    go false h = omega arith

module _ (page : List ℕ) (t n : ℕ) (few : n ≤ row_limit) where
  seated : All (Seated page n) (live_rows t page n)
  seated = live_seated page n t 0 n (omega arith)

  short : (x : Placed) → Seated page n x → Short x
  short x s = record { low_short = low_fits page n x s; high_short = high_fits page n x s }

  pub rows_short : All Short (live_rows t page n)
  rows_short = all_map (Seated page n) Short short (live_rows t page n) seated

  order_short : All Short (key_order t (rows_from page header_words n))
  order_short = sort_all placed_low Short (live_rows t page n) rows_short

  pub few_live : length (live_rows t page n) ≤ row_limit
  few_live = omega (arith, live_few page t 0 n)

  -- The places lie in the page
  pub all_in : row_start n ≤ length page → AllIn page (map place_in (live_rows t page n))
  all_in h = mapped (live_rows t page n) seated
    where
      mapped : (xs : List Placed) → All (Seated page n) xs → AllIn page (map place_in xs)
      mapped [] s = tt
      mapped (x ∷ xs) s = (omega (arith, s.0.within), mapped xs s.1)

  -- The tile test is the page test's walk
  count_rows : (q : ℕ) → count (holds_key q) (map range_of (live_rows t page n)) ≡ cover t q (rows_from page header_words n)
  count_rows q =
      mapped (live_rows t page n) rows_short
      ∙ sym (sort_sum placed_low (lists.one_if (placed_holds q)) (live_rows t page n)) ∙ order_count t q (rows_from page header_words n)
    where
      mapped : (xs : List Placed) → All Short xs → count (holds_key q) (map range_of xs) ≡ lists.count (placed_holds q) xs
      mapped [] s = refl
      mapped (x ∷ xs) s = rw (range_low_is x s.0, range_high_is x s.0) (ap (◌+◌ (lists.one_if (placed_holds q) x)) (mapped xs s.1))

  full_rows : All (λ (e : ℕ). range_low e < range_high e) (map range_of (live_rows t page n)) → All (λ (x : Placed). x.row.low < x.row.high) (live_rows t page n)
  full_rows h = mapped (live_rows t page n) rows_short h
    where
      mapped : (xs : List Placed) → All Short xs → All (λ (e : ℕ). range_low e < range_high e) (map range_of xs) → All (λ (x : Placed). x.row.low < x.row.high) xs
      mapped [] s h = tt
      mapped (x ∷ xs) s h = (rw (range_low_is x s.0, range_high_is x s.0) at h.0, mapped xs s.1 h.1)

  rows_full : All (λ (x : Placed). x.row.low < x.row.high) (live_rows t page n) → All (λ (e : ℕ). range_low e < range_high e) (map range_of (live_rows t page n))
  rows_full h = mapped (live_rows t page n) rows_short h
    where
      mapped : (xs : List Placed) → All Short xs → All (λ (x : Placed). x.row.low < x.row.high) xs → All (λ (e : ℕ). range_low e < range_high e) (map range_of xs)
      mapped [] s h = tt
      mapped (x ∷ xs) s h = (rw (range_low_is x s.0, range_high_is x s.0) h.0, mapped xs s.1 h.1)

  pub tile_says : (low high : ℕ) → low < high →
      tiles low high (map range_of (live_rows t page n)) ≡ rows_tile t low high (rows_from page header_words n)
  tile_says low high some = both_true _ _ forth back
    where
      forth : tiles low high (map range_of (live_rows t page n)) ≡ true → rows_tile t low high (rows_from page header_words n) ≡ true
      forth e =
          let o = tiles_once low high some (map range_of (live_rows t page n)) e in
          tiles_rows_tile t low high (rows_from page header_words n) some
          (record {
            once = λ q l h. sym (count_rows q) ∙ o.once q l h;
            full = order_live (λ (r : Row). r.low < r.high) t (rows_from page header_words n)
                (sort_all placed_low (λ (x : Placed). x.row.low < x.row.high) (live_rows t page n) (full_rows o.full));
          })

      back : rows_tile t low high (rows_from page header_words n) ≡ true → tiles low high (map range_of (live_rows t page n)) ≡ true
      back e =
          let s = rows_tile_tiles t low high (rows_from page header_words n) e in
          once_tiles low high some (map range_of (live_rows t page n))
          (record {
            once = λ q l h. count_rows q ∙ s.once q l h;
            full = rows_full (all_sort placed_low (λ (x : Placed). x.row.low < x.row.high) (live_rows t page n)
                (live_order (λ (r : Row). r.low < r.high) t (rows_from page header_words n) s.full));
          })

  -- A search for bounds is one in key order
  found_says : (from below above : ℕ) (test : Placed → Bool) → ((x : Placed) → Short x → row_fits from below above x ≡ test x) →
      place_at (map place_in (live_rows t page n)) (least from below above 0 (map range_of (live_rows t page n)))
      ≡ place_found (first test (key_order t (rows_from page header_words n)))
  found_says from below above test same =
      place_is_first from below above (live_rows t page n) rows_short (omega (arith, few_live))
      ∙ ap place_found (first_same (row_fits from below above) test (key_order t (rows_from page header_words n))
      (all_map Short (λ (x : Placed). row_fits from below above x ≡ test x) same (key_order t (rows_from page header_words n)) order_short))

  pub around_says : (k : ℕ) →
      place_at (map place_in (live_rows t page n)) (least 0 k (k + 1) 0 (map range_of (live_rows t page n)))
      ≡ place_found (first (is_around k) (key_order t (rows_from page header_words n)))
  around_says k =
      found_says 0 k (k + 1) (is_around k)
      (λ x s. rw (le-leb 0 (placed_low x) (omega arith), next_at_most k (placed_high x)))

  pub from_says : (k : ℕ) →
      place_at (map place_in (live_rows t page n)) (least k 65536 0 0 (map range_of (live_rows t page n)))
      ≡ place_found (first (starts_from k) (key_order t (rows_from page header_words n)))
  from_says k =
      found_says k 65536 0 (starts_from k)
      (λ x s. rw (lt-ltb (placed_low x) 65536 s.low_short, le-leb 0 (placed_high x) (omega arith)) (and-true (leb k (placed_low x))))
    where
      and-true : (b : Bool) → (b && (true && true)) ≡ b
      and-true true = refl
      and-true false = refl

  holds_says : (k : ℕ) →
      place_at (map place_in (live_rows t page n)) (least 0 (k + 1) (k + 1) 0 (map range_of (live_rows t page n)))
      ≡ place_found (holding_row t k (rows_from page header_words n))
  holds_says k =
      found_says 0 (k + 1) (k + 1) (λ (x : Placed). holds k x.row)
      (λ x s. rw (le-leb 0 (placed_low x) (omega arith), less_next (placed_low x) k, next_at_most k (placed_high x)))

  -- The values of the rows with a lower low key
  below_total : (low : ℕ) (total : Value) (xs : List Placed) → Stored total → All (Seated page n) xs →
      add_below page low total (map range_of xs) (map place_in xs) ≡ plus total (total_where placed_value (λ (x : Placed). ltb x.row.low low) xs)
  unfolding add_below total_where
  below_total low total [] st se = sym (plus_zero total st)
  below_total low total (x ∷ xs) st se =
      let own : value_at page (row_start x.place + value_start) ≡ placed_value x = sym (ap row_value se.0.same) in
      rw (range_low_is x (short x se.0), own)
      (below_total low (plus total (cond (ltb x.row.low low) (placed_value x) value.zero)) xs (plus_stored _ _) se.1
      ∙ plus_assoc total _ _)

  total_says : (low : ℕ) →
      add_below page low value.zero (map range_of (live_rows t page n)) (map place_in (live_rows t page n))
      ≡ total_where row_value (λ (r : Row). live t r && ltb r.low low) (rows_from page header_words n)
  total_says low =
      below_total low value.zero (live_rows t page n) (omega arith) seated
      ∙ zero_plus _ (total_stored placed_value (λ (x : Placed). ltb x.row.low low) (live_rows t page n))
      ∙ sym (sort_total placed_low placed_value (λ (x : Placed). ltb x.row.low low) (live_rows t page n))
      ∙ order_total t (λ (r : Row). ltb r.low low) (rows_from page header_words n)

  pub held_says : (k : ℕ) →
      held_among page (map range_of (live_rows t page n)) (map place_in (live_rows t page n)) k
      ≡ held_as t (rows_from page header_words n) (holding_row t k (rows_from page header_words n))
  held_says k =
      ap (held_at_place page (map range_of (live_rows t page n)) (map place_in (live_rows t page n))) (holds_says k)
      ∙ go (holding_row t k (rows_from page header_words n)) refl
    where
      holder : Row → Value → Result Held SpoiledPage
      holder r v = Ok (record { row = r; value = v })

      go : (s : Search Placed) → holding_row t k (rows_from page header_words n) ≡ s →
          held_at_place page (map range_of (live_rows t page n)) (map place_in (live_rows t page n)) (place_found s)
          ≡ held_as t (rows_from page header_words n) s
      go none e = refl
      go (one x) e =
          let s = first_has (Seated page n) _ _ (order_seated page n t 0 n (omega arith)) e in
          ap (λ (r : Row). holder r (plus r.value (add_below page r.low value.zero (map range_of (live_rows t page n)) (map place_in (live_rows t page n))))) (sym s.same)
          ∙ ap (λ (v : Value). holder x.row (plus x.row.value v)) (total_says x.row.low)

-- The survey from the lists is the page's
pub survey_says : (t k : ℕ) (page : List ℕ) → word page 1 ≤ row_limit →
    survey_among (word page 1) k (map range_of (live_rows t page (word page 1))) (map place_in (live_rows t page (word page 1))) ≡ survey_of t k page
survey_says t k page few =
    let live_is : length (map range_of (live_rows t page (word page 1))) ≡ length (key_order t (rows_of page)) =
    length-map (live_rows t page (word page 1)) range_of ∙ sym (sort_length placed_low (live_rows t page (word page 1))) in
    λ i. record {
      rows = word page 1;
      live = live_is i;
      inner = around_says page t (word page 1) few k i;
      gain = from_says page t (word page 1) few k i;
    }

-- The place that a search finds is one of those listed, so its row lies in the page
pub place_in_lem : (page ranges places : List ℕ) (from below above : ℕ) → length ranges ≤ row_limit → length places ≡ length ranges →
    AllIn page places → {p : ℕ} → Some p ≡ place_at places (least from below above 0 ranges) → row_start p + row_words ≤ length page
place_in_lem page ranges places from below above few same h {p} e = go (leb no_range (least from below above 0 ranges)) refl e
  where
    go : (b : Bool) → leb no_range (least from below above 0 ranges) ≡ b →
        Some p ≡ cond b None (Some (get_or places (least from below above 0 ranges % 256) 0)) → row_start p + row_words ≤ length page
    go true f r = let z : ◌≡◌ {A = ℕ} 0 1 = cc in absurd (omega arith)
    go false f r =
        let inside = least_inside from below above 0 ranges (omega arith) (leb-false no_range (least from below above 0 ranges) f) in
        let is : get_or places (least from below above 0 ranges % 256) 0 ≡ p = cc in
        rw (← is) (all_at (λ (q : ℕ). row_start q + row_words ≤ length page) places (least from below above 0 ranges % 256) 0 h (omega (arith, inside)))

-- What the test of a page leaves
module _ (t level low high : ℕ) (page ranges places : List ℕ) where
  module _ (some : low < high) (fits : header_fits level low high page ≡ true) where
    pub few_rows : word page 1 ≤ row_limit
    few_rows = (header_facts level low high page fits).few_rows

    -- the tile test of the listed rows
    pub tested_says : (n : ℕ) → Listed t page (word page 1) ranges places n → tiles low high (take n ranges) ≡ sound_at t level low high page
    tested_says n l = rw (l.ranges_are, tile_says page t (word page 1) few_rows low high some, fits)

-- The lists, said of the parts of the arrays that are lent on
module _ (t : ℕ) (page : List ℕ) (rows : ℕ) (ranges places : List ℕ) (n : ℕ) (l : Listed t page rows ranges places n) where
  pub ranges_length : n ≡ length (take n ranges)
  ranges_length = l.counted ∙ sym (ap (λ (x : List ℕ). length x) l.ranges_are ∙ length-map (live_rows t page rows) range_of)

  pub places_length : n ≡ length (take n places)
  places_length = l.counted ∙ sym (ap (λ (x : List ℕ). length x) l.places_are ∙ length-map (live_rows t page rows) place_in)

  pub ranges_few : length (take n ranges) ≤ row_limit
  ranges_few = omega (arith, ranges_length, l.bounded)

  pub same_length : length (take n places) ≡ length (take n ranges)
  same_length = sym places_length ∙ ranges_length

module _ (t : ℕ) (page ranges places : List ℕ) (n : ℕ) (few : word page 1 ≤ row_limit) (l : Listed t page (word page 1) ranges places n) where
  pub listed_in : row_start (word page 1) ≤ length page → AllIn page (take n places)
  listed_in h = rw l.places_are (all_in page t (word page 1) few h)

  pub held_listed : (k : ℕ) → held_among page (take n ranges) (take n places) k ≡ held_as t (rows_of page) (holding_row t k (rows_of page))
  held_listed k = rw (l.ranges_are, l.places_are) (held_says page t (word page 1) few k)

  pub survey_listed : (k : ℕ) → survey_among (word page 1) k (take n ranges) (take n places) ≡ survey_of t k page
  survey_listed k = rw (l.ranges_are, l.places_are) (survey_says t k page few)

-- A page of the table that passed its test: it lies in the table, and its live rows are listed
module _ (pages : TreePages) (t : ℕ) (e : ExpectedPage) where
  abbrev meets : Bool
  meets = met_at (tree_of_pages pages) t e.level e.low e.high e.page

  abbrev words : List ℕ
  words = page_at pages.table.now e.page

  module _ (met : meets ≡ true) where
    parts : InUse pages.used e.page × (sound_at t e.level e.low e.high words ≡ true)
    parts = (and-eq-true_iff (in_use pages.used e.page) (sound_at t e.level e.low e.high words)).0 met

    pub met_inside : e.page * page_words + page_words ≤ length pages.table.now
    met_inside = in_use_inside pages.used e.page pages.table.now parts.0 pages.page_words_in_bounds

    pub met_few : word words 1 ≤ row_limit
    met_few = sound_few t e.level e.low e.high words parts.1

    met_places : (ranges places : List ℕ) (n : ℕ) → Listed t words (word words 1) ranges places n → AllIn words (take n places)
    met_places ranges places n l = listed_in t words ranges places n met_few l (omega (arith, met_few, page_length pages.table.now e.page met_inside))

    pub met_survey_lem : (w : List ℕ) → w ≡ words → (ranges places : List ℕ) (n : ℕ) → Listed t words (word words 1) ranges places n → (k : ℕ)
        → survey_among (word w 1) k (take n ranges) (take n places) ≡ survey_of t k words
    met_survey_lem w here ranges places n l k = rw here (survey_listed t words ranges places n met_few l k)

  -- What is read from the lists that opening the page made
  module _ (ranges places : List ℕ) where
    pub opened_fits : (r : Result ℕ SpoiledPage) → TestedAs meets t words ranges places r → ListsFit pages.table.now e.page ranges places r
    opened_fits (Err e) h = tt
    opened_fits (Ok n) h = (met_inside h.0, h.1.bounded, ranges_length _ _ _ _ _ _ h.1, places_length _ _ _ _ _ _ h.1, met_places h.0 ranges places n h.1)

    pub opened_held : (k : ℕ) (r : Result ℕ SpoiledPage) → TestedAs meets t words ranges places r
        → held_tested pages.table.now e.page ranges places k r ≡ opened (tree_of_pages pages) t k e.level e.low e.high e.page
    opened_held k (Err e) h = rw h
    opened_held k (Ok n) h = rw h.0 (held_listed t words ranges places n (met_few h.0) h.1 k)
