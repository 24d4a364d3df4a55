-- The entries of a page's key order, and its live rows: the copies of the entries' rows are the rows that an overflow copies, in their order.
use Prim.Native.Nat.{ℕ, ◌+◌, ◌-◌, ◌^◌, ◌≤◌, ◌<◌}
use native.Mathlib.Omega.{arith}
use mathlib.Core.Path.{◌≡◌, refl, ap, ap₂, sym, ◌∙◌}
use mathlib.Core.List.{List, [], ◌∷◌, ◌++◌, map}
use lib.ListN.{length, get_or, take, drop, length-map, length-append, length-drop}
use lib.Seq.{take_all, drop-drop, length-take-le}
use borrow.Author.Tests.{le-leb, lt-leb}
use Rattle.words.specs.Lists.{All}
use Rattle.words.specs.Words.{low_key, high_key}
use Rattle.words.specs.Value as value
use Rattle.tree.specs.declared.types.Row.{Row}
use Rattle.tree.specs.Row.{word, row_start, row_words, rows_of, copy_limit}
use Rattle.tree.specs.Limits.{most_rows}
use Rattle.tree.specs.RowEdits.{row_in}
use Rattle.tree.specs.KeyOrder.{Placed, key_order}
use Rattle.tree.specs.Edit.{born_at}
use Rattle.tree.specs.Fresh.{fresh_page}
use Rattle.tree.proofs.Lists.{all_take, all_drop, map_take, map_drop}
use Rattle.page.specs.PageValue.{encode_page, empty_page}
use Rattle.key_order.specs.Entries.{entry_of, entry_place, InPage}
use Rattle.rows.proofs.SeatedRows.{Seated, order_seated}
use Rattle.key_order.proofs.EntryLaws.{seated_place}
use Rattle.words.proofs.LoopLaws.{drop_here}
use Rattle.key_order.proofs.OrderReadings.{in_page, entries_are}
use Rattle.tree.specs.declared.types.TreeUse.{TreeUse}
use Rattle.tree.specs.Tree.{put_page}
use Rattle.tree.specs.declared.types.Became.TheVariants.{Copied, Halved}
use Rattle.tree.specs.Overflow.{lower_count, lowest_key, gain_first, total_of, lower_half}
use Rattle.tree.specs.Use.{taken_page}
use Rattle.split.specs.SplitWords.{scratch_words, Sourced, between, entry_row, copy_of, fill_page, add_rows, gain_page}
use Rattle.split.specs.SplitWords.{live_copies, copied_table, middle_key, halved_table, split_words}
use Rattle.split.proofs.SplitLaws.{filled_fresh, filled_gained, added_from_zero}

module _ (t : ℕ) (words order : List ℕ) (start : ℕ) (from : Sourced t words order start) where
  pub copies : map (copy_of words t) (drop start order) ≡ live_copies words t
  copies =
      ap (map (copy_of words t)) from.is.entries
      ∙ go (key_order t (rows_of words)) (order_seated words (word words 1) t 0 (word words 1) (omega arith))
    where
      go : (xs : List Placed) → All (Seated words (word words 1)) xs →
          map (copy_of words t) (map entry_of xs) ≡ map (λ (x : Placed). born_at t x.row) xs
      go [] s = refl
      go (x ∷ xs) s =
          ap₂ ◌∷◌ (ap (born_at t) (ap (row_in words) (seated_place words (word words 1) from.few x s.0) ∙ sym s.0.same)) (go xs s.1)

  pub live_count : start + length (live_copies words t) ≡ most_rows
  live_count = omega (arith, from.is.room, length-map (key_order t (rows_of words)) (λ (x : Placed). born_at t x.row))

  pub start_in : start ≤ most_rows
  start_in = omega (arith, live_count)

  -- Each entry's row lies in the words
  pub in_words : InPage words (drop start order)
  in_words = in_page words t (word words 1) from.few (drop start order) from.is.entries (omega arith)

  drop_from : (n : ℕ) → start ≤ n → drop n order ≡ drop (n - start) (drop start order)
  drop_from n h = let e : n ≡ start + (n - start) = omega arith in ap (λ (m : ℕ). drop m order) e ∙ sym (drop-drop (n - start) start order)

  pub in_words_from : (n : ℕ) → start ≤ n → InPage words (drop n order)
  in_words_from n h =
      rw (drop_from n h) (all_drop (λ (e : ℕ). row_start (entry_place e) + row_words ≤ length words) (n - start) (drop start order) in_words)

  pub in_words_between : (n m : ℕ) → start ≤ n → InPage words (between n m order)
  in_words_between n m h = all_take (λ (e : ℕ). row_start (entry_place e) + row_words ≤ length words) (m - n) (drop n order) (in_words_from n h)

  between_all : (n : ℕ) → between n most_rows order ≡ drop n order
  between_all n = take_all (most_rows - n) (drop n order) (omega (arith, length-drop n order))

  pub between_length : (n m : ℕ) → n ≤ m → m ≤ most_rows → length (between n m order) ≡ m - n
  between_length n m h l = length-take-le (m - n) (drop n order) (omega (arith, length-drop n order))

  -- One new page
  pub copy_table : ((i : ℕ) → word words i < 2 ^ 64) → (table : List ℕ) (number : ℕ) → most_rows ≤ start + copy_limit →
      put_page table number
      (encode_page (gain_page value.zero (fill_page words t (empty_page (word words 0) (low_key (word words 2)) (high_key (word words 2)) t) (between start most_rows order))))
      ≡ copied_table table number words t
  unfolding copied_table
  copy_table small table number h =
      ap (put_page table number)
      (filled_fresh words t (word words 0) (low_key (word words 2)) (high_key (word words 2)) (between start most_rows order) small
      (omega (arith, between_length start most_rows start_in (omega arith)))
      ∙ ap (fresh_page (word words 0) (low_key (word words 2)) (high_key (word words 2)) t)
      (ap (map (copy_of words t)) (between_all start) ∙ copies))

  -- Two new pages, cut behind the larger half
  module _ (cut : ℕ) (where_cut : cut ≡ start + lower_half (most_rows - start)) where
    cut_is : cut ≡ start + lower_count (live_copies words t)
    cut_is = omega (arith, live_count)

    lower_is : map (copy_of words t) (between start cut order) ≡ take (lower_count (live_copies words t)) (live_copies words t)
    lower_is =
        let n : cut - start ≡ lower_count (live_copies words t) = omega (arith, cut_is) in
        map_take (copy_of words t) (cut - start) (drop start order) ∙ ap₂ take n copies

    drop_is : map (copy_of words t) (drop cut order) ≡ drop (lower_count (live_copies words t)) (live_copies words t)
    drop_is =
        let n : cut - start ≡ lower_count (live_copies words t) = omega (arith, cut_is) in
        ap (map (copy_of words t)) (drop_from cut (omega arith))
        ∙ map_drop (copy_of words t) (cut - start) (drop start order)
        ∙ ap₂ drop n copies

    upper_is : map (copy_of words t) (between cut most_rows order) ≡ drop (lower_count (live_copies words t)) (live_copies words t)
    upper_is = ap (map (copy_of words t)) (between_all cut) ∙ drop_is

    -- The key where the pages are cut is the low key of the upper page's first row
    pub middle_is : cut < most_rows → (entry_row words (get_or order cut 0)).low ≡ middle_key words t
    unfolding middle_key
    middle_is h =
        ap (λ (l : List Row). lowest_key (high_key (word words 2)) l)
        (ap (map (copy_of words t)) (sym (drop_here order cut (omega arith))) ∙ drop_is)

    pub halve_table : ((i : ℕ) → word words i < 2 ^ 64) → (table : List ℕ) (first second middle : ℕ) → middle ≡ middle_key words t →
        put_page
        (put_page table first
        (encode_page (gain_page value.zero (fill_page words t (empty_page (word words 0) (low_key (word words 2)) middle t) (between start cut order)))))
        second
        (encode_page
        (gain_page (add_rows words value.zero (between start cut order))
        (fill_page words t (empty_page (word words 0) middle (high_key (word words 2)) t) (between cut most_rows order))))
        ≡ halved_table table first second words t
    unfolding halved_table
    halve_table small table first second middle e =
        let level : ℕ = word words 0 in
        let low : ℕ = low_key (word words 2) in
        let high : ℕ = high_key (word words 2) in
        let in_order : cut ≤ most_rows = omega (arith, start_in) in
        let after : start ≤ cut = omega arith in
        let lower : encode_page (gain_page value.zero (fill_page words t (empty_page level low middle t) (between start cut order)))
        ≡ fresh_page level low (middle_key words t) t (take (lower_count (live_copies words t)) (live_copies words t)) =
        filled_fresh words t level low middle (between start cut order) small (omega (arith, between_length start cut after in_order))
        ∙ ap₂ (λ (m : ℕ) (l : List Row). fresh_page level low m t l) e lower_is in
        let total : add_rows words value.zero (between start cut order) ≡ total_of (take (lower_count (live_copies words t)) (live_copies words t)) =
        added_from_zero words t (between start cut order) ∙ ap total_of lower_is in
        let upper : encode_page
        (gain_page (add_rows words value.zero (between start cut order))
        (fill_page words t (empty_page level middle high t) (between cut most_rows order)))
        ≡ fresh_page level (middle_key words t) high t
        (gain_first (total_of (take (lower_count (live_copies words t)) (live_copies words t))) (drop (lower_count (live_copies words t)) (live_copies words t))) =
        filled_gained words t level middle high (between cut most_rows order) (add_rows words value.zero (between start cut order))
        (omega (arith, between_length cut most_rows in_order (omega arith)))
        ∙ ap₂ (λ (m : ℕ) (l : List Row). fresh_page level m high t l) e (ap₂ gain_first total upper_is) in
        ap₂ (λ (a b : List ℕ). put_page (put_page table first a) second b) lower upper

-- What `key_order` leaves is such a source
pub sourced : (t : ℕ) (words before order : List ℕ) (start : ℕ) → length words ≡ scratch_words → word words 1 ≤ most_rows → length before ≡ most_rows →
    start + length (key_order t (rows_of words)) ≡ most_rows →
    order ≡ take start before ++ map entry_of (key_order t (rows_of words)) → Sourced t words order start
sourced t words before order start room few full ends list =
    record {
      room = room;
      few = few;
      long =
          ap length list
          ∙ length-append (take start before) (map entry_of (key_order t (rows_of words)))
          ∙ ap₂ ◌+◌ (length-take-le start before (omega arith)) (length-map (key_order t (rows_of words)) entry_of)
          ∙ ends;
      is = record { room = ends; entries = entries_are words t (word words 1) few before start order full ends list };
    }

-- The two ways of an overflow
module _ (table : List ℕ) (used : TreeUse) (made : ℕ) (words : List ℕ) (t : ℕ) where
  pub split_copied : length (live_copies words t) ≤ copy_limit →
      split_words table used made words t
      ≡ record {
        table = copied_table table (taken_page used made) words t;
        made = made + 1;
        became = Copied (record { page = taken_page used made; low = low_key (word words 2); high = high_key (word words 2) });
      }
  unfolding copied_table
  split_copied h = rw (le-leb _ _ h)

  pub split_halved : copy_limit < length (live_copies words t) →
      split_words table used made words t
      ≡ record {
        table = halved_table table (taken_page used made) (taken_page used (made + 1)) words t;
        made = made + 2;
        became =
            Halved (record { page = taken_page used made; low = low_key (word words 2); high = middle_key words t })
            (record { page = taken_page used (made + 1); low = middle_key words t; high = high_key (word words 2) });
      }
  unfolding halved_table middle_key
  split_halved h = rw (lt-leb _ _ h)
