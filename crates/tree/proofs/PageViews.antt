-- Steps 5 and 6 are the model's: a page that takes its rows, or whose live rows go to one new page or to two.
use Prim.Native.Nat.{ℕ, suc, ◌+◌, ◌*◌, ◌-◌, ◌/◌, ◌%◌, ◌≤◌, ◌<◌}
use native.Mathlib.Omega.{arith}
use native.Mathlib.Decide.{ℕ_discrete}
use mathlib.Core.Path.{◌≡◌, refl, sym, ap, ap₂, ◌∙◌, subst, subst₃}
use mathlib.Core.Logic.{◌⊎◌, inl, inr}
use mathlib.Core.Bool.{Bool, true, false, cond}
use mathlib.Core.List.{List, [], ◌∷◌, map, map-map}
use lib.Dec.{leb}
use lib.ListN.{length, take, drop, length-map, length-take, length-drop}
use borrow.Author.Tests.{leb-true}
use Rattle.words.specs.Lists.{All}
use Rattle.words.specs.Words.{open_end, low_key, high_key}
use Rattle.words.specs.declared.value.Value.{Value}
use Rattle.words.specs.Value.{plus}
use Rattle.words.proofs.Measure.{Measure}
use Rattle.tree.specs.declared.types.Row.{Row}
use Rattle.tree.specs.Row.{word, row_limit, copy_limit, page_words}
use Rattle.tree.specs.Limits.{most_rows}
use Rattle.tree.specs.KeyOrder.{Placed, key_order}
use Rattle.tree.specs.Edit.{born_at, with_rows}
use Rattle.tree.specs.Fresh.{fresh_page}
use Rattle.tree.specs.Tree.{Tree, page_at, put_page}
use Rattle.tree.specs.declared.types.Became.{Became}
use Rattle.tree.specs.declared.types.Became.TheVariants.{Stays, Copied, Halved}
use Rattle.tree.specs.Overflow.{Written, copied_rows, lower_count, lowest_key, gain_first, total_of, copy_page, halve_page, split_page, lower_half}
use Rattle.tree.specs.Overflow.{finish_page}
use Rattle.tree.specs.Use.{taken_page}
use Rattle.tree.specs.Taking.{InUse, HasPages, Takes}
use Rattle.tree.proofs.ModelPages as model
use Rattle.tree.proofs.ModelSteps as model_steps
use Rattle.tree.proofs.ModelPages.{Entry, Page, ordered_entries, born_all}
use Rattle.tree.proofs.ModelSteps.{Outcome, stay, copy, two, put_at, total_amount, plus_first, lowest_of, new_page, moved, finish}
use Rattle.tree.proofs.ReplacedRows.{tests, split, length_born}
use Rattle.tree.proofs.TableLaws.{page_length, put_length}
use Rattle.tree.proofs.PageCodec.{Fits, with_length, fresh_length}
use Rattle.tree.proofs.Lists.{all_take, all_drop, map_take, map_drop}
use Rattle.tree.proofs.View.{entry_of, view_row, view_rows, view_page, view_table, order_view, view_with}
use Rattle.tree.proofs.View.{view_fresh, view_put, lowest_view, total_view}
use Rattle.tree.proofs.RowViews.{parts_of, Covers}
use Rattle.tree.proofs.RowBounds.{copied_length, copied_fits, first_fits, first_length, lowest_fits}
use Rattle.tree.proofs.TakenPages.{After, after_less}
use Rattle.tree.proofs.UseLaws.{in_use_inside, taken_inside, fewer, has_used}

-- A page that was split made at least one
abbrev pub MadeSome : Became → ℕ → Type 0
MadeSome Stays made = Unit {0}
MadeSome (Copied c) made = 1 ≤ made
MadeSome (Halved c d) made = 1 ≤ made

-- What a call wrote and what the model gives: the same pages made, and, where the table has them, the same pages.
-- `lo` and `hi` are the key range of the page at hand.
pub record Matches (measure : Value → ℕ) (tree : Tree) (lo hi : ℕ) (so : Written) (o : Outcome) : Type 0 where
  pub parts : parts_of so.became ≡ o.parts
  pub made : so.made ≡ o.made
  pub covers : Covers lo hi so.became
  pub made_some : MadeSome so.became so.made
  pub table : HasPages tree.table tree.used so.made → (length so.table ≡ length tree.table) × (view_table measure so.table ≡ o.store)

-- The model's pages have at most 64 rows each
abbrev pub Small : (ℕ → Page) → (ℕ → Type 0) → Type 0
Small s In = (x : ℕ) → In x → length (s x).rows ≤ row_limit

-- Both: what was written is what the model gives, and no page has too many rows
abbrev pub Agrees : (Value → ℕ) → Tree → ℕ → ℕ → Written → Outcome → Type 0
Agrees measure tree lo hi so o =
    Matches measure tree lo hi so o × Small o.store (After (InUse tree.used) (taken_page tree.used) o.made)

-- No page of the model gets more than 64 rows
pub finish_small : (t : ℕ) (s : ℕ → Page) (In : ℕ → Type 0) (alloc : ℕ → ℕ) (m p : ℕ) (rs : List model.Row) → length (ordered_entries t rs) ≤ most_rows
    → Small s (After In alloc m) → Small (finish t s alloc m p rs).store (After In alloc (finish t s alloc m p rs).made)
finish_small t s In alloc m p rs few h x =
    go (split (length rs) row_limit) (split (length (ordered_entries t rs)) copy_limit) (ℕ_discrete x p) (ℕ_discrete x (alloc m))
    (ℕ_discrete x (alloc (suc m)))
  where
    lower : List Entry
    lower = take (lower_half (length (ordered_entries t rs))) (ordered_entries t rs)

    upper : List Entry
    upper = drop (lower_half (length (ordered_entries t rs))) (ordered_entries t rs)

    lower_few : length (born_all t lower) ≤ row_limit
    lower_few =
        omega (
          arith,
          length_born t lower,
          length-take (lower_half (length (ordered_entries t rs)))
              (ordered_entries t rs),
        )

    upper_few : length (born_all t (plus_first (total_amount lower) upper)) ≤ row_limit
    upper_few =
        omega (
          arith,
          length_born t (plus_first (total_amount lower) upper),
          bump_length (total_amount lower) upper,
          length-drop (lower_half (length (ordered_entries t rs))) (ordered_entries t rs),
        )
      where
        bump_length : (v : ℕ) (es : List Entry) → length (plus_first v es) ≡ length es
        bump_length v [] = refl
        bump_length v (e ∷ es) = refl

    go : (length rs ≤ row_limit) ⊎ (row_limit < length rs) → (length (ordered_entries t rs) ≤ copy_limit) ⊎ (copy_limit < length (ordered_entries t rs))
        → Dec (x ≡ p) → Dec (x ≡ alloc m) → Dec (x ≡ alloc (suc m)) → After In alloc (finish t s alloc m p rs).made x
        → length ((finish t s alloc m p rs).store x).rows ≤ row_limit
    go (inl a) b (yes c) d e = simp tests (λ l. a)
    go (inl a) b (no c) d e = simp tests (λ l. h x l)
    go (inr a) (inl b) c (yes d) e = simp tests (λ l. omega (arith, length_born t (ordered_entries t rs)))
    go (inr a) (inl b) c (no d) e = simp tests (λ l. h x (after_less In alloc m x d l))
    go (inr a) (inr b) c d (yes e) = simp tests (λ l. upper_few)
    go (inr a) (inr b) c (yes d) (no e) = simp tests (λ l. lower_few)
    go (inr a) (inr b) c (no d) (no e) = simp tests (λ l. h x (after_less In alloc m x d (after_less In alloc (suc m) x e l)))

-- Rows that are all born at t and open
abbrev pub NewAt : ℕ → Row → Type 0
NewAt t r = (r.birth ≡ t) × (r.end ≡ open_end)

new_copied : (t : ℕ) (xs : List Placed) → All (NewAt t) (map (λ (x : Placed). born_at t x.row) xs)
new_copied t [] = tt
new_copied t (x ∷ xs) = ((refl, refl), new_copied t xs)

new_first : (t : ℕ) (v : Value) (rows : List Row) → All (NewAt t) rows → All (NewAt t) (gain_first v rows)
new_first t v [] h = tt
new_first t v (r ∷ rs) h = (h.0, h.1)

module _ (measure : Value → ℕ) where
  new_view : (t : ℕ) (rows : List Row) → All (NewAt t) rows → view_rows measure rows ≡ born_all t (map (entry_of measure) rows)
  new_view t [] h = refl
  new_view t (r ∷ rs) h =
      ap₂ ◌∷◌ (λ i. record { birth = h.0.0 i; end = h.0.1 i; entry = entry_of measure r }) (new_view t rs h.1)

  pub copied_entries : (t : ℕ) (rows : List Row) → map (entry_of measure) (copied_rows t rows) ≡ ordered_entries t (view_rows measure rows)
  copied_entries t rows = map-map (entry_of measure) (λ (x : Placed). born_at t x.row) (key_order t rows) ∙ order_view measure t rows

  -- Step 6
  first_view : (v : Value) (w : ℕ) → ((a : Value) → measure (plus a v) ≡ (measure a + w) % 18446744073709551616) → (rows : List Row)
      → map (entry_of measure) (gain_first v rows) ≡ plus_first w (map (entry_of measure) rows)
  first_view v w h [] = refl
  first_view v w h (r ∷ rs) =
      λ i. record { low = r.low; high = r.high; amount = h r.value i; page = r.child } ∷ map (entry_of measure) rs

  module _ (m : Measure measure) (tree : Tree) (takes : Takes tree.used) (t : ℕ) (so : Written) (page lo hi : ℕ) (S : ℕ → Page) (rows : List Row)
      (now : t < 4294967296) (lo_fits : lo < 65536) (hi_fits : hi < 65536)
      (range : word (page_at tree.table page) 2 ≡ lo + 65536 * hi)
      (fits : All Fits rows) (few : length rows ≤ most_rows) (is_in_use : InUse tree.used page)
      (table : HasPages tree.table tree.used so.made → (length so.table ≡ length tree.table) × (view_table measure so.table ≡ S)) where
    abbrev old : List ℕ
    old = page_at tree.table page

    abbrev alloc : ℕ → ℕ
    alloc = taken_page tree.used

    abbrev U : ℕ
    U = taken_page tree.used so.made

    abbrev old_page : Page
    old_page = view_table measure tree.table page

    is_lo : low_key (word old 2) ≡ lo
    is_lo = rw range (omega arith)

    is_hi : high_key (word old 2) ≡ hi
    is_hi = rw range (omega arith)

    high_is : high_key (word old 2) ≡ word old 2 / 65536
    high_is = rw range (omega arith)

    -- The page keeps its number
    stay_matches : length rows ≤ row_limit
        → Matches measure tree lo hi (record { table = put_page so.table page (with_rows old rows); made = so.made; became = Stays })
        (record {
          store = put_at S page
              (record { level = old_page.level; low = old_page.low; high = old_page.high; birth = old_page.birth; rows = view_rows measure rows });
          made = so.made;
          parts =
              stay;
        })
    stay_matches small =
        record {
          parts = refl;
          made = refl;
          covers = tt;
          made_some = tt;
          table =
              λ room. let before = table room in
              let inside = in_use_inside tree.used page tree.table is_in_use (has_used tree.used so.made tree.table room) in
              let whole : length old ≡ page_words = page_length tree.table page inside in
              let place : page * page_words + page_words ≤ length so.table = omega (arith, inside, before.0) in
              let new_length = with_length old rows (omega arith) ∙ whole in (
                put_length so.table page (with_rows old rows) place new_length ∙ before.0,
                view_put measure so.table page (with_rows old rows) place new_length
                    ∙ ap₂ (λ (s : ℕ → Page) (g : Page). put_at s page g) before.1 (view_with measure old rows whole small fits),
              );
        }

    abbrev moving : List Row
    moving = copied_rows t rows

    moving_few : length (copied_rows t rows) ≤ most_rows
    moving_few = omega (arith, copied_length t rows)

    moving_fits : All Fits (copied_rows t rows)
    moving_fits = copied_fits t rows now fits

    moving_new : All (NewAt t) (copied_rows t rows)
    moving_new = new_copied t (key_order t rows)

    -- A page written whole, in the model's words
    fresh_page_lem : (low high high' : ℕ) (rs : List Row) (es : List Entry) → low < 65536 → high ≡ high' → length rs ≤ row_limit → All Fits rs
        → view_rows measure rs ≡ born_all t es
        → view_page measure (fresh_page (word old 0) low high t rs) ≡ new_page t (word old 0) low high' es
    fresh_page_lem low high high' rs es l e small f v =
        view_fresh measure (word old 0) low high t rs l small f
        ∙ (λ i. record { level = word old 0; low = low; high = e i; birth = t; rows = v i })

    -- One new page
    copy_matches : length (copied_rows t rows) ≤ copy_limit
        → Matches measure tree lo hi (copy_page tree t so old moving)
        (record {
          store = put_at S U (new_page t old_page.level old_page.low old_page.high (map (entry_of measure) moving));
          made = suc so.made;
          parts = copy U;
        })
    copy_matches small =
        record {
          parts = refl;
          made = omega arith;
          covers = (is_lo, is_hi);
          made_some = omega arith;
          table =
              λ room. let before = table (fewer tree.used so.made (so.made + 1) tree.table (omega arith) room) in
              let place : U * page_words + page_words ≤ length so.table =
              omega (arith, before.0, taken_inside tree.used takes so.made (so.made + 1) tree.table room (omega arith)) in
              let new : List ℕ = fresh_page (word old 0) (low_key (word old 2)) (high_key (word old 2)) t moving in
              let new_length : length new ≡ page_words =
              fresh_length (word old 0) (low_key (word old 2)) (high_key (word old 2)) t moving (omega arith) in (
                put_length so.table U new place new_length ∙ before.0,
                view_put measure so.table U new place new_length
                    ∙ ap₂ (λ (s : ℕ → Page) (g : Page). put_at s U g) before.1
                    (fresh_page_lem (low_key (word old 2)) (high_key (word old 2)) (word old 2 / 65536) moving (map (entry_of measure) moving)
                    (omega (arith, is_lo)) high_is (omega arith) moving_fits (new_view t moving moving_new)),
              );
        }

    -- Two new pages
    module _ (i : ℕ) (low_half_lem : i ≤ row_limit) (high_half_lem : length (copied_rows t rows) - i ≤ row_limit) where
      abbrev lower : List Row
      lower = take i moving

      abbrev upper : List Row
      upper = drop i moving

      abbrev middle : ℕ
      middle = lowest_key (high_key (word old 2)) upper

      lower_entries : map (entry_of measure) lower ≡ take i (map (entry_of measure) moving)
      lower_entries = map_take (entry_of measure) i moving

      upper_entries : map (entry_of measure) upper ≡ drop i (map (entry_of measure) moving)
      upper_entries = map_drop (entry_of measure) i moving

      middle_is : middle ≡ lowest_of old_page.high (drop i (map (entry_of measure) moving))
      middle_is = lowest_view measure (high_key (word old 2)) upper ∙ ap₂ lowest_of high_is upper_entries

      middle_fits : lowest_key (high_key (word old 2)) (drop i moving) < 65536
      middle_fits = lowest_fits (high_key (word old 2)) upper (omega (arith, is_hi)) (all_drop Fits i moving moving_fits)

      adds : (a : Value)
          → measure (plus a (total_of lower)) ≡ (measure a + total_amount (take i (map (entry_of measure) moving))) % 18446744073709551616
      adds a =
          m.of_plus a (total_of lower)
          ∙ omega (arith, total_view measure m lower, ap total_amount lower_entries)

      lower_rows : view_rows measure lower ≡ born_all t (take i (map (entry_of measure) moving))
      lower_rows = new_view t lower (all_take (NewAt t) i moving moving_new) ∙ ap (born_all t) lower_entries

      upper_rows : view_rows measure (gain_first (total_of lower) upper)
          ≡ born_all t (plus_first (total_amount (take i (map (entry_of measure) moving))) (drop i (map (entry_of measure) moving)))
      upper_rows =
          new_view t (gain_first (total_of lower) upper) (new_first t (total_of lower) upper (all_drop (NewAt t) i moving moving_new))
          ∙ ap (born_all t)
          (first_view (total_of lower) (total_amount (take i (map (entry_of measure) moving))) adds upper
          ∙ ap (plus_first (total_amount (take i (map (entry_of measure) moving)))) upper_entries)

      lower_few : length (take i (copied_rows t rows)) ≤ row_limit
      lower_few = rw length-take (omega arith)

      upper_few : length (gain_first (total_of lower) upper) ≤ row_limit
      upper_few = omega (arith, first_length (total_of lower) upper, length-drop i moving)

      halve_matches : Matches measure tree lo hi (halve_page tree t so old lower upper middle)
          (model_steps.halved t S alloc so.made old_page (take i (map (entry_of measure) moving)) (drop i (map (entry_of measure) moving)))
      halve_matches =
          record {
            parts = λ k. two U (taken_page tree.used (next k)) (middle_is k);
            made = omega arith;
            covers = (is_lo, refl, is_hi, middle_fits);
            made_some = omega arith;
            table =
                λ room. let before = table (fewer tree.used so.made (so.made + 2) tree.table (omega arith) room) in
                let first_page_lem : List ℕ = fresh_page (word old 0) (low_key (word old 2)) middle t lower in
                let second_page : List ℕ = fresh_page (word old 0) middle (high_key (word old 2)) t (gain_first (total_of lower) upper) in
                let first_length : length first_page_lem ≡ page_words = fresh_length (word old 0) (low_key (word old 2)) middle t lower lower_few in
                let second_length : length second_page ≡ page_words =
                fresh_length (word old 0) middle (high_key (word old 2)) t (gain_first (total_of lower) upper) upper_few in
                let place : U * page_words + page_words ≤ length so.table =
                omega (arith, before.0, taken_inside tree.used takes so.made (so.made + 2) tree.table room (omega arith)) in
                let put_first = put_length so.table U first_page_lem place first_length in
                let place_second : taken_page tree.used (so.made + 1) * page_words + page_words ≤ length (put_page so.table U first_page_lem) =
                omega (
                  arith,
                  before.0,
                  put_first,
                  taken_inside tree.used takes (so.made + 1) (so.made + 2) tree.table room (omega arith),
                ) in (
                  put_length (put_page so.table U first_page_lem) (taken_page tree.used (so.made + 1)) second_page place_second
                      second_length ∙ put_first ∙ before.0,
                  view_put measure (put_page so.table U first_page_lem) (taken_page tree.used (so.made + 1)) second_page place_second
                      second_length
                      ∙ (λ k. put_at (one_put before place first_length k) (taken_page tree.used (next k)) (upper_page k)),
                );
          }
        where
          next : so.made + 1 ≡ suc so.made
          next = omega arith

          lower_page : view_page measure (fresh_page (word old 0) (low_key (word old 2)) middle t lower)
              ≡ new_page t old_page.level old_page.low (lowest_of old_page.high (drop i (map (entry_of measure) moving)))
              (take i (map (entry_of measure) moving))
          lower_page =
              fresh_page_lem (low_key (word old 2)) middle (lowest_of old_page.high (drop i (map (entry_of measure) moving))) lower
              (take i (map (entry_of measure) moving)) (omega (arith, is_lo)) middle_is lower_few (all_take Fits i moving moving_fits)
              lower_rows

          upper_page : view_page measure (fresh_page (word old 0) middle (high_key (word old 2)) t (gain_first (total_of lower) upper))
              ≡ new_page t old_page.level (lowest_of old_page.high (drop i (map (entry_of measure) moving))) old_page.high
              (plus_first (total_amount (take i (map (entry_of measure) moving))) (drop i (map (entry_of measure) moving)))
          upper_page =
              fresh_page_lem middle (high_key (word old 2)) (word old 2 / 65536) (gain_first (total_of lower) upper)
              (plus_first (total_amount (take i (map (entry_of measure) moving))) (drop i (map (entry_of measure) moving))) middle_fits
              high_is upper_few
              (first_fits (total_of lower) upper (all_drop Fits i moving moving_fits)) upper_rows
              ∙ ap (λ (n : ℕ). new_page t old_page.level n old_page.high
              (plus_first (total_amount (take i (map (entry_of measure) moving))) (drop i (map (entry_of measure) moving)))) middle_is

          one_put : (length so.table ≡ length tree.table) × (view_table measure so.table ≡ S)
              → U * page_words + page_words ≤ length so.table → length (fresh_page (word old 0) (low_key (word old 2)) middle t lower) ≡ page_words
              → view_table measure (put_page so.table U (fresh_page (word old 0) (low_key (word old 2)) middle t lower))
              ≡ put_at S U (new_page t old_page.level old_page.low (lowest_of old_page.high (drop i (map (entry_of measure) moving)))
              (take i (map (entry_of measure) moving)))
          one_put before place slot_count =
              view_put measure so.table U (fresh_page (word old 0) (low_key (word old 2)) middle t lower) place slot_count
              ∙ ap₂ (λ (s : ℕ → Page) (g : Page). put_at s U g) before.1 lower_page

    split_matches : Matches measure tree lo hi (split_page tree t so old moving) (moved t S alloc so.made old_page (map (entry_of measure) moving))
    split_matches =
        subst
        (λ (n : ℕ). Matches measure tree lo hi (split_page tree t so old moving)
        (cond (leb n copy_limit)
        (record {
          store = put_at S U (new_page t old_page.level old_page.low old_page.high (map (entry_of measure) moving));
          made = suc so.made;
          parts = copy U;
        })
        (model_steps.halved t S alloc so.made old_page (take (lower_half n) (map (entry_of measure) moving))
        (drop (lower_half n) (map (entry_of measure) moving)))))
        (sym (length-map moving (entry_of measure)))
        (go (leb (length moving) copy_limit) refl)
      where
        go : (b : Bool) → leb (length moving) copy_limit ≡ b
            → Matches measure tree lo hi
            (cond b (copy_page tree t so old moving)
            (halve_page tree t so old (take (lower_count moving) moving) (drop (lower_count moving) moving)
            (lowest_key (high_key (word old 2)) (drop (lower_count moving) moving))))
            (cond b
            (record {
              store = put_at S U (new_page t old_page.level old_page.low old_page.high (map (entry_of measure) moving));
              made = suc so.made;
              parts = copy U;
            })
            (model_steps.halved t S alloc so.made old_page (take (lower_count moving) (map (entry_of measure) moving))
            (drop (lower_count moving) (map (entry_of measure) moving))))
        go true e = copy_matches (leb-true _ _ e)
        go false e = halve_matches (lower_count moving) (omega (arith, moving_few)) (omega (arith, moving_few))

    pub finish_matches : S page ≡ view_table measure tree.table page
        → Matches measure tree lo hi (finish_page tree t so page rows) (finish t S alloc so.made page (view_rows measure rows))
    unfolding finish_page
    finish_matches header =
        subst₃
        (λ (g : Page) (n : ℕ) (es : List Entry). Matches measure tree lo hi (finish_page tree t so page rows)
        (cond (leb n row_limit)
        (record {
          store = put_at S page (record { level = g.level; low = g.low; high = g.high; birth = g.birth; rows = view_rows measure rows });
          made = so.made;
          parts = stay;
        })
        (moved t S alloc so.made g es)))
        (sym header) (sym (length-map rows (view_row measure))) (copied_entries t rows)
        (go (leb (length rows) row_limit) refl)
      where
        go : (b : Bool) → leb (length rows) row_limit ≡ b
            → Matches measure tree lo hi
            (cond b (record { table = put_page so.table page (with_rows old rows); made = so.made; became = Stays })
            (split_page tree t so old moving))
            (cond b
            (record {
              store = put_at S page
                  (record { level = old_page.level; low = old_page.low; high = old_page.high; birth = old_page.birth; rows = view_rows measure rows });
              made = so.made;
              parts = stay;
            }) (moved t S alloc so.made old_page (map (entry_of measure) moving)))
        go true e = stay_matches (leb-true _ _ e)
        go false e = split_matches

    pub finish_agrees : S page ≡ view_table measure tree.table page → Small S (After (InUse tree.used) (taken_page tree.used) so.made)
        → Agrees measure tree lo hi (finish_page tree t so page rows) (finish t S alloc so.made page (view_rows measure rows))
    finish_agrees header small = (
      finish_matches header,
      finish_small t S (InUse tree.used) alloc so.made page (view_rows measure rows)
          (omega (arith, ap length (copied_entries t rows), length-map moving (entry_of measure), moving_few)) small,
    )
