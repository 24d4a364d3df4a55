-- Entering a point at tick t leaves each page in use, to a reader at an earlier tick, as it was.
use Prim.Native.Nat.{ℕ, zero, suc, ◌+◌, ◌*◌, ◌-◌, ◌≤◌, ◌<◌}
use native.Mathlib.Omega.{arith}
use native.Mathlib.Decide.{ℕ_discrete}
use mathlib.Core.Path.{◌≡◌, refl, sym, ap, ◌∙◌, subst}
use mathlib.Core.Logic.{◌⊎◌, inl, inr}
use mathlib.Core.Bool.{Bool, true, false, cond}
use mathlib.Core.List.{List, ◌∷◌}
use lib.Dec.{leb, eqb}
use lib.ListN.{length, take, drop, length-take, length-drop}
use borrow.Author.Tests.{leb-true}
use Rattle.words.specs.Lists.{All}
use Rattle.words.specs.Words.{key_limit, low_key, high_key, root_birth, open_end}
use Rattle.words.specs.declared.value.Value.{Value}
use Rattle.words.proofs.Measure.{Measure}
use Rattle.tree.specs.declared.types.Row.{Row}
use Rattle.tree.specs.Row.{word, rows_of, row_limit, copy_limit, page_words, row_start, header_words}
use Rattle.tree.specs.Limits.{most_rows}
use Rattle.tree.specs.KeyOrder.{Placed}
use Rattle.tree.specs.TrueValue.{Search}
use Rattle.tree.specs.Edit.{with_rows}
use Rattle.tree.specs.Fresh.{fresh_page, two_rows}
use Rattle.tree.specs.Tree as ours
use Rattle.tree.specs.Tree.{page_at, put_page, last_root}
use Rattle.tree.specs.RowSteps.{Point, row_around, gain_rows, leaf_rows, relink_row}
use Rattle.tree.specs.declared.types.Became.{Became}
use Rattle.tree.specs.declared.types.Became.TheVariants.{Stays, Copied, Halved}
use Rattle.tree.specs.Overflow.{Written, copied_rows, lower_count, lowest_key, gain_first, total_of, copy_page, halve_page, split_page}
use Rattle.tree.specs.Overflow.{finish_page}
use Rattle.tree.specs.Enter.{Entered, unwritten, enter_above, enter_below, enter_from, with_root, entered_as}
use Rattle.tree.specs.Alike.{LookAlike}
use Rattle.tree.specs.Use.{taken_page}
use Rattle.tree.specs.Taking.{InUse, HasPages, Takes}
use Rattle.tree.proofs.ModelPages.{Entry, Page}
use Rattle.tree.proofs.ModelTrees.{Tree, Holds}
use Rattle.tree.proofs.ModelSteps.{enter}
use Rattle.tree.proofs.ModelPromise.{Full, Filled}
use Rattle.tree.proofs.ReplacedRows.{split}
use Rattle.tree.proofs.HeldTrees.{chain_le}
use Rattle.tree.proofs.SlotCuts.{Cut, cut, cut_at}
use Rattle.tree.proofs.SlotLaws.{all_split}
use Rattle.tree.proofs.TableLaws.{page_length, put_same, put_other, put_length}
use Rattle.tree.proofs.PageCodec.{Fits, rows_fit, with_length, with_level, with_range, with_rows_lem, fresh_length}
use Rattle.tree.proofs.View.{view_table}
use Rattle.tree.proofs.RowViews.{FoundRow, around_some, around_none}
use Rattle.tree.proofs.RowBounds.{found_fits, gain_length, leaf_length, relink_length, gain_fits, leaf_fits, relink_fits}
use Rattle.tree.proofs.RowBounds.{copied_length, first_length}
use Rattle.tree.proofs.RootLaws.{root_replaced, root_added, root_made}
use Rattle.tree.proofs.PageViews.{Agrees}
use Rattle.tree.proofs.EnterViews.{enter_agrees}
use Rattle.tree.proofs.SeenRows.{seen, seen_order, gain_seen, leaf_seen, relink_seen}
use Rattle.tree.proofs.UseLaws.{in_use_inside, taken_new, taken_inside, fewer, has_used}

-- Each page in use of a table looks as it does in the tree's own
abbrev pub LooksSame : ℕ → ours.Tree → List ℕ → Type 0
LooksSame w tree table = (x : ℕ) → InUse tree.used x → LookAlike w (page_at table x) (page_at tree.table x)

pub same_look : (w : ℕ) {a b c : List ℕ} → a ≡ b → LookAlike w b c → LookAlike w a c
same_look w {c = c} e h = subst (λ (page : List ℕ). LookAlike w page c) (sym e) h

-- Step 5: a page that stays gets rows that look the same, and new pages are none of those in use
module _ (tree : ours.Tree) (takes : Takes tree.used) (t w : ℕ) (so : Written) (page : ℕ) (rows : List Row) (is_in_use : InUse tree.used page)
    (size_is : length so.table ≡ length tree.table) (before : LooksSame w tree so.table)
    (fits : All Fits rows) (few : length rows ≤ most_rows) (lookup_stored : seen w rows ≡ seen w (rows_of (page_at tree.table page))) where
  abbrev old : List ℕ
  old = page_at tree.table page

  abbrev moving : List Row
  moving = copied_rows t rows

  abbrev U : ℕ
  U = taken_page tree.used so.made

  stay_looks : length rows ≤ row_limit → HasPages tree.table tree.used so.made → LooksSame w tree (put_page so.table page (with_rows old rows))
  stay_looks small room x l = go (ℕ_discrete x page)
    where
      inside : page * page_words + page_words ≤ length tree.table
      inside = in_use_inside tree.used page tree.table is_in_use (has_used tree.used so.made tree.table room)

      whole : length old ≡ page_words
      whole = page_length tree.table page inside

      place : page * page_words + page_words ≤ length so.table
      place = omega (arith, inside, size_is)

      space : row_start (length rows) ≤ length old
      space = omega (arith, whole)

      here : LookAlike w (with_rows old rows) old
      here =
          record {
            level = with_level old rows space;
            range = with_range old rows space;
            rows =
                seen_order w (rows_of (with_rows old rows)) (rows_of old)
                (ap (seen w) (with_rows_lem old rows space fits) ∙ lookup_stored);
          }

      go : Dec (x ≡ page) → LookAlike w (page_at (put_page so.table page (with_rows old rows)) x) (page_at tree.table x)
      go (yes e) =
          subst (λ (y : ℕ). LookAlike w (page_at (put_page so.table page (with_rows old rows)) y) (page_at tree.table y)) (sym e)
          (same_look w (put_same so.table page (with_rows old rows) place (with_length old rows space ∙ whole)) here)
      go (no e) = same_look w (put_other so.table page (with_rows old rows) place (with_length old rows space ∙ whole) x e) (before x l)

  moving_few : length (copied_rows t rows) ≤ most_rows
  moving_few = omega (arith, copied_length t rows)

  -- A page that was taken lies in the table so far
  taken_here : (i made : ℕ) → HasPages tree.table tree.used made → i < made → taken_page tree.used i * page_words + page_words ≤ length so.table
  taken_here i made room l = omega (arith, size_is, taken_inside tree.used takes i made tree.table room l)

  copy_looks : length (copied_rows t rows) ≤ copy_limit → HasPages tree.table tree.used (so.made + 1)
      → LooksSame w tree (copy_page tree t so old moving).table
  copy_looks small room x l =
      same_look w
      (put_other so.table U (fresh_page (word old 0) (low_key (word old 2)) (high_key (word old 2)) t moving)
      (taken_here so.made (so.made + 1) room (omega arith))
      (fresh_length (word old 0) (low_key (word old 2)) (high_key (word old 2)) t moving (omega arith)) x
      (taken_new tree.used takes x so.made l))
      (before x l)

  halve_looks : (i middle : ℕ) → i ≤ row_limit → length (copied_rows t rows) - i ≤ row_limit → HasPages tree.table tree.used (so.made + 2)
      → LooksSame w tree (halve_page tree t so old (take i moving) (drop i moving) middle).table
  halve_looks i middle low high room x l =
      same_look w
      (put_other (put_page so.table U first_page_lem) (taken_page tree.used (so.made + 1)) second_page
      (omega (arith, put_first, taken_here (so.made + 1) (so.made + 2) room (omega arith)))
      second_size x (taken_new tree.used takes x (so.made + 1) l)
      ∙ put_other so.table U first_page_lem first_place first_size x (taken_new tree.used takes x so.made l))
      (before x l)
    where
      first_page_lem : List ℕ
      first_page_lem = fresh_page (word old 0) (low_key (word old 2)) middle t (take i moving)

      second_page : List ℕ
      second_page = fresh_page (word old 0) middle (high_key (word old 2)) t (gain_first (total_of (take i moving)) (drop i moving))

      first_size : length first_page_lem ≡ page_words
      first_size = fresh_length (word old 0) (low_key (word old 2)) middle t (take i moving) (rw length-take (omega arith))

      second_size : length second_page ≡ page_words
      second_size =
          fresh_length (word old 0) middle (high_key (word old 2)) t (gain_first (total_of (take i moving)) (drop i moving))
          (omega (arith, first_length (total_of (take i moving)) (drop i moving), length-drop i moving))

      first_place : U * page_words + page_words ≤ length so.table
      first_place = taken_here so.made (so.made + 2) room (omega arith)

      put_first : length (put_page so.table U first_page_lem) ≡ length so.table
      put_first = put_length so.table U first_page_lem first_place first_size

  pub finish_looks : HasPages tree.table tree.used (finish_page tree t so page rows).made
      → LooksSame w tree (finish_page tree t so page rows).table
  unfolding finish_page
  finish_looks = go (leb (length rows) row_limit) refl
    where
      halves : (b : Bool) → leb (length (copied_rows t rows)) copy_limit ≡ b
          → HasPages tree.table tree.used
          (cond b (copy_page tree t so old moving)
          (halve_page tree t so old (take (lower_count moving) moving) (drop (lower_count moving) moving)
          (lowest_key (high_key (word old 2)) (drop (lower_count moving) moving)))).made
          → LooksSame w tree
          (cond b (copy_page tree t so old moving)
          (halve_page tree t so old (take (lower_count moving) moving) (drop (lower_count moving) moving)
          (lowest_key (high_key (word old 2)) (drop (lower_count moving) moving)))).table
      halves true e room = copy_looks (leb-true _ _ e) room
      halves false e room =
          halve_looks (lower_count moving) (lowest_key (high_key (word old 2)) (drop (lower_count moving) moving))
          (omega (arith, moving_few)) (omega (arith, moving_few)) room

      go : (b : Bool) → leb (length rows) row_limit ≡ b
          → HasPages tree.table tree.used
          (cond b (record { table = put_page so.table page (with_rows old rows); made = so.made; became = Stays })
          (split_page tree t so old moving)).made
          → LooksSame w tree
          (cond b (record { table = put_page so.table page (with_rows old rows); made = so.made; became = Stays })
          (split_page tree t so old moving)).table
      go true e room = stay_looks (leb-true _ _ e) room
      go false e room = halves (leb (length (copied_rows t rows)) copy_limit) refl room

-- A step makes no fewer pages than the steps below it
finish_made : (tree : ours.Tree) (t : ℕ) (so : Written) (page : ℕ) (rows : List Row) → so.made ≤ (finish_page tree t so page rows).made
unfolding finish_page
finish_made tree t so page rows = go (leb (length rows) row_limit) (leb (length (copied_rows t rows)) copy_limit)
  where
    old : List ℕ
    old = page_at tree.table page

    go : (a b : Bool)
        → so.made
        ≤ (cond a
        (record { table = put_page so.table page (with_rows (page_at tree.table page) rows); made = so.made; became = Stays })
        (cond b (copy_page tree t so (page_at tree.table page) (copied_rows t rows))
        (halve_page tree t so (page_at tree.table page) (take (lower_count (copied_rows t rows)) (copied_rows t rows))
        (drop (lower_count (copied_rows t rows)) (copied_rows t rows))
        (lowest_key (high_key (word (page_at tree.table page) 2)) (drop (lower_count (copied_rows t rows)) (copied_rows t rows)))))).made
    go true b = omega arith
    go false true = omega arith
    go false false = omega arith

module _ (measure : Value → ℕ) (m : Measure measure) (tree : ours.Tree) (p : Point) (now : p.tick < open_end)
    (takes : Takes tree.used) (small : (x : ℕ) → InUse tree.used x → length (rows_of (page_at tree.table x)) ≤ row_limit) (w : ℕ) (early : w < p.tick) where
  abbrev store : ℕ → Page
  store = view_table measure tree.table

  abbrev In : ℕ → Type 0
  In = InUse tree.used

  abbrev rows_at : ℕ → List Row
  rows_at page = rows_of (page_at tree.table page)

  fits_at : (page : ℕ) → All Fits (rows_of (page_at tree.table page))
  fits_at page = rows_fit (page_at tree.table page) header_words (word (page_at tree.table page) 1)

  abbrev TableHolds : Written → Type 0
  TableHolds so = HasPages tree.table tree.used so.made

  unchanged : LooksSame w tree tree.table
  unchanged x l = record { level = refl; range = refl; rows = refl }

  -- A page whose step writes no other page first
  alone : (page : ℕ) (rows : List Row) → In page → All Fits rows → length rows ≤ most_rows → seen w rows ≡ seen w (rows_at page)
      → TableHolds (finish_page tree p.tick (unwritten tree) page rows)
      → LooksSame w tree (finish_page tree p.tick (unwritten tree) page rows).table
  alone page rows is_in_use fits few lookup_stored =
      finish_looks tree takes p.tick w (unwritten tree) page rows is_in_use refl unchanged fits few lookup_stored

  module _ (IsKnown : ℕ → Type 0) (known : IsKnown p.key) where
    index_looks : (n : ℕ)
        → ((page lo hi : ℕ) (tr : Tree n) → lo ≤ p.key → p.key < hi → hi ≤ key_limit → Holds n store In p.tick lo hi page tr
        → Full IsKnown n tr → TableHolds (enter_from tree p n page) → LooksSame w tree (enter_from tree p n page).table)
        → (page lo hi : ℕ) (tr : Tree (suc n)) → hi ≤ key_limit → Cut (Holds n store In p.tick) lo hi p.key tr
        → Holds (suc n) store In p.tick lo hi page tr → Full IsKnown (suc n) tr → TableHolds (enter_from tree p (suc n) page)
        → LooksSame w tree (enter_from tree p (suc n) page).table
    unfolding enter_from
    index_looks n ih page lo hi tr top (cut xs y ys c i j u d) h full = go (split p.key y.entry.low)
      where
        Goal : Search Placed → Type 0
        Goal s =
            TableHolds (enter_below tree p page (λ (child : ℕ). enter_from tree p n child) s)
            → LooksSame w tree (enter_below tree p page (λ (child : ℕ). enter_from tree p n child) s).table

        go : (p.key ≤ y.entry.low) ⊎ (y.entry.low < p.key) → Goal (row_around p (rows_at page))
        go (inl l) =
            subst Goal (sym (around_none measure m (Holds n store In p.tick) p now lo hi xs y ys (rows_at page) c i j u d h.same l))
            (alone page (gain_rows p (rows_at page)) h.is_in_use (gain_fits p (rows_at page) (omega arith) (fits_at page))
            (omega (arith, gain_length p (rows_at page), small page h.is_in_use)) (gain_seen p w early (rows_at page)))
        go (inr l) =
            subst Goal (sym r.is_found)
            (subst
            (λ (child : ℕ). TableHolds (enter_above tree p page r.item (enter_from tree p n child))
            → LooksSame w tree (enter_above tree p page r.item (enter_from tree p n child)).table)
            (sym is_child) above)
          where
            r : FoundRow measure p.tick (rows_at page) (row_around p (rows_at page)) y.entry
            r = around_some measure m (Holds n store In p.tick) p now lo hi xs y ys (rows_at page) c i j u d h.same l

            is_child : r.item.row.child ≡ y.entry.page
            is_child = ap (λ (e : Entry). e.page) r.entry

            so : Written
            so = enter_from tree p n y.entry.page

            rows : List Row
            rows = relink_row p.tick r.item so.became (gain_rows p (rows_at page))

            right : y.entry.high ≤ hi
            right = chain_le (Holds n store In p.tick) y.entry.high hi ys d

            full_child : Full IsKnown n y.below
            full_child = (all_split (Filled IsKnown n) xs (y ∷ ys) full).1.0.0

            child : Agrees measure tree y.entry.low y.entry.high so
                (enter n p.tick p.key (measure p.value) store (taken_page tree.used) y.entry.page)
            child =
                enter_agrees measure m tree p now takes small IsKnown known n y.entry.page y.entry.low y.entry.high y.below i j
                (omega (arith, right)) u full_child

            above : TableHolds (enter_above tree p page r.item so) → LooksSame w tree (enter_above tree p page r.item so).table
            above room =
                let child_room : TableHolds so = fewer tree.used so.made _ tree.table (finish_made tree p.tick so page rows) room in
                finish_looks tree takes p.tick w so page rows h.is_in_use (child.0.table child_room).0
                (ih y.entry.page y.entry.low y.entry.high y.below i j (omega (arith, right)) u full_child child_room)
                (relink_fits p.tick r.item (gain_rows p (rows_at page)) y.entry.low y.entry.high (omega arith)
                (omega (arith, right)) (omega (arith, right))
                (found_fits p.tick _ (rows_at page) (fits_at page) r.is_found)
                (gain_fits p (rows_at page) (omega arith) (fits_at page)) so.became child.0.covers)
                (omega (
                  arith,
                  relink_length p.tick r.item (gain_rows p (rows_at page)) so.became,
                  gain_length p (rows_at page),
                  small page h.is_in_use,
                ))
                (relink_seen p w early (rows_at page) r.item r.is_found so.became) room

    pub enter_looks : (n page lo hi : ℕ) (tr : Tree n) → lo ≤ p.key → p.key < hi → hi ≤ key_limit
        → Holds n store In p.tick lo hi page tr → Full IsKnown n tr → TableHolds (enter_from tree p n page)
        → LooksSame w tree (enter_from tree p n page).table
    unfolding enter_from
    enter_looks zero page lo hi tr i j top h full =
        alone page (leaf_rows p (rows_at page)) h.is_in_use (leaf_fits p (rows_at page) (omega arith) (fits_at page) (omega arith))
        (omega (arith, leaf_length p (rows_at page), small page h.is_in_use)) (leaf_seen p w early (rows_at page))
    enter_looks (suc n) page lo hi tr i j top h full =
        index_looks n (λ page' lo' hi' tr'. enter_looks n page' lo' hi' tr') page lo hi tr top
        (cut_at (Holds n store In p.tick) lo hi p.key tr h.chain i j) h full

-- Step 8: a new root is none of the pages in use
pub root_looks : (tree : ours.Tree) → Takes tree.used → (t w level : ℕ) (so : Written) → length so.table ≡ length tree.table
    → LooksSame w tree so.table → HasPages tree.table tree.used (entered_as tree t level so so.became).made
    → LooksSame w tree (entered_as tree t level so so.became).tree.table
root_looks tree takes t w level so size_is before = go so.became
  where
    either_table : (b : Bool) (x y : Entered) (table : List ℕ) → x.tree.table ≡ table → y.tree.table ≡ table
        → (cond b x y).tree.table ≡ table
    either_table true x y table e f = e
    either_table false x y table e f = f

    with_table : (page : ℕ) (table : List ℕ) (made : ℕ) → (with_root tree t page table made).tree.table ≡ table
    with_table page table made =
        either_table (eqb (root_birth (last_root tree)) t) (root_replaced tree t page table made) (root_added tree t page table made) table
        refl refl

    go : (b : Became) → HasPages tree.table tree.used (entered_as tree t level so b).made
        → LooksSame w tree (entered_as tree t level so b).tree.table
    go Stays room x l = before x l
    go (Copied c) room x l =
        same_look w (ap (λ (table : List ℕ). page_at table x) (with_table c.page so.table so.made)) (before x l)
    go (Halved c d) room x l =
        let page : ℕ = taken_page tree.used so.made in
        let words : List ℕ = fresh_page (level + 1) 0 key_limit t (two_rows t c.high c.page d.page) in
        let made_is = root_made tree t page (put_page so.table page words) (so.made + 1) in
        let inside = taken_inside tree.used takes so.made _ tree.table room (omega (arith, made_is)) in
        same_look w
        (ap (λ (table : List ℕ). page_at table x) (with_table page (put_page so.table page words) (so.made + 1))
        ∙ put_other so.table page words (omega (arith, inside, size_is))
        (fresh_length (level + 1) 0 key_limit t (two_rows t c.high c.page d.page) (omega arith)) x (taken_new tree.used takes x so.made l))
        (before x l)
