-- Entering a point from a page down is the model's: steps 1 to 7, over the words of the table.
use Prim.Native.Nat.{ℕ, zero, suc, ◌≤◌, ◌<◌}
use native.Mathlib.Omega.{arith}
use mathlib.Core.Path.{◌≡◌, refl, sym, ap, ◌∙◌, subst, subst₂, subst₃}
use mathlib.Core.Logic.{◌⊎◌, inl, inr}
use mathlib.Core.Bool.{Bool, true, false, cond}
use mathlib.Core.List.{List, ◌∷◌}
use lib.Dec.{ltb}
use lib.ListN.{length, length-map}
use borrow.Author.Tests.{lt-ltb, le-ltb}
use Rattle.words.specs.Lists.{All}
use Rattle.words.specs.declared.value.Value.{Value}
use Rattle.words.proofs.Measure.{Measure}
use Rattle.words.specs.Words.{open_end, key_limit}
use Rattle.tree.specs.declared.types.Row.{Row}
use Rattle.tree.specs.Row.{word, rows_of, row_limit, header_words}
use Rattle.tree.specs.Limits.{most_rows}
use Rattle.tree.specs.KeyOrder.{Placed}
use Rattle.tree.specs.TrueValue.{Search}
use Rattle.tree.specs.Tree.{page_at}
use Rattle.tree.specs.Tree as ours
use Rattle.tree.specs.RowSteps.{Point, row_around, gain_rows, leaf_rows, relink_row}
use Rattle.tree.specs.Overflow.{Written, finish_page}
use Rattle.tree.specs.Enter.{unwritten, enter_above, enter_below, enter_from}
use Rattle.tree.specs.Use.{taken_page}
use Rattle.tree.specs.Taking.{InUse, Takes}
use Rattle.tree.proofs.ModelPages as model
use Rattle.tree.proofs.ModelPages.{Entry, Page, field_holding}
use Rattle.tree.proofs.ModelTrees.{Tree, Holds}
use Rattle.tree.proofs.ModelSteps.{Outcome, Parts, gained, relink, finish, enter}
use Rattle.tree.proofs.ModelPromise.{Full, Filled}
use Rattle.tree.proofs.ReplacedRows.{split}
use Rattle.tree.proofs.HeldTrees.{chain_le}
use Rattle.tree.proofs.SlotCuts.{Cut, cut, cut_at}
use Rattle.tree.proofs.SlotLaws.{all_split}
use Rattle.tree.proofs.PageKinds.{Leaf}
use Rattle.tree.proofs.EnteredPages.{enter_keeps}
use Rattle.tree.proofs.PageCodec.{Fits, rows_fit}
use Rattle.tree.proofs.View.{view_row, view_rows, view_table}
use Rattle.tree.proofs.RowViews.{FoundRow, field, around_some, around_none, gain_view, leaf_view, relink_view}
use Rattle.tree.proofs.RowBounds.{found_fits, gain_length, leaf_length, relink_length, gain_fits, leaf_fits, relink_fits}
use Rattle.tree.proofs.PageViews.{Agrees, finish_agrees}
use Rattle.tree.proofs.TakenPages.{After, after_none}
use Rattle.tree.proofs.UseLaws.{used_allocates}

module _ (measure : Value → ℕ) (m : Measure measure) (tree : ours.Tree) (p : Point) (now : p.tick < open_end)
    (takes : Takes tree.used) (small : (x : ℕ) → InUse tree.used x → length (rows_of (page_at tree.table x)) ≤ row_limit) where
  abbrev store : ℕ → Page
  store = view_table measure tree.table

  abbrev In : ℕ → Type 0
  In = InUse tree.used

  abbrev alloc : ℕ → ℕ
  alloc = taken_page tree.used

  abbrev value : ℕ
  value = measure p.value

  abbrev rows_at : ℕ → List Row
  rows_at page = rows_of (page_at tree.table page)

  abbrev entered : (n : ℕ) → ℕ → Outcome
  entered n page = enter n p.tick p.key value store alloc page

  fits_at : (page : ℕ) → All Fits (rows_of (page_at tree.table page))
  fits_at page = rows_fit (page_at tree.table page) header_words (word (page_at tree.table page) 1)

  -- A page whose step writes no other page first
  alone : (page lo hi : ℕ) (rows : List Row) (rs : List model.Row) → In page → (store page).low ≡ lo → (store page).high ≡ hi
      → lo < hi → hi ≤ key_limit → All Fits rows → length rows ≤ most_rows → view_rows measure rows ≡ rs
      → Agrees measure tree lo hi (finish_page tree p.tick (unwritten tree) page rows) (finish p.tick store alloc 0 page rs)
  alone page lo hi rows rs is_in_use low high wide top fits few view =
      subst
      (λ (r : List model.Row). Agrees measure tree lo hi (finish_page tree p.tick (unwritten tree) page rows)
      (finish p.tick store alloc 0 page r))
      view
      (finish_agrees measure m tree takes p.tick (unwritten tree) page lo hi store rows (omega arith) (omega arith) (omega arith) (omega arith)
      fits few is_in_use (λ room. (refl, refl)) refl
      (λ x l. omega (arith, small x (after_none In alloc x l), length-map (rows_at x) (view_row measure))))

  leaf_agrees : (page lo hi : ℕ) (tr : Tree 0) → hi ≤ key_limit → Cut Leaf lo hi p.key tr → Holds 0 store In p.tick lo hi page tr
      → Agrees measure tree lo hi (enter_from tree p 0 page) (entered 0 page)
  unfolding enter_from
  leaf_agrees page lo hi tr top (cut xs y ys c i j w d) h =
      alone page lo hi (leaf_rows p (rows_at page)) _ h.is_in_use h.low h.high h.wide top
      (leaf_fits p (rows_at page) (omega arith) (fits_at page)
      (omega (arith, chain_le Leaf y.entry.high hi ys d)))
      (omega (arith, leaf_length p (rows_at page), small page h.is_in_use))
      (leaf_view measure m Leaf p now lo hi xs y ys (rows_at page) c i j w d h.same)

  module _ (IsKnown : ℕ → Type 0) (known : IsKnown p.key) where
    index_agrees : (n : ℕ)
        → ((page lo hi : ℕ) (tr : Tree n) → lo ≤ p.key → p.key < hi → hi ≤ key_limit → Holds n store In p.tick lo hi page tr
        → Full IsKnown n tr → Agrees measure tree lo hi (enter_from tree p n page) (entered n page))
        → (page lo hi : ℕ) (tr : Tree (suc n)) → hi ≤ key_limit → Cut (Holds n store In p.tick) lo hi p.key tr
        → Holds (suc n) store In p.tick lo hi page tr → Full IsKnown (suc n) tr
        → Agrees measure tree lo hi (enter_from tree p (suc n) page) (entered (suc n) page)
    unfolding enter_from
    index_agrees n ih page lo hi tr top (cut xs y ys c i j w d) h full = go (split p.key y.entry.low)
      where
        rs : List model.Row
        rs = view_rows measure (rows_at page)

        field_of : (g : Entry → ℕ) → field_holding p.tick p.key g (view_rows measure (rows_at page)) ≡ g y.entry
        field_of = field measure m (Holds n store In p.tick) p now lo hi xs y ys (rows_at page) c i j w d h.same

        steps : Bool → ℕ → ℕ → Outcome
        steps b x k =
            cond b
            (finish p.tick (entered n x).store alloc (entered n x).made page
            (relink p.tick k (entered n x).parts (gained p.tick p.key value (view_rows measure (rows_at page)))))
            (finish p.tick store alloc 0 page (gained p.tick p.key value (view_rows measure (rows_at page))))

        pass : (so : Written) (b : Bool) → ltb y.entry.low p.key ≡ b
            → Agrees measure tree lo hi so (steps b y.entry.page y.entry.low)
            → Agrees measure tree lo hi so (entered (suc n) page)
        pass so b e r =
            subst₃ (λ (b' : Bool) (x' k' : ℕ). Agrees measure tree lo hi so (steps b' x' k'))
            (sym (ap (λ (z : ℕ). ltb z p.key) (field_of (λ z. z.low)) ∙ e)) (sym (field_of (λ z. z.page)))
            (sym (field_of (λ z. z.low))) r

        go : (p.key ≤ y.entry.low) ⊎ (y.entry.low < p.key)
            → Agrees measure tree lo hi (enter_below tree p page (λ (child : ℕ). enter_from tree p n child) (row_around p (rows_at page)))
            (entered (suc n) page)
        go (inl l) =
            subst (λ (s : Search Placed). Agrees measure tree lo hi (enter_below tree p page (λ (child : ℕ). enter_from tree p n child) s)
            (entered (suc n) page))
            (sym (around_none measure m (Holds n store In p.tick) p now lo hi xs y ys (rows_at page) c i j w d h.same l))
            (pass (finish_page tree p.tick (unwritten tree) page (gain_rows p (rows_at page))) false (le-ltb y.entry.low p.key l)
            (alone page lo hi (gain_rows p (rows_at page)) (gained p.tick p.key value (view_rows measure (rows_at page)))
            h.is_in_use h.low h.high h.wide top
            (gain_fits p (rows_at page) (omega arith) (fits_at page))
            (omega (arith, gain_length p (rows_at page), small page h.is_in_use))
            (gain_view measure m (Holds n store In p.tick) p now lo hi xs y ys (rows_at page) c i j w d h.same)))
        go (inr l) =
            subst (λ (s : Search Placed). Agrees measure tree lo hi (enter_below tree p page (λ (child : ℕ). enter_from tree p n child) s)
            (entered (suc n) page))
            (sym r.is_found)
            (pass (enter_above tree p page r.item (enter_from tree p n r.item.row.child)) true (lt-ltb y.entry.low p.key l)
            (subst (λ (child : ℕ). Agrees measure tree lo hi (enter_above tree p page r.item (enter_from tree p n child))
            (steps true y.entry.page y.entry.low))
            (sym is_child) above))
          where
            r : FoundRow measure p.tick (rows_at page) (row_around p (rows_at page)) y.entry
            r = around_some measure m (Holds n store In p.tick) p now lo hi xs y ys (rows_at page) c i j w d h.same l

            is_child : r.item.row.child ≡ y.entry.page
            is_child = ap (λ (e : Entry). e.page) r.entry

            so : Written
            so = enter_from tree p n y.entry.page

            o : Outcome
            o = entered n y.entry.page

            right : y.entry.high ≤ hi
            right = chain_le (Holds n store In p.tick) y.entry.high hi ys d

            full_child : Full IsKnown n y.below
            full_child = (all_split (Filled IsKnown n) xs (y ∷ ys) full).1.0.0

            child : Agrees measure tree y.entry.low y.entry.high so o
            child = ih y.entry.page y.entry.low y.entry.high y.below i j (omega (arith, right)) w full_child

            header : o.store page ≡ store page
            header =
                (enter_keeps p.tick now p.key value IsKnown known store In alloc (used_allocates tree.used takes) 0 n y.entry.low y.entry.high y.entry.page
                y.below i j w full_child
                ).frame page h.is_in_use (inl (omega (arith, h.level)))

            rows : List Row
            rows = relink_row p.tick r.item so.became (gain_rows p (rows_at page))

            view : view_rows measure (relink_row p.tick r.item so.became (gain_rows p (rows_at page)))
                ≡ relink p.tick y.entry.low o.parts (gained p.tick p.key value (view_rows measure (rows_at page)))
            view =
                relink_view measure m (Holds n store In p.tick) p now lo hi xs y ys (rows_at page) c i j w d h.same l r.item
                r.at r.entry
                so.became child.0.covers
                ∙ ap
                (λ (b : Parts). relink p.tick y.entry.low b (gained p.tick p.key value (view_rows measure (rows_at page))))
                child.0.parts

            fits : All Fits (relink_row p.tick r.item so.became (gain_rows p (rows_at page)))
            fits =
                relink_fits p.tick r.item (gain_rows p (rows_at page)) y.entry.low y.entry.high (omega arith)
                (omega (arith, right)) (omega (arith, right))
                (found_fits p.tick _ (rows_at page) (fits_at page) r.is_found)
                (gain_fits p (rows_at page) (omega arith) (fits_at page)) so.became child.0.covers

            above : Agrees measure tree lo hi (enter_above tree p page r.item so) (steps true y.entry.page y.entry.low)
            above =
                subst₂
                (λ (n' : ℕ) (q : List model.Row). Agrees measure tree lo hi (enter_above tree p page r.item so)
                (finish p.tick o.store alloc n' page q))
                child.0.made view
                (finish_agrees measure m tree takes p.tick so page lo hi o.store rows (omega arith) (omega (arith, h.wide)) (omega arith)
                (omega (arith, h.low, h.high)) fits
                (omega (
                  arith,
                  relink_length p.tick r.item (gain_rows p (rows_at page)) so.became,
                  gain_length p (rows_at page),
                  small page h.is_in_use,
                ))
                h.is_in_use child.0.table header (λ x l. child.1 x (subst (λ (n' : ℕ). After In alloc n' x) child.0.made l)))

    pub enter_agrees : (n page lo hi : ℕ) (tr : Tree n) → lo ≤ p.key → p.key < hi → hi ≤ key_limit
        → Holds n store In p.tick lo hi page tr → Full IsKnown n tr
        → Agrees measure tree lo hi (enter_from tree p n page) (entered n page)
    enter_agrees zero page lo hi tr i j top h full = leaf_agrees page lo hi tr top (cut_at Leaf lo hi p.key tr h.chain i j) h
    enter_agrees (suc n) page lo hi tr i j top h full =
        index_agrees n (λ page' lo' hi' tr'. enter_agrees n page' lo' hi' tr') page lo hi tr top
        (cut_at (Holds n store In p.tick) lo hi p.key tr h.chain i j) h full
