-- One page of an entry: the edited copy, settled, is what the definition says of the page, in a leaf, in a lowest page above it, and above that.
use Prim.Native.Nat.{ℕ, suc, ◌+◌, ◌*◌, ◌≤◌, ◌<◌}
use native.Mathlib.Omega.{arith}
use mathlib.Core.Path.{◌≡◌, refl, sym, ap, ap₂, ◌∙◌}
use mathlib.Core.List.{List, ◌++◌}
use lib.ListN.{length}
use Rattle.tree.specs.Limits.{most_made, most_rows, most_appended}
use Rattle.tree.specs.declared.types.Row.{Row}
use Rattle.tree.specs.Row.{word, row_start, rows_of, page_words, row_limit}
use Rattle.tree.specs.RowEdits.{row_in}
use Rattle.tree.specs.KeyOrder.{Placed}
use Rattle.tree.specs.TrueValue.{none, one}
use Rattle.ranges.specs.Nearest.{place_found}
use Rattle.live.specs.Survey.{is_around}
use Rattle.tree.specs.Edit.{with_rows}
use Rattle.tree.specs.Fresh.{zeros}
use Rattle.tree.proofs.MostMade.{made_below, new_few}
use Rattle.tree.proofs.PageCodec.{with_length, with_count}
use Rattle.tree.proofs.UseLaws.{fewer, has_same}
use Rattle.split.specs.SplitWords.{scratch_words}
use Rattle.split.specs.declared.done.Done.{Done}
use Rattle.tree.specs.Tree.{Tree, page_at}
use Rattle.tree.specs.RowSteps.{Point, row_around, row_from, gain_rows, leaf_rows, relink_row}
use Rattle.tree.specs.declared.types.Became.{Became}
use Rattle.tree.specs.Overflow.{Written, finish_page}
use Rattle.tree.specs.Enter.{unwritten, enter_from}
use Rattle.tree.specs.Taking.{HasPages}
use Rattle.row_steps.specs.PageEdits.{leaf_words, gain_words, link_words}
use Rattle.enter.specs.EnterWords.{loaded, made_so, settled, CanSettle, CanEnter, DoneAs, leaf_edited, gain_edited, link_edited, appended_words}
use Rattle.enter.proofs.SettleLaws.{settled_is_finished}
use Rattle.enter.proofs.StepRows.{Seen, found_seen, RowsFit, gain_is_with, leaf_is_with, link_is_with}
use Rattle.enter.proofs.FinishFacts.{finish_least}
use Rattle.enter.proofs.EnterFacts.{Met, met_facts, Entered, descent_here, descent_below, page_inside, page_whole, copy_rows, copy_length, copy_room, leaf_rows_fit, gain_rows_fit, link_rows_fit, enter_facts}

module _ (tree : Tree) (p : Point) (small : p.tick < 4294967296) (narrow : p.key < 65536) where
  met : (level page : ℕ) → CanEnter tree p level page → Met tree level page
  met level page can = met_facts tree p.tick level can.sound.0 can.sound.1.0 page (descent_here tree p level can.sound.0 can.sound.1.0 page can.sound.1.1)

  pub few_rows : (level page : ℕ) → CanEnter tree p level page → word (page_at tree.table page) 1 ≤ row_limit
  few_rows level page can = (met level page can).few_rows

  pub inside : (level page : ℕ) → CanEnter tree p level page → page * page_words + page_words ≤ length tree.table
  inside level page can = page_inside tree p small narrow can.in_table level page (met level page can)

  -- an edited copy that holds these rows can be settled, and settling it finishes the page
  module _ (level page : ℕ) (can : CanEnter tree p level page) (so : Written) (same : length so.table ≡ length tree.table) (few : so.made < most_made)
      (rows : List Row) (fit : RowsFit most_rows rows) (words : List ℕ) (is : words ≡ with_rows (loaded tree.table page) rows)
      (room : HasPages tree.table tree.used (finish_page tree p.tick so page rows).made) where
    m : Met tree level page
    m = met level page can

    long : length (loaded tree.table page) ≡ scratch_words
    long = copy_length tree p small narrow can.in_table level page m

    fits : row_start (length rows) ≤ length (loaded tree.table page)
    fits = omega (arith, long, fit.few)

    pub settles : settled tree.used p.tick so page words ≡ finish_page tree p.tick so page rows
    settles = settled_is_finished tree p.tick so page rows words (page_whole tree p small narrow can.in_table level page m) is fit.fit fit.few

    pub can_settle : CanSettle tree.used p.tick so page words
    can_settle =
        record {
          size = ap length is ∙ with_length (loaded tree.table page) rows fits ∙ long;
          rows = omega (arith, ap (λ (w : List ℕ). word w 1) is, with_count (loaded tree.table page) rows fits, fit.few);
          few = few;
          inside = omega (arith, same, inside level page can);
          takes = can.takes;
          room = rw settles (has_same tree.used _ tree.table so.table same room);
        }

  module _ (page : ℕ) where
    -- a leaf
    pub leaf_edited_lem : (can : CanEnter tree p 0 page) → leaf_edited p.tick p.key p.value tree.table page ≡ with_rows (loaded tree.table page) (leaf_rows p (rows_of (page_at tree.table page)))
    leaf_edited_lem can =
        let m' = met 0 page can in
        let rows = copy_rows tree p small narrow can.in_table 0 page m' in
        ap (λ (rs : List Row). leaf_words p.tick p.key p.value (loaded tree.table page) (place_found (row_around p rs)) (place_found (row_from p rs))) (sym rows)
        ∙ leaf_is_with p small narrow (loaded tree.table page) (copy_room tree p small narrow can.in_table 0 page m' 2 (omega arith))
        ∙ ap (λ (rs : List Row). with_rows (loaded tree.table page) (leaf_rows p rs)) rows

    pub leaf_room : CanEnter tree p 0 page
        → HasPages tree.table tree.used (finish_page tree p.tick (unwritten tree) page (leaf_rows p (rows_of (page_at tree.table page)))).made
    unfolding enter_from
    leaf_room can = can.room

    pub leaf_can : CanEnter tree p 0 page → CanSettle tree.used p.tick (made_so tree.table 0) page (leaf_edited p.tick p.key p.value tree.table page)
    leaf_can can =
        can_settle 0 page can (unwritten tree) refl (omega arith) (leaf_rows p (rows_of (page_at tree.table page)))
        (leaf_rows_fit tree p small narrow can.in_table 0 page (met 0 page can)) _ (leaf_edited_lem can) (leaf_room can)

    pub leaf_is : CanEnter tree p 0 page → settled tree.used p.tick (made_so tree.table 0) page (leaf_edited p.tick p.key p.value tree.table page) ≡ enter_from tree p 0 page
    unfolding enter_from
    leaf_is can =
        settles 0 page can (unwritten tree) refl (omega arith) (leaf_rows p (rows_of (page_at tree.table page)))
        (leaf_rows_fit tree p small narrow can.in_table 0 page (met 0 page can)) _ (leaf_edited_lem can) (leaf_room can)

    -- a lowest page above the leaves
    module _ (l : ℕ) (can : CanEnter tree p (suc l) page) where
      here : Met tree (suc l) page
      here = met (suc l) page can

      rows_same : rows_of (loaded tree.table page) ≡ rows_of (page_at tree.table page)
      rows_same = copy_rows tree p small narrow can.in_table (suc l) page here

      gained_copy : gain_words p.tick p.value (loaded tree.table page) (place_found (row_from p (rows_of (page_at tree.table page))))
          ≡ with_rows (loaded tree.table page) (gain_rows p (rows_of (loaded tree.table page)))
      gained_copy =
          ap (λ (rs : List Row). gain_words p.tick p.value (loaded tree.table page) (place_found (row_from p rs))) (sym rows_same)
          ∙ gain_is_with p small narrow (loaded tree.table page) (copy_room tree p small narrow can.in_table (suc l) page here 1 (omega arith))

      module _ (found : row_around p (rows_of (page_at tree.table page)) ≡ none) where
        entered_none : enter_from tree p (suc l) page ≡ finish_page tree p.tick (unwritten tree) page (gain_rows p (rows_of (page_at tree.table page)))
        unfolding enter_from
        entered_none = rw found

        none_room : HasPages tree.table tree.used (finish_page tree p.tick (unwritten tree) page (gain_rows p (rows_of (page_at tree.table page)))).made
        none_room = rw entered_none at can.room

        gain_edited_lem : gain_edited p.tick p.value tree.table page (place_found (row_from p (rows_of (page_at tree.table page))))
            ≡ with_rows (loaded tree.table page) (gain_rows p (rows_of (page_at tree.table page)))
        gain_edited_lem = gained_copy ∙ ap (λ (rs : List Row). with_rows (loaded tree.table page) (gain_rows p rs)) rows_same

        pub lowest_can : CanSettle tree.used p.tick (made_so tree.table 0) page
            (gain_edited p.tick p.value tree.table page (place_found (row_from p (rows_of (page_at tree.table page)))))
        lowest_can =
            can_settle (suc l) page can (unwritten tree) refl (omega arith) (gain_rows p (rows_of (page_at tree.table page)))
            (gain_rows_fit tree p small narrow can.in_table (suc l) page here) _ gain_edited_lem none_room

        pub lowest_is : settled tree.used p.tick (made_so tree.table 0) page
            (gain_edited p.tick p.value tree.table page (place_found (row_from p (rows_of (page_at tree.table page)))))
            ≡ enter_from tree p (suc l) page
        lowest_is =
            settles (suc l) page can (unwritten tree) refl (omega arith) (gain_rows p (rows_of (page_at tree.table page)))
            (gain_rows_fit tree p small narrow can.in_table (suc l) page here) _ gain_edited_lem none_room
            ∙ sym entered_none

      -- a page above the lowest, when the call came back from the child of its row
      module _ (x : Placed) (found : row_around p (rows_of (page_at tree.table page)) ≡ one x) where
        child : Written
        child = enter_from tree p l x.row.child

        rows_after : List Row
        rows_after = relink_row p.tick x child.became (gain_rows p (rows_of (page_at tree.table page)))

        entered_one : enter_from tree p (suc l) page ≡ finish_page tree p.tick child page rows_after
        unfolding enter_from child rows_after
        entered_one = rw found

        one_room : HasPages tree.table tree.used (finish_page tree p.tick child page rows_after).made
        one_room = rw entered_one at can.room

        -- the call on the child is allowed
        pub child_can : CanEnter tree p l x.row.child
        unfolding child
        child_can =
            record {
              sound = (x.row.low, (x.row.high, descent_below tree p l can.sound.0 can.sound.1.0 page can.sound.1.1 found));
              room = fewer tree.used child.made _ tree.table (finish_least tree p.tick child page rows_after) one_room;
              in_table = can.in_table;
              takes = can.takes;
              low_level = omega (arith, can.low_level);
            }

        facts : Entered tree l child
        unfolding child child_can
        facts = enter_facts tree p small narrow can.in_table can.takes l x.row.low x.row.high x.row.child child_can.sound.1.1 child_can.room

        -- the page itself is as it was
        pub page_kept : page_at (enter_from tree p l x.row.child).table page ≡ page_at tree.table page
        unfolding child
        page_kept = facts.other page here.is_in_use (omega (arith, here.level_is))

        seen : Seen p.tick (loaded tree.table page) (is_around p.key) x
        seen = found_seen p.tick (loaded tree.table page) (is_around p.key) (ap (row_around p) rows_same ∙ found)

        module _ (done : Done) (now : List ℕ) (is : DoneAs (enter_from tree p l x.row.child) now done) where
          page_now : page_at now page ≡ page_at tree.table page
          page_now = ap (λ (w : List ℕ). page_at w page) is.table_is ∙ page_kept

          loaded_now : loaded now page ≡ loaded tree.table page
          loaded_now = ap (λ (w : List ℕ). w ++ zeros appended_words) page_now

          link_edited_lem : link_edited p.tick p.value now page (place_found (row_from p (rows_of (page_at tree.table page)))) x.place done.became
              ≡ with_rows (loaded tree.table page) rows_after
          unfolding rows_after child
          link_edited_lem =
              ap
              (λ (w : List ℕ). link_words p.tick (gain_words p.tick p.value w (place_found (row_from p (rows_of (page_at tree.table page))))) x.place (row_in w x.place) done.became)
              loaded_now
              ∙ ap₂ (λ (w : List ℕ) (r : Row). link_words p.tick w x.place r done.became) gained_copy seen.same
              ∙ link_is_with p small narrow (loaded tree.table page) (copy_room tree p small narrow can.in_table (suc l) page here most_appended (omega arith)) x
              (ap (row_around p) rows_same ∙ found) done.became (rw is.became_is facts.children)
              ∙ ap₂ (λ (b : Became) (rs : List Row). with_rows (loaded tree.table page) (relink_row p.tick x b (gain_rows p rs))) is.became_is rows_same

          same_size : length now ≡ length tree.table
          unfolding child
          same_size = ap length is.table_is ∙ facts.same_length

          fit : RowsFit most_rows rows_after
          unfolding rows_after
          fit = link_rows_fit tree p small narrow can.in_table (suc l) page here x found child.became facts.children

          -- finishing looks at the table and the count alone
          finish_so : finish_page tree p.tick (made_so now done.made) page rows_after ≡ finish_page tree p.tick child page rows_after
          unfolding finish_page child
          finish_so = rw (is.table_is, is.made_is)

          few_made : done.made < most_made
          unfolding child
          few_made = omega (arith, is.made_is, made_below tree p l x.row.child, new_few child.became, can.low_level)

          so_room : HasPages tree.table tree.used (finish_page tree p.tick (made_so now done.made) page rows_after).made
          so_room = rw finish_so one_room

          pub above_can : CanSettle tree.used p.tick (made_so now done.made) page
              (link_edited p.tick p.value now page (place_found (row_from p (rows_of (page_at tree.table page)))) x.place done.became)
          above_can = can_settle (suc l) page can (made_so now done.made) same_size few_made rows_after fit _ link_edited_lem so_room

          pub above_is : settled tree.used p.tick (made_so now done.made) page
              (link_edited p.tick p.value now page (place_found (row_from p (rows_of (page_at tree.table page)))) x.place done.became)
              ≡ enter_from tree p (suc l) page
          above_is =
              settles (suc l) page can (made_so now done.made) same_size few_made rows_after fit _ link_edited_lem so_room
              ∙ finish_so
              ∙ sym entered_one

          pub above_rows : word (page_at now page) 1 ≡ word (page_at tree.table page) 1
          above_rows = ap (λ (w : List ℕ). word w 1) page_now
