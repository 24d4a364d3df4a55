-- The steps of an entry, on a page's words and on its rows: the places that a survey finds make both the same.
use Prim.Native.Nat.{ℕ, ◌+◌, ◌≤◌, ◌<◌}
use native.Mathlib.Omega.{arith}
use mathlib.Core.Path.{◌≡◌, refl, sym, ap, ◌∙◌}
use mathlib.Core.Bool.{Bool, true, false, cond, and-eq-true_iff}
use mathlib.Core.List.{List, [], ◌∷◌, ◌++◌}
use lib.Dec.{eqb}
use lib.ListN.{length, get_or, set, length-set, length-append, get_or-append}
use lib.Seq.{get_or-set_other}
use borrow.Author.Tests.{leb-true, ltb-true}
use Rattle.words.specs.Lists.{All}
use Rattle.words.specs.Value.{zero}
use Rattle.tree.specs.declared.types.Row.{Row}
use Rattle.tree.specs.Row.{word, row_at, row_start, rows_of, header_words, live}
use Rattle.tree.specs.Limits.{most_appended}
use Rattle.tree.specs.RowEdits.{row_in, append_row}
use Rattle.tree.specs.KeyOrder.{Placed, key_order}
use Rattle.tree.specs.TrueValue.{Search, none, one, first}
use Rattle.ranges.specs.Nearest.{place_found}
use Rattle.live.specs.Survey.{is_around, starts_from}
use Rattle.tree.specs.Edit.{ended, born_at, with_rows}
use Rattle.tree.specs.Fresh.{new_row}
use Rattle.tree.proofs.Places.{AtPlace, order_places}
use Rattle.tree.proofs.Searches.{first_has, first_passes}
use Rattle.tree.proofs.PageCodec.{Fits, row_fits_lem, rows_fit, rows_length, row_at_place, with_length, with_count, with_rows_lem}
use Rattle.rows.proofs.WithRows.{with_same, with_with}
use Rattle.tree.specs.RowSteps.{Point, gained, cut_at, linked_to, replace_row, row_around, row_from, gain_in, gain_rows, cut_in, leaf_rows, relink_row}
use Rattle.tree.specs.declared.types.Child.{Child}
use Rattle.tree.specs.declared.types.Became.{Became}
use Rattle.tree.specs.declared.types.Became.TheVariants.{Stays, Copied, Halved}
use Rattle.row_steps.specs.PageEdits.{Within, replace_words, gain_words, leaf_words, link_words}
use Rattle.row_steps.proofs.EditedRows.{replace_is_with, replace_and_add, replaced_fits, replaced_length, replaced_most}

-- A row that a search in the key order of a page finds: it stands at its place, and passes the test
pub record Seen (t : ℕ) (page : List ℕ) (test : Placed → Bool) (x : Placed) : Type 0 where
  pub inside : x.place < word page 1
  pub same : row_in page x.place ≡ x.row
  pub alive : live t x.row ≡ true
  pub passes : test x ≡ true

pub found_seen : (t : ℕ) (page : List ℕ) (test : Placed → Bool) {x : Placed} → first test (key_order t (rows_of page)) ≡ one x → Seen t page test x
found_seen t page test {x} e =
    let d : Row = row_at page 0 in
    let p : AtPlace t d (rows_of page) x = first_has (AtPlace t d (rows_of page)) test (key_order t (rows_of page)) (order_places t d (rows_of page)) e in
    let inside : x.place < word page 1 = omega (arith, p.within, rows_length page header_words (word page 1)) in
    record {
      inside = inside;
      same = sym (p.same ∙ row_at_place page header_words (word page 1) x.place d inside);
      alive = p.alive;
      passes = first_passes test (key_order t (rows_of page)) e;
    }

-- The place that a search finds lies in the page
pub found_within : (t : ℕ) (page : List ℕ) (test : Placed → Bool) → Within (word page 1) (place_found (first test (key_order t (rows_of page))))
found_within t page test = go (first test (key_order t (rows_of page))) refl
  where
    go : (s : Search Placed) → first test (key_order t (rows_of page)) ≡ s → Within (word page 1) (place_found s)
    go none e = tt
    go (one x) e = (found_seen t page test e).inside

-- The key ranges of new children fit their words
abbrev pub ChildFits : Child → Type 0
ChildFits c = (c.low < 65536) × (c.high < 65536)

abbrev pub ChildrenFit : Became → Type 0
ChildrenFit Stays = Unit {0}
ChildrenFit (Copied c) = ChildFits c
ChildrenFit (Halved c d) = ChildFits c × ChildFits d

-- Rows that fit, and are not too many
pub record RowsFit (most : ℕ) (rows : List Row) : Type 0 where
  pub fit : All Fits rows
  pub few : length rows ≤ most

module _ (p : Point) (small : p.tick < 4294967296) (narrow : p.key < 65536) (page : List ℕ) where
  module _ (room : row_start (word page 1 + 1) ≤ length page) where
    gain_go : (s : Search Placed) → row_from p (rows_of page) ≡ s → gain_words p.tick p.value page (place_found s) ≡ with_rows page (gain_in p (rows_of page) s)
    gain_go none e = sym (with_same page (omega arith))
    gain_go (one x) e =
        let s = found_seen p.tick page (starts_from p.key) e in
        ap (λ (r : Row). replace_words p.tick page x.place r (gained p.value r)) s.same
        ∙ replace_is_with p.tick page x.place x.row s.inside s.same room (gained p.value x.row)

    -- Step 3
    pub gain_is_with : gain_words p.tick p.value page (place_found (row_from p (rows_of page))) ≡ with_rows page (gain_rows p (rows_of page))
    unfolding gain_rows
    gain_is_with = gain_go (row_from p (rows_of page)) refl

  -- Steps 2 and 3 in a leaf
  pub leaf_is_with : row_start (word page 1 + 2) ≤ length page →
      leaf_words p.tick p.key p.value page (place_found (row_around p (rows_of page))) (place_found (row_from p (rows_of page)))
      ≡ with_rows page (leaf_rows p (rows_of page))
  unfolding leaf_rows
  leaf_is_with room = go (row_around p (rows_of page)) refl
    where
      go : (s : Search Placed) → row_around p (rows_of page) ≡ s →
          leaf_words p.tick p.key p.value page (place_found s) (place_found (row_from p (rows_of page))) ≡ with_rows page (cut_in p (rows_of page) s)
      go none e = gain_is_with (omega arith)
      go (one x) e =
          let s = found_seen p.tick page (is_around p.key) e in
          let old_fits : Fits x.row = rw (← s.same) (row_fits_lem page (row_start x.place)) in
          ap
          (λ (r : Row). append_row (replace_words p.tick page x.place r (cut_at p.key r)) (new_row p.tick p.key r.high 0 p.value))
          s.same
          ∙ replace_and_add p.tick page x.place x.row s.inside s.same (omega arith) (cut_at p.key x.row)
          (new_row p.tick p.key x.row.high 0 p.value) small
          (record { low = old_fits.low; high = narrow; birth = old_fits.birth }) room

  -- What step 3 leaves of the other rows
  pub record AfterGain (after : List Row) : Type 0 where
    pub fit : All Fits after
    pub most : length after ≤ word page 1 + 1
    pub least : word page 1 ≤ length after
    pub other : (place : ℕ) (d : Row) → place < word page 1 → (row_in page place).low < p.key → get_or after place d ≡ row_in page place

  module _ (room : row_start (word page 1 + 1) ≤ length page) where
    many : length (rows_of page) ≡ word page 1
    many = rows_length page header_words (word page 1)

    after_go : (s : Search Placed) → row_from p (rows_of page) ≡ s → AfterGain (gain_in p (rows_of page) s)
    after_go none e =
        record {
          fit = rows_fit page header_words (word page 1);
          most = omega (arith, many);
          least = omega (arith, many);
          other = λ place d h l. row_at_place page header_words (word page 1) place d h;
        }
    after_go (one x) e =
        let s = found_seen p.tick page (starts_from p.key) e in
        let new : Row = gained p.value x.row in
        let old_fits : Fits x.row = rw (← s.same) (row_fits_lem page (row_start x.place)) in
        let long = replaced_length p.tick page x.place x.row s.inside s.same room new in
        record {
          fit = replaced_fits p.tick page x.place x.row s.inside s.same room new [] small
              (record { low = old_fits.low; high = old_fits.high; birth = old_fits.birth }) tt;
          most = long.0;
          least = long.1;
          other = λ place d h l. other place d h (apart place l s) (eqb x.row.birth p.tick);
        }
      where
        apart : (place : ℕ) → (row_in page place).low < p.key → Seen p.tick page (starts_from p.key) x → place ≡ x.place → ⊥
        apart place l s same =
            let from : p.key ≤ x.row.low = leb-true _ _ s.passes in
            let here : (row_in page place).low ≡ x.row.low = ap (λ (i : ℕ). (row_in page i).low) same ∙ ap (λ (r : Row). r.low) s.same in
            omega arith

        kept : (place : ℕ) (d a : Row) (more : List Row) → place < word page 1 → (place ≡ x.place → ⊥) →
            get_or (set (rows_of page) x.place a ++ more) place d ≡ row_in page place
        kept place d a more h n =
            get_or-append (set (rows_of page) x.place a) more d place (omega (arith, length-set (rows_of page) x.place a, many))
            ∙ get_or-set_other (rows_of page) x.place place a d n
            ∙ row_at_place page header_words (word page 1) place d h

        other : (place : ℕ) (d : Row) → place < word page 1 → (place ≡ x.place → ⊥) → (b : Bool) →
            get_or
            (cond b
            (set (rows_of page) x.place (gained p.value x.row) ++ [])
            (set (rows_of page) x.place (ended p.tick x.row) ++ (born_at p.tick (gained p.value x.row) ∷ [])))
            place
            d
            ≡ row_in page place
        other place d h n true = kept place d (gained p.value x.row) [] h n
        other place d h n false = kept place d (ended p.tick x.row) (born_at p.tick (gained p.value x.row) ∷ []) h n

    pub after_gain : AfterGain (gain_rows p (rows_of page))
    unfolding gain_rows
    after_gain = after_go (row_from p (rows_of page)) refl

  -- Step 7, after step 3
  module _ (room : row_start (word page 1 + most_appended) ≤ length page) (x : Placed) (found : row_around p (rows_of page) ≡ one x) where
    after : List Row
    after = gain_rows p (rows_of page)

    gain : AfterGain after
    unfolding after
    gain = after_gain (omega arith)

    seen : Seen p.tick page (is_around p.key) x
    seen = found_seen p.tick page (is_around p.key) found

    below : x.row.low < p.key
    below = ltb-true _ _ ((and-eq-true_iff _ _).0 seen.passes).0

    mid : List ℕ
    mid = with_rows page after

    fits_after : row_start (length after) ≤ length page
    fits_after = omega (arith, gain.most)

    mid_count : word mid 1 ≡ length after
    unfolding mid
    mid_count = with_count page after fits_after

    mid_size : length mid ≡ length page
    unfolding mid
    mid_size = with_length page after fits_after

    mid_rows : rows_of mid ≡ after
    unfolding mid
    mid_rows = with_rows_lem page after fits_after gain.fit

    mid_inside : x.place < word mid 1
    mid_inside = omega (arith, mid_count, gain.least, seen.inside)

    mid_same : row_in mid x.place ≡ x.row
    mid_same =
        let d : Row = x.row in
        let low : (row_in page x.place).low < p.key = omega (arith, below, ap (λ (r : Row). r.low) seen.same) in
        sym (row_at_place mid header_words (word mid 1) x.place d mid_inside)
        ∙ ap (λ (rs : List Row). get_or rs x.place d) mid_rows
        ∙ gain.other x.place d seen.inside low
        ∙ seen.same

    mid_room : (i : ℕ) → i ≤ 2 → row_start (word mid 1 + i) ≤ length mid
    mid_room i h = omega (arith, mid_count, mid_size, gain.most)

    old_fits : Fits x.row
    old_fits = rw (← seen.same) (row_fits_lem page (row_start x.place))

    -- rows written into the page after step 3 are rows written into the page
    over : (new : Row) (further : List Row) → length further ≤ 1 →
        with_rows mid (replace_row p.tick x new further (rows_of mid)) ≡ with_rows page (replace_row p.tick x new further after)
    unfolding mid
    over new further few =
        ap (λ (rs : List Row). with_rows mid (replace_row p.tick x new further rs)) mid_rows
        ∙ go (eqb x.row.birth p.tick)
      where
        both : (a : Row) (more : List Row) → length more ≤ 2 →
            with_rows (with_rows page after) (set after x.place a ++ more) ≡ with_rows page (set after x.place a ++ more)
        both a more l =
            let size : length (set after x.place a ++ more) ≡ length after + length more =
            length-append (set after x.place a) more ∙ omega (arith, length-set after x.place a) in
            with_with page after (set after x.place a ++ more) (omega arith) (omega (arith, gain.most))

        go : (b : Bool) →
            with_rows (with_rows page after) (cond b (set after x.place new ++ further) (set after x.place (ended p.tick x.row) ++ (born_at p.tick new ∷ further)))
            ≡ with_rows page (cond b (set after x.place new ++ further) (set after x.place (ended p.tick x.row) ++ (born_at p.tick new ∷ further)))
        go true = both new further (omega arith)
        go false = both (ended p.tick x.row) (born_at p.tick new ∷ further) (omega arith)

    pub link_is_with : (became : Became) → ChildrenFit became →
        link_words p.tick (with_rows page (gain_rows p (rows_of page))) x.place x.row became
        ≡ with_rows page (relink_row p.tick x became (gain_rows p (rows_of page)))
    unfolding relink_row mid after
    link_is_with Stays f = refl
    link_is_with (Copied c) f =
        replace_is_with p.tick mid x.place x.row mid_inside mid_same (mid_room 1 (omega arith)) (linked_to c x.row)
        ∙ over (linked_to c x.row) [] (omega arith)
    link_is_with (Halved c d) f =
        replace_and_add p.tick mid x.place x.row mid_inside mid_same (mid_room 1 (omega arith)) (linked_to c x.row)
        (new_row p.tick d.low d.high d.page zero) small (record { low = f.0.0; high = f.0.1; birth = old_fits.birth }) (mid_room 2 (omega arith))
        ∙ over (linked_to c x.row) (new_row p.tick d.low d.high d.page zero ∷ []) (omega arith)

    -- what step 7 leaves fits
    pub link_fits : (became : Became) → ChildrenFit became → RowsFit (word page 1 + most_appended) (relink_row p.tick x became (gain_rows p (rows_of page)))
    unfolding relink_row mid after
    link_fits Stays f = record { fit = gain.fit; few = omega (arith, gain.most) }
    link_fits (Copied c) f =
        let new : Row = linked_to c x.row in
        let n : Fits new = record { low = f.0; high = f.1; birth = old_fits.birth } in
        let a = replaced_fits p.tick mid x.place x.row mid_inside mid_same (mid_room 1 (omega arith)) new [] small n tt in
        let b = replaced_most p.tick mid x.place x.row mid_inside mid_same (mid_room 1 (omega arith)) new [] in
        let same = ap (replace_row p.tick x new []) mid_rows in
        record { fit = rw same at a; few = omega (arith, ap (λ (rs : List Row). length rs) same, mid_count, gain.most) }
    link_fits (Halved c d) f =
        let new : Row = linked_to c x.row in
        let second : Row = new_row p.tick d.low d.high d.page zero in
        let n : Fits new = record { low = f.0.0; high = f.0.1; birth = old_fits.birth } in
        let m : Fits second = record { low = f.1.0; high = f.1.1; birth = small } in
        let a = replaced_fits p.tick mid x.place x.row mid_inside mid_same (mid_room 1 (omega arith)) new (second ∷ []) small n (m, tt) in
        let b = replaced_most p.tick mid x.place x.row mid_inside mid_same (mid_room 1 (omega arith)) new (second ∷ []) in
        let same = ap (replace_row p.tick x new (second ∷ [])) mid_rows in
        record { fit = rw same at a; few = omega (arith, ap (λ (rs : List Row). length rs) same, mid_count, gain.most) }

  -- what steps 2 and 3 leave fits
  pub gain_fits : row_start (word page 1 + 1) ≤ length page → RowsFit (word page 1 + 1) (gain_rows p (rows_of page))
  gain_fits room = record { fit = (after_gain room).fit; few = (after_gain room).most }

  pub leaf_fits : row_start (word page 1 + 2) ≤ length page → RowsFit (word page 1 + 2) (leaf_rows p (rows_of page))
  unfolding leaf_rows
  leaf_fits room = go (row_around p (rows_of page)) refl
    where
      go : (s : Search Placed) → row_around p (rows_of page) ≡ s → RowsFit (word page 1 + 2) (cut_in p (rows_of page) s)
      go none e = let g = after_gain (omega arith) in record { fit = g.fit; few = omega (arith, g.most) }
      go (one x) e =
          let s = found_seen p.tick page (is_around p.key) e in
          let old : Fits x.row = rw (← s.same) (row_fits_lem page (row_start x.place)) in
          let new : Row = cut_at p.key x.row in
          let upper : Row = new_row p.tick p.key x.row.high 0 p.value in
          let n : Fits new = record { low = old.low; high = narrow; birth = old.birth } in
          let u : Fits upper = record { low = narrow; high = old.high; birth = small } in
          record {
            fit = replaced_fits p.tick page x.place x.row s.inside s.same (omega arith) new (upper ∷ []) small n (u, tt);
            few = omega (arith, replaced_most p.tick page x.place x.row s.inside s.same (omega arith) new (upper ∷ []));
          }
