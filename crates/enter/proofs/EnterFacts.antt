-- Entering a point from a page down writes pages of that level and below, and new ones: every other page in use keeps its words.
use Prim.Native.Nat.{ℕ, zero, suc, ◌+◌, ◌*◌, ◌≤◌, ◌<◌}
use native.Mathlib.Omega.{arith}
use mathlib.Core.Path.{◌≡◌, refl, sym, ap, ◌∙◌}
use mathlib.Core.Bool.{Bool, true, and-eq-true_iff}
use mathlib.Core.List.{List}
use lib.ListN.{length}
use Rattle.tree.specs.declared.types.Row.{Row}
use Rattle.tree.specs.Row.{word, row_start, rows_of, page_words, row_limit}
use Rattle.tree.specs.Limits.{most_rows, most_appended}
use Rattle.tree.specs.KeyOrder.{Placed}
use Rattle.tree.specs.TrueValue.{Search, none, one}
use Rattle.live.proofs.PageReadings.{header_facts}
use Rattle.tree.specs.Tree.{Tree, page_at, level_of, met_at}
use Rattle.tree.specs.RowSteps.{Point, row_around, gain_rows, leaf_rows, relink_row}
use Rattle.tree.specs.declared.types.Became.{Became}
use Rattle.tree.specs.Overflow.{Written, finish_page}
use Rattle.tree.specs.Enter.{unwritten, enter_below, enter_from}
use Rattle.tree.specs.Plan.{sound_below, descent_sound}
use Rattle.tree.specs.Fresh.{zeros}
use Rattle.tree.specs.Use.{in_use}
use Rattle.tree.specs.Taking.{InUse, HasPages, Takes}
use Rattle.enter.specs.EnterWords.{loaded, appended_words}
use Rattle.enter.proofs.SettleLaws.{rows_of_front, loaded_count, loaded_length}
use Rattle.tree.proofs.TableLaws.{page_length}
use Rattle.tree.proofs.UseLaws.{in_use_inside, fewer, has_same}
use Rattle.enter.proofs.StepRows.{RowsFit, ChildrenFit, gain_fits, leaf_fits, link_fits}
use Rattle.enter.proofs.FinishFacts.{Finished, finish_facts, finish_least}
use Rattle.split.specs.SplitWords.{scratch_words}

-- What a page that is met says
pub record Met (tree : Tree) (level page : ℕ) : Type 0 where
  pub is_in_use : InUse tree.used page
  pub level_is : level_of tree.table page ≡ level
  pub few_rows : word (page_at tree.table page) 1 ≤ row_limit

pub met_facts : (tree : Tree) (t level low high page : ℕ) → met_at tree t level low high page ≡ true → Met tree level page
met_facts tree t level low high page e =
    let a = (and-eq-true_iff (in_use tree.used page) _).0 e in
    let b = (and-eq-true_iff _ _).0 a.1 in
    let h = header_facts level low high (page_at tree.table page) b.0 in
    record { is_in_use = a.0; level_is = h.level_is; few_rows = h.few_rows }

-- The pages in use lie in the table
abbrev pub InTable : Tree → Type 0
InTable tree = tree.used.pages * page_words ≤ length tree.table

pub record Entered (tree : Tree) (level : ℕ) (o : Written) : Type 0 where
  pub same_length : length o.table ≡ length tree.table
  pub other : (q : ℕ) → InUse tree.used q → level < level_of tree.table q → page_at o.table q ≡ page_at tree.table q
  pub children : ChildrenFit o.became

-- The descent's rows and what lies below them
pub descent_here : (tree : Tree) (p : Point) (level low high page : ℕ) → descent_sound tree p level low high page ≡ true → met_at tree p.tick level low high page ≡ true
unfolding descent_sound
descent_here tree p zero low high page e = e
descent_here tree p (suc l) low high page e = ((and-eq-true_iff _ _).0 e).0

pub descent_below : (tree : Tree) (p : Point) (l low high page : ℕ) {x : Placed} → descent_sound tree p (suc l) low high page ≡ true →
    row_around p (rows_of (page_at tree.table page)) ≡ one x → descent_sound tree p l x.row.low x.row.high x.row.child ≡ true
unfolding descent_sound
descent_below tree p l low high page {x} e f =
    let go : Row → Bool = λ (row : Row). descent_sound tree p l row.low row.high row.child in
    let below : sound_below go (row_around p (rows_of (page_at tree.table page))) ≡ true =
    ((and-eq-true_iff (met_at tree p.tick (suc l) low high page) _).0 e).1 in
    ap (sound_below go) (sym f) ∙ below

module _ (tree : Tree) (p : Point) (small : p.tick < 4294967296) (narrow : p.key < 65536) (in_table : InTable tree) where
  -- a page that is met lies in the table, and its rows leave room for three more in its copy
  module _ (level page : ℕ) (m : Met tree level page) where
    pub page_inside : page * page_words + page_words ≤ length tree.table
    page_inside = in_use_inside tree.used page tree.table m.is_in_use in_table

    pub page_whole : length (page_at tree.table page) ≡ page_words
    page_whole = page_length tree.table page page_inside

  -- the other pages after one page was finished
  finished_other : (level page : ℕ) → Met tree level page → (so o : Written) → Finished tree so page o → (q : ℕ) → InUse tree.used q →
      level < level_of tree.table q → page_at so.table q ≡ page_at tree.table q → page_at o.table q ≡ page_at tree.table q
  finished_other level page m so o f q l h e = f.other q l apart ∙ e
    where
      apart : q ≡ page → ⊥
      apart same = omega (arith, m.level_is, ap (level_of tree.table) same)

  lowest_facts : Takes tree.used → (level page : ℕ) → Met tree level page → (rows : List Row) → RowsFit most_rows rows →
      HasPages tree.table tree.used (finish_page tree p.tick (unwritten tree) page rows).made →
      Entered tree level (finish_page tree p.tick (unwritten tree) page rows)
  lowest_facts takes level page m rows fit room =
      let f = finish_facts tree takes p.tick small (unwritten tree) page rows fit.fit fit.few (page_whole level page m) (page_inside level page m) room in
      record {
        same_length = f.same_length;
        other = λ q l h. finished_other level page m (unwritten tree) _ f q l h refl;
        children = f.children;
      }

  -- the copy of a page has its rows
  module _ (level page : ℕ) (m : Met tree level page) where
    pub copy_rows : rows_of (loaded tree.table page) ≡ rows_of (page_at tree.table page)
    copy_rows = rows_of_front (page_at tree.table page) (zeros appended_words) (omega (arith, m.few_rows, page_whole level page m))

    pub copy_count : word (loaded tree.table page) 1 ≡ word (page_at tree.table page) 1
    copy_count = loaded_count tree.table page (page_whole level page m)

    pub copy_length : length (loaded tree.table page) ≡ scratch_words
    copy_length = loaded_length tree.table page (page_whole level page m)

    pub copy_room : (i : ℕ) → i ≤ most_appended → row_start (word (loaded tree.table page) 1 + i) ≤ length (loaded tree.table page)
    copy_room i h = omega (arith, m.few_rows, copy_count, copy_length)

    pub leaf_rows_fit : RowsFit most_rows (leaf_rows p (rows_of (page_at tree.table page)))
    leaf_rows_fit =
        let f = leaf_fits p small narrow (loaded tree.table page) (copy_room 2 (omega arith)) in
        let g : RowsFit most_rows (leaf_rows p (rows_of (loaded tree.table page))) = record { fit = f.fit; few = omega (arith, f.few, copy_count, m.few_rows) } in
        rw copy_rows at g

    pub gain_rows_fit : RowsFit most_rows (gain_rows p (rows_of (page_at tree.table page)))
    gain_rows_fit =
        let f = gain_fits p small narrow (loaded tree.table page) (copy_room 1 (omega arith)) in
        let g : RowsFit most_rows (gain_rows p (rows_of (loaded tree.table page))) = record { fit = f.fit; few = omega (arith, f.few, copy_count, m.few_rows) } in
        rw copy_rows at g

    pub link_rows_fit : (x : Placed) → row_around p (rows_of (page_at tree.table page)) ≡ one x → (became : Became) → ChildrenFit became →
        RowsFit most_rows (relink_row p.tick x became (gain_rows p (rows_of (page_at tree.table page))))
    link_rows_fit x found became fit =
        let there : row_around p (rows_of (loaded tree.table page)) ≡ one x = ap (row_around p) copy_rows ∙ found in
        let f = link_fits p small narrow (loaded tree.table page) (copy_room most_appended (omega arith)) x there became fit in
        let g : RowsFit most_rows (relink_row p.tick x became (gain_rows p (rows_of (loaded tree.table page)))) =
        record { fit = f.fit; few = omega (arith, f.few, copy_count, m.few_rows) } in
        rw copy_rows at g

  -- by the level: each page's level is one less than its parent's
  pub enter_facts : Takes tree.used → (level low high page : ℕ) → descent_sound tree p level low high page ≡ true →
      HasPages tree.table tree.used (enter_from tree p level page).made → Entered tree level (enter_from tree p level page)
  unfolding enter_from
  enter_facts takes zero low high page sound room =
      let m = met_facts tree p.tick 0 low high page (descent_here tree p 0 low high page sound) in
      lowest_facts takes 0 page m (leaf_rows p (rows_of (page_at tree.table page))) (leaf_rows_fit 0 page m) room
  enter_facts takes (suc l) low high page sound room =
      go (row_around p (rows_of (page_at tree.table page))) refl
      (λ (x : Placed) (f : row_around p (rows_of (page_at tree.table page)) ≡ one x) r. enter_facts takes l x.row.low x.row.high x.row.child (descent_below tree p l low high page sound f) r) room
    where
      below : ℕ → Written
      below child = enter_from tree p l child

      go : (s : Search Placed) → row_around p (rows_of (page_at tree.table page)) ≡ s →
          ((x : Placed) → row_around p (rows_of (page_at tree.table page)) ≡ one x →
          HasPages tree.table tree.used (enter_from tree p l x.row.child).made → Entered tree l (enter_from tree p l x.row.child)) →
          HasPages tree.table tree.used (enter_below tree p page below s).made →
          Entered tree (suc l) (enter_below tree p page below s)
      go none e ih r =
          let m = met_facts tree p.tick (suc l) low high page (descent_here tree p (suc l) low high page sound) in
          lowest_facts takes (suc l) page m (gain_rows p (rows_of (page_at tree.table page))) (gain_rows_fit (suc l) page m) r
      go (one x) e ih r =
          let m = met_facts tree p.tick (suc l) low high page (descent_here tree p (suc l) low high page sound) in
          let child : Written = enter_from tree p l x.row.child in
          let rows : List Row = relink_row p.tick x child.became (gain_rows p (rows_of (page_at tree.table page))) in
          let less : child.made ≤ (finish_page tree p.tick child page rows).made = finish_least tree p.tick child page rows in
          let c = ih x e (fewer tree.used child.made _ tree.table less r) in
          let fit = link_rows_fit (suc l) page m x e child.became c.children in
          let f =
          finish_facts tree takes p.tick small child page rows fit.fit fit.few (page_whole (suc l) page m)
          (omega (arith, c.same_length, page_inside (suc l) page m)) (has_same tree.used _ tree.table child.table c.same_length r) in
          record {
            same_length = f.same_length ∙ c.same_length;
            other = λ q i h. finished_other (suc l) page m child _ f q i h (c.other q i (omega arith));
            children = f.children;
          }
