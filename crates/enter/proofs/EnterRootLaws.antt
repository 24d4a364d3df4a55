-- The whole entry: what a plan says of it, and what its root does, in each of the three ways that a root can go.
use Prim.Native.Nat.{ℕ, zero, suc, ◌+◌, ◌*◌, ◌≤◌, ◌<◌}
use native.Mathlib.Omega.{arith}
use mathlib.Core.Path.{◌≡◌, refl, sym, ap, ap₂, ◌∙◌}
use mathlib.Core.Bool.{Bool, true, false, cond, ◌&&◌, not, and-eq-true_iff}
use mathlib.Core.List.{List, []}
use lib.Dec.{eqb}
use lib.ListN.{length}
use borrow.Author.Tests.{leb-true, ne_eqb}
use Rattle.std.specs.Prelude.{Option, Some, None, Ok, Err}
use Rattle.words.specs.Words.{root_birth, key_limit}
use Rattle.tree.specs.declared.types.SpoiledPage.{SpoiledPage}
use Rattle.tree.specs.Spoiled.{spoiled}
use Rattle.tree.specs.declared.types.Row.{Row}
use Rattle.tree.specs.Row.{rows_of, page_words}
use Rattle.tree.specs.KeyOrder.{Placed}
use Rattle.tree.specs.TrueValue.{Search, none, one}
use Rattle.tree.specs.Fresh.{fresh_page, two_rows}
use Rattle.page.specs.PageValue.{no_rows, two_row_root, encode_page}
use Rattle.tree.specs.declared.types.TreeUse.{TreeUse}
use Rattle.tree.specs.declared.types.RootChange.{RootChange}
use Rattle.tree.specs.declared.types.RootChange.TheVariants.{Kept, Added}
use Rattle.tree.specs.Tree.{Tree, page_at, put_page, level_of, root_at, root_in_use, top_level, last_root, met_at}
use Rattle.tree.specs.RowSteps.{Point, row_around}
use Rattle.tree.specs.declared.types.Child.{Child}
use Rattle.tree.specs.declared.types.Became.{Became}
use Rattle.tree.specs.declared.types.Became.TheVariants.{Stays, Copied, Halved}
use Rattle.tree.specs.Use.{in_use, taken_page, use_after}
use Rattle.tree.specs.Taking.{InUse, rootless}
use Rattle.tree.specs.Overflow.{Written, finish_page}
use Rattle.tree.specs.Enter.{Entered, enter_above, enter_below, enter_from, with_root, entered_as, enter_root}
use Rattle.tree.specs.Plan.{ready, sound_below, descent_sound, top_must_split, plan_root, plan, entered_root, enter}
use Rattle.tree.specs.Limits.{most_made}
use Rattle.split.specs.declared.done.Done.{Done}
use Rattle.enter.specs.EnterWords.{CanEnter, DoneAs}
use Rattle.tree.proofs.Answered.{not_spoiled, same_answer, same_ready}
use Rattle.tree.proofs.MostMade.{made_at_most}
use Rattle.tree.proofs.UseLaws.{has_used, fewer, taken_inside}
use Rattle.roots.specs.declared.top.Top.{Top}
use Rattle.roots.specs.TopPage.{top_at, top_of}
use Rattle.roots.proofs.TopLaws.{top_opens}
use Rattle.enter.proofs.EnterFacts.{enter_facts}
use Rattle.enter.specs.EnterRoot.{root_tree, CanPut, RootPut, Planned, EnteredAs}

-- Entering from a page down does not look at the root list
finish_roots : (table a b : List ℕ) (used : TreeUse) (t : ℕ) (so : Written) (page : ℕ) (rows : List Row) →
    finish_page (record { table = table; roots = a; used = used }) t so page rows ≡ finish_page (record { table = table; roots = b; used = used }) t so page rows
unfolding finish_page
finish_roots table a b used t so page rows = refl

pub enter_roots : (table a b : List ℕ) (used : TreeUse) (p : Point) (level page : ℕ) →
    enter_from (record { table = table; roots = a; used = used }) p level page ≡ enter_from (record { table = table; roots = b; used = used }) p level page
unfolding enter_from finish_page
enter_roots table a b used p zero page = refl
enter_roots table a b used p (suc l) page = go (row_around p (rows_of (page_at table page))) (λ (child : ℕ). enter_roots table a b used p l child)
  where
    left : ℕ → Written
    left child = enter_from (record { table = table; roots = a; used = used }) p l child

    right : ℕ → Written
    right child = enter_from (record { table = table; roots = b; used = used }) p l child

    go : (s : Search Placed) → ((child : ℕ) → left child ≡ right child) →
        enter_below (record { table = table; roots = a; used = used }) p page left s ≡ enter_below (record { table = table; roots = b; used = used }) p page right s
    go none ih = refl
    go (one x) ih = ap (enter_above (record { table = table; roots = b; used = used }) p page x) (ih x.row.child)

pub descent_roots : (table a b : List ℕ) (used : TreeUse) (p : Point) (level low high page : ℕ) →
    descent_sound (record { table = table; roots = a; used = used }) p level low high page ≡ descent_sound (record { table = table; roots = b; used = used }) p level low high page
unfolding descent_sound
descent_roots table a b used p zero low high page = refl
descent_roots table a b used p (suc l) low high page =
    ap (◌&&◌ (met_at (record { table = table; roots = b; used = used }) p.tick (suc l) low high page))
    (go (row_around p (rows_of (page_at table page))) (λ (r : Row). descent_roots table a b used p l r.low r.high r.child))
  where
    left : Row → Bool
    left r = descent_sound (record { table = table; roots = a; used = used }) p l r.low r.high r.child

    right : Row → Bool
    right r = descent_sound (record { table = table; roots = b; used = used }) p l r.low r.high r.child

    go : (s : Search Placed) → ((r : Row) → left r ≡ right r) → sound_below left s ≡ sound_below right s
    go none ih = refl
    go (one x) ih = ih x.row

-- What a plan that is ready says
pub record RootPlan (tree : Tree) (p : Point) (made : ℕ) (change : RootChange) (page : ℕ) : Type 0 where
  pub root_is : root_at tree p.tick ≡ Some page
  pub is_in_use : InUse tree.used page
  pub low_level : level_of tree.table page ≤ top_level
  pub sound : descent_sound tree p (level_of tree.table page) 0 key_limit page ≡ true
  pub made_is : (enter_root tree p page).made ≡ made
  pub change_is : (enter_root tree p page).root ≡ change

pub plan_facts : (tree : Tree) (p : Point) {made : ℕ} {change : RootChange} → plan tree p ≡ ready made change → (page : ℕ) × RootPlan tree p made change page
unfolding plan
plan_facts tree p {made} {change} e = go (root_at tree p.tick) refl e
  where
    at : (page : ℕ) → root_at tree p.tick ≡ Some page → (b : Bool) →
        (root_in_use tree page && (descent_sound tree p (level_of tree.table page) 0 key_limit page && not (top_must_split tree p page))) ≡ b →
        cond b (ready (enter_root tree p page).made (enter_root tree p page).root) spoiled ≡ ready made change → (page : ℕ) × RootPlan tree p made change page
    at page r false b f = not_spoiled f
    at page r true b f =
        let parts = same_ready f in
        let x = (and-eq-true_iff (root_in_use tree page) _).0 b in
        let y = (and-eq-true_iff (in_use tree.used page) _).0 x.0 in
        let z = (and-eq-true_iff (descent_sound tree p (level_of tree.table page) 0 key_limit page) _).0 x.1 in (
          page,
          record {
            root_is = r;
            is_in_use = y.0;
            low_level = leb-true _ _ y.1;
            sound = z.0;
            made_is = parts.0;
            change_is = parts.1;
          },
        )

    go : (r : Option ℕ) → root_at tree p.tick ≡ r → plan_root tree p r ≡ ready made change → (page : ℕ) × RootPlan tree p made change page
    go None r f = not_spoiled f
    go (Some page) r f = at page r _ refl f

-- A root entry that is put in changes the root list and the use alike, whatever the table
module _ (tree : Tree) (t page made : ℕ) (table : List ℕ) where
  parts : (b : Bool) → eqb (root_birth (last_root tree)) t ≡ b →
      ((with_root tree t page table made).tree.table ≡ table)
      × ((with_root tree t page table made).tree.roots ≡ (with_root (root_tree tree.roots tree.used) t page [] made).tree.roots)
      × ((with_root tree t page table made).tree.used ≡ (with_root (root_tree tree.roots tree.used) t page [] made).tree.used)
      × ((with_root tree t page table made).made ≡ made)
  parts true e = (rw e, rw e, rw e, rw e)
  parts false e = (rw e, rw e, rw e, rw e)

  pub put_parts :
      ((with_root tree t page table made).tree.table ≡ table)
      × ((with_root tree t page table made).tree.roots ≡ (with_root (root_tree tree.roots tree.used) t page [] made).tree.roots)
      × ((with_root tree t page table made).tree.used ≡ (with_root (root_tree tree.roots tree.used) t page [] made).tree.used)
      × ((with_root tree t page table made).made ≡ made)
  put_parts = parts _ refl

  pub put_added : (root_birth (last_root tree) ≡ t → ⊥) → (with_root tree t page table made).root ≡ Added
  put_added n = rw (ne_eqb _ _ n)

-- The page that a two-row root is
pub two_rows_are : (level birth middle lower upper : ℕ) → encode_page (two_row_root level birth middle lower upper) ≡ fresh_page level 0 key_limit birth (two_rows birth middle lower upper)
unfolding no_rows
two_rows_are level birth middle lower upper = refl

-- The entry that a plan allows, way by way
module _ (tree : Tree) (p : Point) (pl : Planned tree p) where
  pub root_page : ℕ
  root_page = (plan_facts tree p pl.plan_is).0

  pub facts : RootPlan tree p pl.made pl.change root_page
  unfolding root_page
  facts = (plan_facts tree p pl.plan_is).1

  pub level : ℕ
  level = level_of tree.table root_page

  pub so : Written
  so = enter_from tree p level root_page

  entered : enter_root tree p root_page ≡ entered_as tree p.tick level so so.became
  unfolding enter_root level so
  entered = refl

  enter_is : enter tree p ≡ (entered_as tree p.tick level so so.became).tree
  unfolding enter
  enter_is = ap (entered_root tree p) facts.root_is ∙ ap (λ (e : Entered). e.tree) entered

  made_by : (b : Became) → so.made ≤ (entered_as tree p.tick level so b).made
  made_by Stays = omega arith
  made_by (Copied c) = omega (arith, (put_parts tree p.tick c.page so.made so.table).3)
  made_by (Halved c d) = omega (arith, (put_parts tree p.tick (taken_page tree.used so.made) (so.made + 1) (put_page so.table (taken_page tree.used so.made) (fresh_page (level + 1) 0 key_limit p.tick (two_rows p.tick c.high c.page d.page)))).3)

  made_all : (entered_as tree p.tick level so so.became).made ≡ pl.made
  made_all = ap (λ (e : Entered). e.made) (sym entered) ∙ facts.made_is

  change_all : (entered_as tree p.tick level so so.became).root ≡ pl.change
  change_all = ap (λ (e : Entered). e.root) (sym entered) ∙ facts.change_is

  pub so_same : enter_from (rootless tree.table tree.used) p level root_page ≡ so
  unfolding so
  so_same = enter_roots tree.table [] tree.roots tree.used p level root_page

  -- the pages in use lie in the table, and so do those that are made
  pub in_table : tree.used.pages * page_words ≤ length tree.table
  in_table = has_used tree.used pl.made tree.table pl.room

  pub can_enter : CanEnter (rootless tree.table tree.used) p level root_page
  unfolding level
  can_enter =
      record {
        sound = (0, (key_limit, descent_roots tree.table [] tree.roots tree.used p level 0 key_limit root_page ∙ facts.sound));
        room = fewer tree.used _ pl.made tree.table (omega (arith, ap (λ (w : Written). w.made) so_same, made_by so.became, made_all)) pl.room;
        in_table = in_table;
        takes = pl.takes;
        low_level = facts.low_level;
      }

  pub low_level : level ≤ top_level
  unfolding level
  low_level = facts.low_level

  pub same_size : p.tick < 4294967296 → p.key < 65536 → (done : Done) (now : List ℕ) →
      DoneAs (enter_from (rootless tree.table tree.used) p level root_page) now done → length now ≡ length tree.table
  same_size small narrow done now is =
      let e = enter_facts (rootless tree.table tree.used) p small narrow in_table pl.takes level can_enter.sound.0 can_enter.sound.1.0 root_page can_enter.sound.1.1 can_enter.room in
      ap length is.table_is ∙ e.same_length

  -- what came back from the root page
  module _ (done : Done) (now : List ℕ) (is : DoneAs (enter_from (rootless tree.table tree.used) p level root_page) now done) where
    now_is : now ≡ so.table
    now_is = is.table_is ∙ ap (λ (w : Written). w.table) so_same

    pub done_made : done.made ≡ so.made
    done_made = is.made_is ∙ ap (λ (w : Written). w.made) so_same

    became : done.became ≡ so.became
    became = is.became_is ∙ ap (λ (w : Written). w.became) so_same

    enter_as : (b : Became) → done.became ≡ b → enter tree p ≡ (entered_as tree p.tick level so b).tree
    enter_as b e = enter_is ∙ ap (λ (x : Became). (entered_as tree p.tick level so x).tree) (sym became ∙ e)

    made_as : (b : Became) → done.became ≡ b → (entered_as tree p.tick level so b).made ≡ pl.made
    made_as b e = ap (λ (x : Became). (entered_as tree p.tick level so x).made) (sym e ∙ became) ∙ made_all

    change_as : (b : Became) → done.became ≡ b → (entered_as tree p.tick level so b).root ≡ pl.change
    change_as b e = ap (λ (x : Became). (entered_as tree p.tick level so x).root) (sym e ∙ became) ∙ change_all

    pub stays_way : done.became ≡ Stays → (r : TreeUse) → r ≡ use_after tree.used done.made Kept →
        EnteredAs tree p now tree.roots r
    stays_way e r f =
        let w = enter_as Stays e in
        record {
          table_is = now_is ∙ ap (λ (x : Tree). x.table) (sym w);
          roots_are = ap (λ (x : Tree). x.roots) (sym w);
          use_is = f ∙ ap (λ (n : ℕ). use_after tree.used n Kept) done_made ∙ ap (λ (x : Tree). x.used) (sym w);
        }

    place_for : (page made : ℕ) (table : List ℕ) → (with_root tree p.tick page table made).root ≡ pl.change →
        (root_birth (last_root (root_tree tree.roots tree.used)) ≡ p.tick → ⊥) → tree.used.roots < length tree.roots
    place_for page made table e n = pl.place (sym e ∙ put_added tree p.tick page made table n)

    -- no more pages than the plan said, with the new root over two halves
    pub few_made : done.made ≤ most_made
    few_made = omega (arith, done_made, made_by so.became, made_all, made_at_most tree p pl.plan_is)

    halved_made : (c d : Child) → done.became ≡ Halved c d → done.made + 1 ≡ pl.made
    halved_made c d e =
        let number : ℕ = taken_page tree.used so.made in
        let new : List ℕ = fresh_page (level + 1) 0 key_limit p.tick (two_rows p.tick c.high c.page d.page) in
        ap (λ (n : ℕ). n + 1) done_made ∙ sym (put_parts tree p.tick number (so.made + 1) (put_page so.table number new)).3 ∙ made_as (Halved c d) e

    pub copied_can : (c : Child) → done.became ≡ Copied c → CanPut tree.roots tree.used done.made p.tick
    copied_can c e =
        record {
          some = pl.some;
          inside = pl.inside;
          place = place_for c.page so.made so.table (change_as (Copied c) e);
          takes = pl.takes;
          roots_few = omega (arith, pl.takes.used_few, pl.roots_few);
          made_few = few_made;
        }

    pub halved_can : (c d : Child) → done.became ≡ Halved c d → CanPut tree.roots tree.used (done.made + 1) p.tick
    halved_can c d e =
        record {
          some = pl.some;
          inside = pl.inside;
          place = place_for _ _ _ (change_as (Halved c d) e);
          takes = pl.takes;
          roots_few = omega (arith, pl.takes.used_few, pl.roots_few);
          made_few = omega (arith, halved_made c d e, made_at_most tree p pl.plan_is);
        }

    pub copied_way : (c : Child) → done.became ≡ Copied c → (after : List ℕ) (r : TreeUse) →
        RootPut tree.roots tree.used done.made c.page p.tick after r → EnteredAs tree p now after r
    copied_way c e after r put =
        let w = enter_as (Copied c) e in
        let parts = put_parts tree p.tick c.page so.made so.table in
        let root : ℕ → Tree = λ (n : ℕ). (with_root (root_tree tree.roots tree.used) p.tick c.page [] n).tree in
        record {
          table_is = now_is ∙ sym parts.0 ∙ ap (λ (x : Tree). x.table) (sym w);
          roots_are = put.list ∙ ap (λ (n : ℕ). (root n).roots) done_made ∙ sym parts.1 ∙ ap (λ (x : Tree). x.roots) (sym w);
          use_is = put.use_is ∙ ap (λ (n : ℕ). (root n).used) done_made ∙ sym parts.2 ∙ ap (λ (x : Tree). x.used) (sym w);
        }

    -- two halves: the new root takes the next page
    pub halved_room : (c d : Child) → done.became ≡ Halved c d → taken_page tree.used done.made * page_words + page_words ≤ length tree.table
    halved_room c d e = taken_inside tree.used pl.takes done.made pl.made tree.table pl.room (omega (arith, halved_made c d e))

    pub halved_way : (c d : Child) → done.became ≡ Halved c d → (top : List ℕ) (after : List ℕ) (r : TreeUse) →
        top ≡ put_page now (taken_page tree.used done.made) (encode_page (two_row_root (level + 1) p.tick c.high c.page d.page)) →
        RootPut tree.roots tree.used (done.made + 1) (taken_page tree.used done.made) p.tick after r → EnteredAs tree p top after r
    halved_way c d e top after r is_top put =
        let w = enter_as (Halved c d) e in
        let new : List ℕ = fresh_page (level + 1) 0 key_limit p.tick (two_rows p.tick c.high c.page d.page) in
        let number : ℕ = taken_page tree.used so.made in
        let parts = put_parts tree p.tick number (so.made + 1) (put_page so.table number new) in
        let root : ℕ → Tree = λ (n : ℕ). (with_root (root_tree tree.roots tree.used) p.tick (taken_page tree.used n) [] (n + 1)).tree in
        record {
          table_is =
              is_top
              ∙ ap (put_page now (taken_page tree.used done.made)) (two_rows_are (level + 1) p.tick c.high c.page d.page)
              ∙ ap₂ (λ (x : List ℕ) (n : ℕ). put_page x (taken_page tree.used n) new) now_is done_made
              ∙ sym parts.0
              ∙ ap (λ (x : Tree). x.table) (sym w);
          roots_are = put.list ∙ ap (λ (n : ℕ). (root n).roots) done_made ∙ sym parts.1 ∙ ap (λ (x : Tree). x.roots) (sym w);
          use_is = put.use_is ∙ ap (λ (n : ℕ). (root n).used) done_made ∙ sym parts.2 ∙ ap (λ (x : Tree). x.used) (sym w);
        }

-- Where the code finds the root of a planned entry, and where the descent starts
module _ {tree : Tree} {p : Point} (planned : Planned tree p) {root : Option ℕ} (found : root ≡ root_at tree p.tick) where
  root_opens : top_of (rootless tree.table tree.used) root ≡ top_at (root_page tree p planned) (level tree p planned)
  unfolding level
  root_opens =
      let facts = facts tree p planned in
      ap (top_of (rootless tree.table tree.used)) (found ∙ facts.root_is)
      ∙ top_opens (rootless tree.table tree.used) (root_page tree p planned) facts.is_in_use (level_of tree.table (root_page tree p planned)) refl facts.low_level

  pub not_rootless : {G : Type 0} {e : SpoiledPage} → Err e ≡ top_of (rootless tree.table tree.used) root → G
  not_rootless is = not_spoiled (is ∙ root_opens)

  module _ {top : Top} (is : Ok top ≡ top_of (rootless tree.table tree.used) root) where
    same_top : top ≡ record { page = root_page tree p planned; level = level tree p planned }
    same_top = same_answer (is ∙ root_opens)

    pub level_is : top.level ≡ level tree p planned
    level_is = ap (λ (t : Top). t.level) same_top

    pub can_enter_top : CanEnter (rootless tree.table tree.used) p top.level top.page
    can_enter_top = rw same_top (can_enter tree p planned)

    pub done_from_top : {done : Done} {now : List ℕ} → DoneAs (enter_from (rootless tree.table tree.used) p top.level top.page) now done →
        DoneAs (enter_from (rootless tree.table tree.used) p (level tree p planned) (root_page tree p planned)) now done
    done_from_top so = rw same_top at so
