-- The whole tree as a state of the model, and the whole entry as the model's: steps 1 to 8.
use Prim.Native.Nat.{ℕ, suc, ◌+◌, ◌*◌, ◌≤◌, ◌<◌}
use native.Mathlib.Omega.{arith}
use native.Mathlib.Decide.{ℕ_discrete}
use mathlib.Core.Path.{◌≡◌, refl, sym, ap, ◌∙◌, subst, ap₂}
use mathlib.Core.Bool.{Bool, true, false, cond}
use mathlib.Core.List.{List, [], ◌∷◌}
use lib.Dec.{leb, eqb}
use lib.ListN.{length, length-map}
use borrow.Author.Tests.{eq-eqb, ne_eqb}
use Rattle.std.specs.Prelude.{Option, Some, None}
use Rattle.words.specs.Words.{key_limit, open_end}
use Rattle.words.specs.declared.value.Value.{Value}
use Rattle.words.proofs.Measure.{Measure}
use Rattle.tree.specs.Row.{rows_of, row_limit, page_words}
use Rattle.tree.specs.Fresh.{fresh_page, two_rows}
use Rattle.tree.specs.declared.types.RootChange.TheVariants.{Added}
use Rattle.tree.specs.Tree as ours
use Rattle.tree.specs.Use.{taken_page, use_after}
use Rattle.tree.specs.Tree.{page_at, put_page, level_of, root_at}
use Rattle.tree.specs.RowSteps.{Point}
use Rattle.tree.specs.declared.types.Became.{Became}
use Rattle.tree.specs.declared.types.Became.TheVariants.{Stays, Copied, Halved}
use Rattle.tree.specs.declared.types.TreeUse.{TreeUse}
use Rattle.tree.specs.Overflow.{Written}
use Rattle.tree.specs.Enter.{enter_from, with_root, entered_as, enter_root}
use Rattle.tree.specs.Enter as entry
use Rattle.tree.specs.Taking.{InUse, HasPages, Takes}
use Rattle.tree.proofs.ModelPages.{Page}
use Rattle.tree.proofs.ModelTrees.{Tree, Holds}
use Rattle.tree.proofs.ModelSteps.{Grown, Outcome, Parts, stay, copy, two, put_at, add_root, top_rows, new_page, grown, enter}
use Rattle.tree.proofs.ModelSteps.{entering}
use Rattle.tree.proofs.ModelPromise.{Full}
use Rattle.tree.proofs.TableLaws.{put_length}
use Rattle.tree.proofs.PageCodec.{fresh_length}
use Rattle.tree.proofs.View.{view_row, view_page, view_table, view_fresh, view_put}
use Rattle.tree.proofs.RowViews.{parts_of, Covers}
use Rattle.tree.proofs.PageViews.{Matches, MadeSome, Small, Agrees}
use Rattle.tree.proofs.EnterViews.{enter_agrees}
use Rattle.tree.proofs.RootLaws.{RootsKept, Rooted, root_changed, root_made}
use Rattle.tree.proofs.TakenPages.{After, after_less}
use Rattle.tree.proofs.UseLaws.{after_least, fewer, taken_inside, after_in, in_after}
use Rattle.tree.proofs.AsPlanned.{root_done}

abbrev pub page_of : Option ℕ → ℕ
page_of None = 0
page_of (Some page) = page

-- The page of the root for each tick
abbrev pub roots_of : ours.Tree → ℕ → ℕ
roots_of tree w = page_of (root_at tree w)

-- The tree after an entry, as the model gives it
abbrev pub grown_of : (Value → ℕ) → entry.Entered → Grown
grown_of measure so = record { store = view_table measure so.tree.table; made = so.made; root = roots_of so.tree }

-- What holds of the words of a grown tree, whatever the values are
pub record WordsKept (tree : ours.Tree) (last : ℕ) : Type 0 where
  pub small : (x : ℕ) → InUse tree.used x → length (rows_of (page_at tree.table x)) ≤ row_limit
  pub pages : tree.used.pages * page_words ≤ length tree.table
  pub takes : Takes tree.used
  pub roots : RootsKept tree last

grown_path : {a b : Grown} → a.store ≡ b.store → a.made ≡ b.made → a.root ≡ b.root → a ≡ b
grown_path p q r = λ i. record { store = p i; made = q i; root = r i }

-- Pages of a store with one more page
put_small : (s : ℕ → Page) (In : ℕ → Type 0) (alloc : ℕ → ℕ) (m : ℕ) (g : Page) → Small s (After In alloc m) → length g.rows ≤ row_limit
    → Small (put_at s (alloc m) g) (After In alloc (suc m))
put_small s In alloc m g h few x l = go (ℕ_discrete x (alloc m))
  where
    go : Dec (x ≡ alloc m) → length (cond (eqb x (alloc m)) g (s x)).rows ≤ row_limit
    go (yes e) = rw (eq-eqb x (alloc m) e) few
    go (no e) = rw (ne_eqb x (alloc m) e) (h x (after_less In alloc m x e l))

grown_small : (t n : ℕ) (root : ℕ → ℕ) (s : ℕ → Page) (In : ℕ → Type 0) (alloc : ℕ → ℕ) (m : ℕ) (parts : Parts) → Small s (After In alloc m)
    → Small (grown t n root s alloc m parts).store (After In alloc (grown t n root s alloc m parts).made)
grown_small t n root s In alloc m stay h = h
grown_small t n root s In alloc m (copy x) h = h
grown_small t n root s In alloc m (two x y mid) h =
    put_small s In alloc m (new_page t (suc n) 0 key_limit (top_rows x y mid)) h (omega arith)

-- The tree after an entry: what the model has, and what stays
pub record Grew (measure : Value → ℕ) (tree : ours.Tree) (t level : ℕ) (o : Outcome) (so : entry.Entered) : Type 0 where
  pub model : grown_of measure so ≡ grown t level (roots_of tree) o.store (taken_page tree.used) o.made o.parts
  pub roots : RootsKept so.tree t
  pub table : length so.tree.table ≡ length tree.table
  pub list : length so.tree.roots ≡ length tree.roots

module _ (measure : Value → ℕ) (m : Measure measure) (tree : ours.Tree) (takes : Takes tree.used) (last t level : ℕ) (kept : RootsKept tree last)
    (time : last ≤ t) (now : t < open_end) (o : Outcome) where
  -- A new root from t on
  new_root_lem : (page : ℕ) (words : List ℕ) (made : ℕ) (s : ℕ → Page) → 1 ≤ made
      → ((with_root tree t page words made).root ≡ Added → tree.used.roots < length tree.roots) → view_table measure words ≡ s
      → length words ≡ length tree.table
      → (grown_of measure (with_root tree t page words made) ≡ record { store = s; made = made; root = add_root t page (roots_of tree) })
      × RootsKept (with_root tree t page words made).tree t
      × (length (with_root tree t page words made).tree.table ≡ length tree.table)
      × (length (with_root tree t page words made).tree.roots ≡ length tree.roots)
  new_root_lem page words made s some place view slot_count =
      let r : Rooted tree t page words made (with_root tree t page words made) =
      root_changed tree last t page words made kept time (omega arith) some place in (
        grown_path (ap (view_table measure) r.table ∙ view) r.made (λ i w. (ap page_of (r.root w) ∙ by_test (leb t w) w) i),
        r.kept,
        ap length r.table ∙ slot_count,
        r.list,
      )
    where
      by_test : (b : Bool) (w : ℕ) → page_of (cond b (Some page) (root_at tree w)) ≡ cond b page (page_of (root_at tree w))
      by_test true w = refl
      by_test false w = refl

  -- "a new root one level up, two rows of value zero"
  top_view : (middle lower upper : ℕ) → middle < 65536
      → view_page measure (fresh_page (level + 1) 0 key_limit t (two_rows t middle lower upper))
      ≡ new_page t (suc level) 0 key_limit (top_rows lower upper middle)
  top_view middle lower upper h =
      view_fresh measure (level + 1) 0 key_limit t (two_rows t middle lower upper) (omega arith) (omega arith)
      (record { low = omega arith; high = h; birth = omega arith }, (record { low = h; high = omega arith; birth = omega arith }, tt))
      ∙ (λ i. record {
        level = next i;
        low = 0;
        high = key_limit;
        birth = t;
        rows =
            record { birth = t; end = open_end; entry = record { low = 0; high = middle; amount = m.of_zero i; page = lower } }
            ∷ (record {
              birth = t;
              end = open_end;
              entry = record { low = middle; high = key_limit; amount = m.of_zero i; page = upper };
            } ∷ []);
      })
    where
      next : level + 1 ≡ suc level
      next = omega arith

  grown_from : (so : Written) → Matches measure tree 0 key_limit so o
      → HasPages tree.table tree.used (entered_as tree t level so so.became).made
      → ((entered_as tree t level so so.became).root ≡ Added → tree.used.roots < length tree.roots)
      → Grew measure tree t level o (entered_as tree t level so so.became)
  grown_from so agree = go so.became agree.parts agree.made_some agree.covers
    where
      -- Where the call took as many pages as the model's
      after : ℕ → Parts → Grown
      after m parts = grown t level (roots_of tree) o.store (taken_page tree.used) m parts

      go : (b : Became) → parts_of b ≡ o.parts → MadeSome b so.made → Covers 0 key_limit b
          → HasPages tree.table tree.used (entered_as tree t level so b).made
          → ((entered_as tree t level so b).root ≡ Added → tree.used.roots < length tree.roots)
          → Grew measure tree t level o (entered_as tree t level so b)
      go Stays e some cover room place =
          let w = agree.table room in
          record {
            model = grown_path w.1 refl refl ∙ ap₂ after agree.made e;
            roots =
                record {
                  some = kept.some;
                  listed = kept.listed;
                  fewer = omega (arith, kept.fewer, after_least tree.used so.made);
                  born = omega (arith, kept.born);
                  found = kept.found;
                };
            table = w.0;
            list = refl;
          }
      go (Copied c) e some cover room place =
          let made_is = root_made tree t c.page so.table so.made in
          let w = agree.table (fewer tree.used so.made _ tree.table (omega (arith, made_is)) room) in
          let r = new_root_lem c.page so.table so.made o.store some place w.1 w.0 in
          record { model = r.0 ∙ ap₂ after agree.made e; roots = r.1; table = r.2; list = r.3 }
      go (Halved c d) e some cover room place =
          let page : ℕ = taken_page tree.used so.made in
          let words : List ℕ = fresh_page (level + 1) 0 key_limit t (two_rows t c.high c.page d.page) in
          let made_is = root_made tree t page (put_page so.table page words) (so.made + 1) in
          let w = agree.table (fewer tree.used so.made _ tree.table (omega (arith, made_is)) room) in
          let slot_count : length words ≡ page_words =
          fresh_length (level + 1) 0 key_limit t (two_rows t c.high c.page d.page) (omega arith) in
          let inside : page * page_words + page_words ≤ length so.table =
          omega (arith, w.0, taken_inside tree.used takes so.made _ tree.table room (omega (arith, made_is))) in
          let r =
          new_root_lem page (put_page so.table page words) (so.made + 1)
          (put_at o.store page (new_page t (suc level) 0 key_limit (top_rows c.page d.page c.high)))
          (omega arith) place
          (view_put measure so.table page words inside slot_count
          ∙ (λ i. put_at (w.1 i) page (top_view c.high c.page d.page cover.3 i)))
          (put_length so.table page words inside slot_count ∙ w.0) in
          record {
            model = r.0 ∙ grown_path refl (omega arith) refl ∙ ap₂ after agree.made e;
            roots = r.1;
            table = r.2;
            list = r.3;
          }

-- The use after the whole entry: in use are the pages from before and those that it took
module _ (tree : ours.Tree) (p : Point) (page : ℕ) where
  pub used_after : (enter_root tree p page).tree.used ≡ use_after tree.used (enter_root tree p page).made (enter_root tree p page).root
  used_after = (root_done tree p page).used_is

  module _ (takes : Takes tree.used) where
    pub in_used : (x : ℕ) → InUse (enter_root tree p page).tree.used x → After (InUse tree.used) (taken_page tree.used) (enter_root tree p page).made x
    in_used x l = after_in tree.used takes (enter_root tree p page).made (enter_root tree p page).root x (subst (λ (u : TreeUse). InUse u x) used_after l)

    pub used_in : (x : ℕ) → After (InUse tree.used) (taken_page tree.used) (enter_root tree p page).made x → InUse (enter_root tree p page).tree.used x
    used_in x l =
        subst (λ (u : TreeUse). InUse u x) (sym used_after) (in_after tree.used takes (enter_root tree p page).made (enter_root tree p page).root x l)

-- The whole entry, from the page of the root for the tick
module _ (measure : Value → ℕ) (m : Measure measure) (tree : ours.Tree) (p : Point) (last : ℕ) (kept : WordsKept tree last)
    (time : last ≤ p.tick) (now : p.tick < open_end) (key : p.key < key_limit) (page : ℕ) (is_root : root_at tree p.tick ≡ Some page)
    (IsKnown : ℕ → Type 0) (known : IsKnown p.key) (tr : Tree (level_of tree.table page))
    (held : Holds (level_of tree.table page) (view_table measure tree.table) (InUse tree.used) p.tick 0 key_limit page tr)
    (full : Full IsKnown (level_of tree.table page) tr) where
  abbrev pub model_out : Outcome
  model_out =
      enter (level_of tree.table page) p.tick p.key (measure p.value) (view_table measure tree.table) (taken_page tree.used) page

  pub root_agrees : Agrees measure tree 0 key_limit (enter_from tree p (level_of tree.table page) page) model_out
  root_agrees =
      enter_agrees measure m tree p now kept.takes kept.small IsKnown known (level_of tree.table page) page 0 key_limit tr (omega arith) key
      (omega arith) held full

  pub grew : HasPages tree.table tree.used (enter_root tree p page).made
      → ((enter_root tree p page).root ≡ Added → tree.used.roots < length tree.roots)
      → Grew measure tree p.tick (level_of tree.table page) model_out (enter_root tree p page)
  unfolding enter_root
  grew =
      grown_from measure m tree kept.takes last p.tick (level_of tree.table page) kept.roots time now model_out
      (enter_from tree p (level_of tree.table page) page) root_agrees.0

  pub grew_words : HasPages tree.table tree.used (enter_root tree p page).made
      → Takes (use_after tree.used (enter_root tree p page).made (enter_root tree p page).root)
      → ((enter_root tree p page).root ≡ Added → tree.used.roots < length tree.roots)
      → WordsKept (enter_root tree p page).tree p.tick
  grew_words room takes place =
      let g = grew room place in
      let new = (enter_root tree p page).tree in
      record {
        small =
            λ x l. let few : length (view_table measure new.table x).rows ≤ row_limit =
            subst (λ (st : Grown). Small st.store (After (InUse tree.used) (taken_page tree.used) st.made)) (sym g.model)
            (grown_small p.tick (level_of tree.table page) (roots_of tree) model_out.store (InUse tree.used) (taken_page tree.used)
            model_out.made model_out.parts root_agrees.1) x (in_used tree p page kept.takes x l) in
            omega (arith, length-map (rows_of (page_at new.table x)) (view_row measure));
        pages = omega (arith, ap (λ (u : TreeUse). u.pages) (used_after tree p page), room.inside, g.table);
        takes = subst Takes (sym (used_after tree p page)) takes;
        roots = g.roots;
      }

  pub entered_model : HasPages tree.table tree.used (enter_root tree p page).made
      → ((enter_root tree p page).root ≡ Added → tree.used.roots < length tree.roots)
      → grown_of measure (enter_root tree p page)
      ≡ entering p.tick p.key (measure p.value) (view_table measure tree.table) (taken_page tree.used) (roots_of tree)
      (roots_of tree p.tick)
  entered_model room place =
      (grew room place).model
      ∙ ap (entering p.tick p.key (measure p.value) (view_table measure tree.table) (taken_page tree.used) (roots_of tree))
      (sym (ap page_of is_root))
