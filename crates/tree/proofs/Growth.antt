-- What holds of every grown tree: after opening, and after each point that found room.
use Prim.Native.Nat.{ℕ, suc, ◌+◌, ◌*◌, ◌%◌, ◌^◌, ◌≤◌, ◌<◌}
use native.Mathlib.Omega.{arith}
use mathlib.Core.Path.{◌≡◌, refl, sym, ap, ◌∙◌, subst, subst₂}
use mathlib.Core.Bool.{Bool, true, false, cond, ◌&&◌, ◌||◌, not, and-eq-true_iff, false≢true}
use mathlib.Core.List.{List, [], ◌∷◌}
use lib.Dec.{leb, eqb}
use lib.ListN.{length, take}
use borrow.Author.Tests.{le-leb, eq-eqb, eqb-true}
use Rattle.std.specs.Prelude.{Some}
use Rattle.words.specs.Words.{key_limit, root_entry}
use Rattle.words.specs.declared.value.Value.{Value}
use Rattle.words.specs.Value as value
use Rattle.words.proofs.OverwriteLaws.{overwrite_length}
use Rattle.words.proofs.Measure.{Measure, count_of, count_measure}
use Rattle.tree.specs.Spoiled.{spoiled}
use Rattle.tree.specs.Row.{rows_of, row_limit, page_words}
use Rattle.tree.specs.Fresh.{new_row}
use Rattle.tree.proofs.Lists.{sum_by}
use Rattle.tree.proofs.TrueValueSums.{number_if, total_measure}
use Rattle.tree.specs.declared.types.RootChange.TheVariants.{Added}
use Rattle.tree.specs.Use.{taken_page, opened_use}
use Rattle.tree.specs.Tree.{Tree, page_at, level_of, root_at, root_for, top_level, whole_pages, pages_left}
use Rattle.tree.specs.RowSteps.{Point}
use Rattle.tree.specs.declared.types.Became.{Became}
use Rattle.tree.specs.declared.types.Became.TheVariants.{Stays, Copied, Halved}
use Rattle.tree.specs.declared.types.TreeUse.{TreeUse}
use Rattle.tree.specs.Enter.{enter_from, enter_root}
use Rattle.tree.specs.Plan.{ready, is_halved, top_must_split, descent_sound, plan_root, plan, entered_root, enter}
use Rattle.tree.specs.Grown.{grow, last_tick, InTime, Room, Admitted}
use Rattle.tree.specs.Opened.{first_page, opened_tree}
use Rattle.tree.specs.PointSums.{dominated, is_taken}
use Rattle.tree.specs.PointTotals.{point_value, sum_of_points}
use Rattle.tree.specs.Taking.{InUse, HasPages}
use Rattle.tree.proofs.ModelSteps as model_steps
use Rattle.tree.proofs.ModelPages.{Page, only_if}
use Rattle.tree.proofs.ModelSteps.{Grown, Outcome, Parts, two, put_at, new_page, top_rows, grown, entering, opened}
use Rattle.tree.proofs.ModelPromise.{Full}
use Rattle.tree.proofs.GrownStates.{Paid, Invariant, low, holds_used, full_more, entering_keeps, opened_keeps, invariant_same}
use Rattle.tree.proofs.TableLaws.{put_same, put_length}
use Rattle.tree.proofs.PageCodec.{fresh_length, fresh_rows}
use Rattle.tree.proofs.View.{view_table, view_put, view_fresh}
use Rattle.tree.proofs.RowViews.{parts_of}
use Rattle.tree.proofs.RootLaws.{take_written, written_word, root_behind}
use Rattle.tree.proofs.PageViews.{Agrees}
use Rattle.tree.proofs.TreeViews.{page_of, roots_of, grown_of, WordsKept, model_out, root_agrees, grew, used_after, in_used, used_in, grew_words}
use Rattle.tree.proofs.TreeViews.{entered_model}
use Rattle.tree.proofs.Descent.{descent_sound_lem}
use Rattle.tree.proofs.UseLaws.{used_allocates, left_has, left_takes, after_most, opened_in, in_opened, opened_takes, pages_at_most}
use Rattle.tree.proofs.Answered.{same_ready}
use Rattle.tree.proofs.TakenPages.{After}

-- A key that is zero or that some point has: each leaf row starts at such a key
abbrev pub is_known : List Point → ℕ → Bool
is_known points k = eqb k 0 || is_taken points k

abbrev pub Known : List Point → ℕ → Type 0
Known points k = is_known points k ≡ true

known_more : (p : Point) (points : List Point) (k : ℕ) → Known points k → Known (p ∷ points) k
known_more p points k h = go (eqb k 0) (eqb k p.key) h
  where
    go : (a b : Bool) → (a || is_taken points k) ≡ true → (a || (b || is_taken points k)) ≡ true
    go true b e = refl
    go false true e = refl
    go false false e = e

pub known_new : (p : Point) (points : List Point) → Known (p ∷ points) p.key
known_new p points = go (eqb p.key 0) (eqb p.key p.key) (eq-eqb p.key p.key refl)
  where
    go : (a b : Bool) → b ≡ true → (a || (b || is_taken points p.key)) ≡ true
    go true b e = refl
    go false true e = refl
    go false false e = absurd (false≢true e)

-- What a lookup adds, in plain numbers
abbrev pub numbers : (Value → ℕ) → ℕ → ℕ → List Point → ℕ
numbers measure t k [] = 0
numbers measure t k (p ∷ points) = numbers measure t k points + only_if (leb p.tick t) (only_if (leb p.key k) (measure p.value))

pub numbers_sum : (measure : Value → ℕ) → Measure measure → (t k : ℕ) (points : List Point)
    → measure (sum_of_points t k points) ≡ numbers measure t k points % 2 ^ 64
numbers_sum measure m t k points = total_measure measure m point_value (dominated t k) points ∙ ap (λ (n : ℕ). n % 2 ^ 64) (same points)
  where
    same : (ps : List Point) → sum_by (number_if (λ (p : Point). measure (point_value p)) (dominated t k)) ps ≡ numbers measure t k ps
    same [] = refl
    same (p ∷ ps) = go (leb p.tick t) (leb p.key k) (same ps)
      where
        go : (a b : Bool) → sum_by (number_if (λ (p : Point). measure (point_value p)) (dominated t k)) ps ≡ numbers measure t k ps
            → cond (a && b) (measure p.value) 0 + sum_by (number_if (λ (p : Point). measure (point_value p)) (dominated t k)) ps
            ≡ numbers measure t k ps + only_if a (only_if b (measure p.value))
        go true true h = omega arith
        go true false h = omega arith
        go false b h = omega arith

-- The tree, read by a measure, has the model's invariant for these points
abbrev pub Tells : (Value → ℕ) → Tree → List Point → Type 0
Tells measure tree points =
    Invariant (Known points) (last_tick points) (view_table measure tree.table) (InUse tree.used) tree.used.pages (roots_of tree)
    (λ t k. numbers measure t k points) (72 + 8 * length points)

-- What every grown tree keeps: its words make sense, and each measure of values reads these points from it
pub record TreeKept (tree : Tree) (points : List Point) : Type 0 where
  pub words : WordsKept tree (last_tick points)
  pub tells : (measure : Value → ℕ) → Measure measure → Tells measure tree points

-- Values never decide what an entry does, so one measure tells what the pages are like
pub counts : {tree : Tree} {points : List Point} → TreeKept tree points → Tells count_of tree points
counts k = k.tells count_of count_measure

-- An entry into a grown tree
module _ (measure : Value → ℕ) (m : Measure measure) (tree : Tree) (points : List Point) (p : Point)
    (words : WordsKept tree (last_tick points)) (tells : Tells measure tree points) (time : InTime (last_tick points) p)
    (page : ℕ) (is_root : root_at tree p.tick ≡ Some page) where
  pub now_paid : Paid (Known points) (view_table measure tree.table) (InUse tree.used) tree.used.pages p.tick
      (λ k. numbers measure p.tick k points) page (72 + 8 * length points)
  now_paid =
      subst
      (λ (x : ℕ). Paid (Known points) (view_table measure tree.table) (InUse tree.used) tree.used.pages p.tick
      (λ k. numbers measure p.tick k points) x
      (72 + 8 * length points))
      (ap page_of is_root) (tells.current p.tick time.later time.tick)

  pub now_full : Full (Known (p ∷ points)) (level_of tree.table page) now_paid.tree
  now_full =
      full_more (Known points) (Known (p ∷ points)) (known_more p points) (level_of tree.table page) now_paid.tree now_paid.full

  abbrev pub out : Outcome
  out =
      model_out measure m tree p (last_tick points) words time.later time.tick time.key page is_root (Known (p ∷ points))
      (known_new p points)
      now_paid.tree now_paid.held now_full

  pub now_agrees : Agrees measure tree 0 key_limit (enter_from tree p (level_of tree.table page) page) out
  now_agrees =
      root_agrees measure m tree p (last_tick points) words time.later time.tick time.key page is_root (Known (p ∷ points))
      (known_new p points)
      now_paid.tree now_paid.held now_full

  -- The model's entry, from the page of the root for the tick
  abbrev pub next : Grown
  next =
      entering p.tick p.key (measure p.value) (view_table measure tree.table) (taken_page tree.used) (roots_of tree)
      (roots_of tree p.tick)

  abbrev Told : Grown → ℕ → Type 0
  Told st =
      Invariant (Known (p ∷ points)) p.tick st.store (After (InUse tree.used) (taken_page tree.used) st.made)
      (pages_at_most tree.used st.made) st.root (λ t k. numbers measure t k (p ∷ points))

  pub next_inv : Told next (72 + 8 * length points + 8)
  next_inv =
      entering_keeps (last_tick points) p.tick p.key (measure p.value) (view_table measure tree.table) (InUse tree.used)
      (taken_page tree.used) (used_allocates tree.used words.takes) tree.used.pages (roots_of tree) (λ t k. numbers measure t k points)
      (72 + 8 * length points) (Known points) (Known (p ∷ points)) (known_more p points) (known_new p points) tells time.later
      time.tick time.key

  level_low : level_of tree.table page ≤ top_level
  level_low =
      low (Known points) (view_table measure tree.table) (InUse tree.used) tree.used.pages p.tick (λ k. numbers measure p.tick k points) page
      (72 + 8 * length points) now_paid

  -- "a level 3 root whose rows must go to two pages": it would give a root of level 4
  halved_low : (lower upper middle : ℕ) → out.parts ≡ two lower upper middle → suc (level_of tree.table page) ≤ top_level
  halved_low lower upper middle e =
      let after : LevelNow (from_page page (two lower upper middle)) =
      subst (λ (parts : Parts). LevelNow (from_page page parts)) e
      (subst (λ (x : ℕ). LevelNow (from_page x (out_of x).parts)) (ap page_of is_root) (next_inv.levels p.tick time.tick)) in
      let there : cond (leb p.tick p.tick) new (roots_of tree p.tick) ≡ new = rw (le-leb p.tick p.tick (omega arith)) in
      omega (arith, ap level_at there, top_level_lem, after)
    where
      LevelNow : Grown → Type 0
      LevelNow st = (st.store (st.root p.tick)).level ≤ top_level

      out_of : ℕ → Outcome
      out_of x =
          model_steps.enter (level_of tree.table x) p.tick p.key (measure p.value) (view_table measure tree.table) (taken_page tree.used) x

      from_page : ℕ → Parts → Grown
      from_page x parts =
          grown p.tick (level_of tree.table x) (roots_of tree) (out_of x).store (taken_page tree.used) (out_of x).made parts

      new : ℕ
      new = taken_page tree.used out.made

      top : Page
      top = new_page p.tick (suc (level_of tree.table page)) 0 key_limit (top_rows lower upper middle)

      level_at : ℕ → ℕ
      level_at x = (put_at out.store (taken_page tree.used out.made) top x).level

      top_level_lem : (put_at out.store (taken_page tree.used out.made) top (taken_page tree.used out.made)).level
          ≡ suc (level_of tree.table page)
      top_level_lem = rw (eq-eqb (taken_page tree.used out.made) (taken_page tree.used out.made) refl)

  no_split : top_must_split tree p page ≡ false
  no_split =
      go (enter_from tree p (level_of tree.table page) page).became now_agrees.0.parts (eqb (level_of tree.table page) top_level) refl
    where
      go : (b : Became) → parts_of b ≡ out.parts → (c : Bool) → eqb (level_of tree.table page) top_level ≡ c → (c && is_halved b) ≡ false
      go b e false f = refl
      go Stays e true f = refl
      go (Copied x) e true f = refl
      go (Halved x y) e true f =
          absurd (omega (arith, halved_low x.page y.page x.high (sym e), eqb-true (level_of tree.table page) top_level f))

  -- The plan is never spoiled
  pub plan_ready : plan tree p ≡ ready (enter_root tree p page).made (enter_root tree p page).root
  unfolding plan
  plan_ready =
      ap (plan_root tree p) is_root
      ∙ ap (λ (b : Bool). cond b (ready (enter_root tree p page).made (enter_root tree p page).root) spoiled)
      ((and-eq-true_iff _ _).1 (
        (and-eq-true_iff _ _).1 (is_in_use, le-leb (level_of tree.table page) top_level level_low),
        (and-eq-true_iff _ _).1 (descent, ap not no_split),
      ))
    where
      is_in_use : InUse tree.used page
      is_in_use =
          holds_used (level_of tree.table page) (view_table measure tree.table) (InUse tree.used) p.tick 0 key_limit page
          now_paid.tree now_paid.held

      descent : descent_sound tree p (level_of tree.table page) 0 key_limit page ≡ true
      descent =
          descent_sound_lem measure m tree p time.tick words.small (level_of tree.table page) 0 key_limit page now_paid.tree
          (omega arith) time.key
          now_paid.held

  pub enter_is : enter tree p ≡ (enter_root tree p page).tree
  unfolding enter
  enter_is = ap (entered_root tree p) is_root

  module _ (room : Room tree p) where
    is_made : (enter_root tree p page).made ≡ room.made
    is_made = (same_ready (sym plan_ready ∙ room.planned)).0

    is_change : (enter_root tree p page).root ≡ room.root
    is_change = (same_ready (sym plan_ready ∙ room.planned)).1

    held : tree.used.pages ≤ whole_pages tree.table
    held = omega (arith, words.pages)

    are_left : (enter_root tree p page).made ≤ pages_left tree
    are_left = omega (arith, is_made, room.pages)

    pub table_room : HasPages tree.table tree.used (enter_root tree p page).made
    table_room = left_has tree words.takes held (enter_root tree p page).made are_left

    list_room : (enter_root tree p page).root ≡ Added → tree.used.roots < length tree.roots
    list_room e = room.place (sym is_change ∙ e)

    pub next_words : WordsKept (enter tree p) p.tick
    next_words =
        subst (λ (new : Tree). WordsKept new p.tick) (sym enter_is)
        (grew_words measure m tree p (last_tick points) words time.later time.tick time.key page is_root (Known (p ∷ points))
        (known_new p points)
        now_paid.tree now_paid.held now_full table_room
        (left_takes tree words.takes held (enter_root tree p page).made (enter_root tree p page).root are_left) list_room)

    -- The table and the list keep their lengths
    pub next_lengths : (length (enter tree p).table ≡ length tree.table) × (length (enter tree p).roots ≡ length tree.roots)
    next_lengths =
        let g =
        grew measure m tree p (last_tick points) words time.later time.tick time.key page is_root (Known (p ∷ points))
        (known_new p points)
        now_paid.tree now_paid.held now_full table_room list_room in
        (ap (λ (new : Tree). length new.table) enter_is ∙ g.table, ap (λ (new : Tree). length new.roots) enter_is ∙ g.list)

    -- The tree afterwards is the model's
    pub next_model : grown_of measure (enter_root tree p page) ≡ next
    next_model =
        entered_model measure m tree p (last_tick points) words time.later time.tick time.key page is_root (Known (p ∷ points))
        (known_new p points)
        now_paid.tree now_paid.held now_full table_room list_room

    pub next_tells : Tells measure (enter tree p) (p ∷ points)
    next_tells =
        subst (λ (new : Tree). Tells measure new (p ∷ points)) (sym enter_is)
        (invariant_same (Known (p ∷ points)) p.tick (view_table measure (enter_root tree p page).tree.table)
        (After (InUse tree.used) (taken_page tree.used) (enter_root tree p page).made) (InUse (enter_root tree p page).tree.used)
        (pages_at_most tree.used (enter_root tree p page).made) (enter_root tree p page).tree.used.pages (roots_of (enter_root tree p page).tree)
        (λ t k. numbers measure t k (p ∷ points)) (72 + 8 * length (p ∷ points))
        (used_in tree p page words.takes) (in_used tree p page words.takes) few_pages
        (subst (λ (c : ℕ). Told (grown_of measure (enter_root tree p page)) c) (omega arith)
        (subst (λ (st : Grown). Told st (72 + 8 * length points + 8)) (sym next_model) next_inv)))
      where
        few_pages : (enter_root tree p page).tree.used.pages ≤ pages_at_most tree.used (enter_root tree p page).made
        few_pages =
            omega (arith, ap (λ (u : TreeUse). u.pages) (used_after tree p page), after_most tree.used (enter_root tree p page).made)

-- A tree just opened
module _ (table roots : List ℕ) (room : page_words ≤ length table) (list : 1 ≤ length roots) where
  first_whole : length first_page ≡ page_words
  first_whole = fresh_length _ _ _ _ _ (omega arith)

  opened_table : page_at (opened_tree table roots).table 0 ≡ first_page
  opened_table = put_same table 0 first_page (omega arith) first_whole

  pub opened_lengths : (length (opened_tree table roots).table ≡ length table) × (length (opened_tree table roots).roots ≡ length roots)
  opened_lengths = (put_length table 0 first_page (omega arith) first_whole, overwrite_length roots 0 (root_entry 0 0 ∷ []) list)

  opened_entries : take 1 (opened_tree table roots).roots ≡ root_entry 0 0 ∷ []
  opened_entries = take_written roots 0 (root_entry 0 0) (omega arith)

  opened_root : (w : ℕ) → root_at (opened_tree table roots) w ≡ Some 0
  opened_root w =
      ap (root_for w) opened_entries
      ∙ root_behind w (root_entry 0 0) []
      ∙ ap (λ (b : Bool). cond b (Some 0) (root_for w [])) (le-leb 0 w (omega arith))

  pub opened_words : WordsKept (opened_tree table roots) 0
  opened_words =
      record {
        small = λ x l. few x (in_opened x l);
        pages = omega (arith, put_length table 0 first_page (omega arith) first_whole);
        takes = opened_takes;
        roots =
            record {
              some = omega arith;
              listed = omega (arith, overwrite_length roots 0 (root_entry 0 0 ∷ []) list);
              fewer = omega arith;
              born = omega (arith, written_word roots 0 0 (root_entry 0 0) (omega arith) refl);
              found = λ w. (0, opened_root w);
            };
      }
    where
      few : (x : ℕ) → x ≡ 0 → length (rows_of (page_at (opened_tree table roots).table x)) ≤ row_limit
      few x e =
          let rows = new_row 0 0 key_limit 0 value.zero ∷ [] in
          let back : rows_of first_page ≡ rows =
          fresh_rows 0 0 key_limit 0 rows (omega arith) (record { low = omega arith; high = omega arith; birth = omega arith }, tt) in
          rw e (rw opened_table (omega (arith, ap length back)))

  module _ (measure : Value → ℕ) (m : Measure measure) where
    opened_store_lem : view_table measure (opened_tree table roots).table ≡ opened (view_table measure table)
    opened_store_lem =
        view_put measure table 0 first_page (omega arith) first_whole
        ∙ ap (put_at (view_table measure table) 0)
        (view_fresh measure 0 0 key_limit 0 (new_row 0 0 key_limit 0 value.zero ∷ []) (omega arith) (omega arith)
        (record { low = omega arith; high = omega arith; birth = omega arith }, tt)
        ∙ (λ i. new_page 0 0 0 key_limit (record { low = 0; high = key_limit; amount = m.of_zero i; page = 0 } ∷ [])))

    opened_roots : roots_of (opened_tree table roots) ≡ (λ (w : ℕ). 0)
    opened_roots = λ i w. ap page_of (opened_root w) i

    pub opened_tells : Tells measure (opened_tree table roots) []
    opened_tells =
        subst₂ (λ (s : ℕ → Page) (root : ℕ → ℕ). Invariant (Known []) 0 s (InUse opened_use) 1 root (λ t k. 0) 72) (sym opened_store_lem)
        (sym opened_roots)
        (opened_keeps (view_table measure table) (InUse opened_use) opened_in in_opened (Known []) refl)

-- Every grown tree
pub kept : (table roots : List ℕ) (points : List Point) → Admitted table roots points → TreeKept (grow table roots points) points
unfolding grow
kept table roots [] h =
    record {
      words = opened_words table roots h.0 h.1;
      tells = λ measure m. opened_tells table roots h.0 h.1 measure m;
    }
kept table roots (p ∷ points) h = after (kept table roots points h.2)
  where
    tree : Tree
    tree = grow table roots points

    after : TreeKept (grow table roots points) points → TreeKept (enter (grow table roots points) p) (p ∷ points)
    after k =
        let root = k.words.roots.found p.tick in
        record {
          words =
              next_words count_of count_measure (grow table roots points) points p k.words (counts k) h.0 root.0 root.1
              h.1;
          tells =
              λ measure m. next_tells measure m (grow table roots points) points p k.words (k.tells measure m) h.0 root.0 root.1
              h.1;
        }
