-- Entering a point leaves every earlier tick as it was: each page that was born by then shows a reader the same, so paths and lookups stay.
use Prim.Native.Nat.{ℕ, ◌+◌, ◌≤◌, ◌<◌}
use native.Mathlib.Omega.{arith}
use mathlib.Core.Path.{◌≡◌, refl, sym, ap, ◌∙◌, subst}
use mathlib.Core.Bool.{Bool, cond, ◌&&◌}
use mathlib.Core.List.{List, ◌∷◌}
use lib.Dec.{leb}
use lib.ListN.{length}
use borrow.Author.Tests.{lt-leb}
use Rattle.std.specs.Prelude.{Some}
use Rattle.words.specs.Words.{key_limit, open_end}
use Rattle.words.specs.declared.value.Value.{Value}
use Rattle.words.specs.Value.{zero, plus}
use Rattle.words.proofs.Measure.{Measure}
use Rattle.words.proofs.ValueLaws.{zero_plus}
use Rattle.tree.specs.TrueValue.{total_where}
use Rattle.tree.proofs.OrderTotals.{total_stored}
use Rattle.tree.specs.Fresh.{fresh_page, two_rows}
use Rattle.tree.specs.Tree.{Tree, put_page, level_of, root_at}
use Rattle.tree.specs.RowSteps.{Point}
use Rattle.tree.specs.declared.types.Became.{Became}
use Rattle.tree.specs.declared.types.Became.TheVariants.{Stays, Copied, Halved}
use Rattle.tree.specs.Use.{taken_page}
use Rattle.tree.specs.Overflow.{Written}
use Rattle.tree.specs.Enter.{enter_from, entered_as, enter_root}
use Rattle.tree.specs.Path.{path}
use Rattle.tree.specs.Plan.{enter}
use Rattle.tree.specs.Grown.{last_tick, InTime, Room}
use Rattle.tree.specs.PointSums.{dominated}
use Rattle.tree.specs.PointTotals.{point_value, sum_of_points}
use Rattle.tree.specs.Taking.{InUse, HasPages}
use Rattle.tree.proofs.ModelSteps as model_steps
use Rattle.tree.proofs.ModelPages.{Page}
use Rattle.tree.proofs.ModelTrees.{Alike}
use Rattle.tree.proofs.ModelSteps.{Grown, Outcome, grown, entering}
use Rattle.tree.proofs.HeldTrees.{holds_frame}
use Rattle.tree.proofs.EnteredPages.{enter_keeps}
use Rattle.tree.proofs.GrownStates.{Version, holds_used, holds_born, grown_other, grown_in, grown_root_past}
use Rattle.tree.proofs.View.{view_table}
use Rattle.tree.proofs.TreeViews.{page_of, roots_of, grown_of, WordsKept, used_in}
use Rattle.tree.proofs.HeldPaths.{held_path}
use Rattle.tree.proofs.Growth.{Known, numbers, Tells, now_paid, now_full, now_agrees, known_new, enter_is, table_room}
use Rattle.tree.proofs.Growth.{next_model, next_words}
use Rattle.tree.proofs.RootLaws.{root_made}
use Rattle.tree.proofs.SeenPages.{LooksSame, enter_looks, root_looks}
use Rattle.tree.proofs.TakenPages.{After, Allocates}
use Rattle.tree.proofs.UseLaws.{used_allocates, fewer}

-- The whole entry makes no fewer pages than the steps below the root
root_made_more : (tree : Tree) (t level : ℕ) (so : Written) (became : Became) → so.made ≤ (entered_as tree t level so became).made
root_made_more tree t level so Stays = omega arith
root_made_more tree t level so (Copied c) = omega (arith, root_made tree t c.page so.table so.made)
root_made_more tree t level so (Halved c d) =
    omega (
      arith,
      root_made tree t (taken_page tree.used so.made)
          (put_page so.table (taken_page tree.used so.made)
          (fresh_page (level + 1) 0 key_limit t (two_rows t c.high c.page d.page)))
          (so.made + 1),
    )

module _ (measure : Value → ℕ) (m : Measure measure) (tree : Tree) (points : List Point) (p : Point)
    (words : WordsKept tree (last_tick points)) (tells : Tells measure tree points) (time : InTime (last_tick points) p)
    (page : ℕ) (is_root : root_at tree p.tick ≡ Some page) (room : Room tree p) where
  abbrev store : ℕ → Page
  store = view_table measure tree.table

  abbrev In : ℕ → Type 0
  In = InUse tree.used

  abbrev alloc : ℕ → ℕ
  alloc = taken_page tree.used

  abbrev level : ℕ
  level = level_of tree.table page

  out : Outcome
  out = model_steps.enter level p.tick p.key (measure p.value) store alloc page

  after : Grown
  after = grown p.tick level (roots_of tree) out.store alloc out.made out.parts

  allocates : Allocates (InUse tree.used) (taken_page tree.used)
  allocates = used_allocates tree.used words.takes

  model_after : grown_of measure (enter_root tree p page) ≡ after
  unfolding after out
  model_after =
      next_model measure m tree points p words tells time page is_root room
      ∙ ap (entering p.tick p.key (measure p.value) (view_table measure tree.table) (taken_page tree.used) (roots_of tree)) (ap page_of is_root)

  -- Every page in use that is older than the point stays in use, and shows the same
  older_pages : (w x : ℕ) → w < p.tick → In x → (store x).birth ≤ w
      → InUse (enter tree p).used x × Alike w (view_table measure (enter tree p).table x) (store x)
  unfolding after out
  older_pages w x early is_in_use born =
      let ok =
      enter_keeps p.tick time.tick p.key (measure p.value) (Known (p ∷ points)) (known_new p points) store In alloc allocates 0 level 0
      key_limit page
      (now_paid measure m tree points p words tells time page is_root).tree (omega arith) time.key
      (now_paid measure m tree points p words tells time page is_root).held
      (now_full measure m tree points p words tells time page is_root) in
      let stays = ok.older x is_in_use (omega arith) in
      let other : after.store x ≡ out.store x =
      grown_other p.tick time.tick level (roots_of tree) out.store In alloc allocates out.made 0 (λ q. 0) page (Known (p ∷ points)) out.parts
      x stays in
      let made_is : (enter_root tree p page).made ≡ after.made = ap (λ (st : Grown). st.made) model_after in
      let then : After In alloc (enter_root tree p page).made x =
      subst (λ (n : ℕ). After In alloc n x) (sym made_is)
      (grown_in p.tick time.tick level (roots_of tree) out.store In alloc allocates out.made 0 (λ q. 0) page (Known (p ∷ points)) out.parts
      x stays) in
      subst (λ (new : Tree). InUse new.used x × Alike w (view_table measure new.table x) (store x))
      (sym (enter_is measure m tree points p words tells time page is_root)) (
        used_in tree p page words.takes x then,
        subst (λ (g : Page). Alike w g (store x)) (sym (ap (λ (st : Grown). st.store x) model_after ∙ other)) (ok.past w x early is_in_use),
      )

  same_root : (w : ℕ) → w < p.tick → page_of (root_at (enter tree p) w) ≡ page_of (root_at tree w)
  unfolding after out
  same_root w early =
      ap (λ (new : Tree). page_of (root_at new w)) (enter_is measure m tree points p words tells time page is_root)
      ∙ ap (λ (st : Grown). st.root w) model_after
      ∙ grown_root_past p.tick level (roots_of tree) out.store alloc out.made out.parts w early

  pub past_path : (w k : ℕ) → w < p.tick → k < key_limit → path (enter tree p) w k ≡ path tree w k
  past_path w k early key =
      held_path measure m (enter tree p) (next_words measure m tree points p words tells time page is_root room) w k now key n from
      version.tree
      (same_root w early)
      (older_pages w from early (holds_used n store In w 0 key_limit from version.tree version.held)
      (holds_born n store In w 0 key_limit from version.tree version.held)).1.level
      (holds_frame n store (view_table measure (enter tree p).table) In (InUse (enter tree p).used) w 0 key_limit from version.tree
      (λ x i o j l h. older_pages w x early i o) version.held)
      ∙ sym (held_path measure m tree words w k now key n from version.tree refl refl version.held)
    where
      from : ℕ
      from = page_of (root_at tree w)

      n : ℕ
      n = level_of tree.table (page_of (root_at tree w))

      now : w < open_end
      now = omega (arith, time.tick)

      version : Version store In w (λ q. numbers measure w q points) (page_of (root_at tree w))
      version = tells.versions w now

  -- Page by page, in the words themselves
  pub past_looks : (w : ℕ) → w < p.tick → LooksSame w tree (enter tree p).table
  unfolding enter_root
  past_looks w early =
      subst (λ (new : Tree). LooksSame w tree new.table) (sym (enter_is measure m tree points p words tells time page is_root))
      (root_looks tree words.takes p.tick w level so size_is.0 below (table_room measure m tree points p words tells time page is_root room))
    where
      so : Written
      so = enter_from tree p level page

      so_room : HasPages tree.table tree.used so.made
      so_room =
          fewer tree.used so.made (enter_root tree p page).made tree.table (root_made_more tree p.tick level so so.became)
          (table_room measure m tree points p words tells time page is_root room)

      size_is : (length so.table ≡ length tree.table)
          × (view_table measure so.table ≡ (model_steps.enter level p.tick p.key (measure p.value) store alloc page).store)
      size_is = (now_agrees measure m tree points p words tells time page is_root).0.table so_room

      below : LooksSame w tree so.table
      below =
          enter_looks measure m tree p time.tick words.takes words.small w early (Known (p ∷ points)) (known_new p points) level page 0 key_limit
          (now_paid measure m tree points p words tells time page is_root).tree (omega arith) time.key (omega arith)
          (now_paid measure m tree points p words tells time page is_root).held
          (now_full measure m tree points p words tells time page is_root) so_room

-- A point later than the tick does not count
pub later_sum : (p : Point) (points : List Point) (t k : ℕ) → t < p.tick → sum_of_points t k (p ∷ points) ≡ sum_of_points t k points
unfolding total_where
later_sum p points t k early =
    ap (λ (b : Bool). plus (cond (b && leb p.key k) p.value zero) (sum_of_points t k points)) (lt-leb p.tick t early)
    ∙ zero_plus (sum_of_points t k points) (total_stored point_value (dominated t k) points)
