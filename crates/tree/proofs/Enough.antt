-- A table of 4 + 4n/9 pages and a root list as long have room for any n points in order of time.
use Prim.Native.Nat.{ℕ, suc, ◌+◌, ◌*◌, ◌/◌, ◌≤◌, min}
use native.Mathlib.Omega.{arith}
use mathlib.Core.Path.{◌≡◌, ap, ◌∙◌}
use mathlib.Core.List.{List, ◌∷◌}
use lib.ListN.{length}
use Rattle.std.specs.Prelude.{Some}
use Rattle.words.specs.Words.{key_limit}
use Rattle.words.specs.declared.value.Value.{Value}
use Rattle.words.proofs.Measure.{count_of, count_measure}
use Rattle.tree.specs.Fresh.{fresh_page, two_rows}
use Rattle.tree.specs.Use.{page_limit, taken_page, pages_after}
use Rattle.tree.specs.Tree.{Tree, put_page, level_of, root_at, whole_pages}
use Rattle.tree.specs.RowSteps.{Point}
use Rattle.tree.specs.declared.types.Child.{Child}
use Rattle.tree.specs.declared.types.Became.{Became}
use Rattle.tree.specs.declared.types.Became.TheVariants.{Stays, Copied, Halved}
use Rattle.tree.specs.Overflow.{Written}
use Rattle.tree.specs.Enter.{enter_from, entered_as, enter_root}
use Rattle.tree.specs.Grown.{last_tick, InTime, Room}
use Rattle.tree.specs.Taking.{InUse}
use Rattle.tree.proofs.ModelSteps.{Outcome, Parts, Grown, grown, entering}
use Rattle.tree.proofs.GrownStates.{low}
use Rattle.tree.proofs.View.{view_table}
use Rattle.tree.proofs.RowViews.{parts_of}
use Rattle.tree.proofs.PageViews.{Matches}
use Rattle.tree.proofs.RootLaws.{root_made}
use Rattle.tree.proofs.TreeViews.{page_of, roots_of, WordsKept}
use Rattle.tree.proofs.Growth.{Known, numbers, Tells, now_agrees, next_inv, plan_ready}
use Rattle.tree.proofs.TakenPages.{After}
use Rattle.tree.proofs.UseLaws.{after_most, enough_left, place_found_lem, pages_at_most}
use Rattle.tree.proofs.MostMade.{entered_some}

-- The pages that an entry makes are those that the model makes, room or no room
module _ (measure : Value → ℕ) (tree : Tree) (t level : ℕ) (root : ℕ → ℕ) (so : Written) (o : Outcome)
    (agree : Matches measure tree 0 key_limit so o) where
  abbrev top_page : Child → Child → List ℕ
  top_page c d = fresh_page (level + 1) 0 key_limit t (two_rows t c.high c.page d.page)

  made_model : (entered_as tree t level so so.became).made ≡ (grown t level root o.store (taken_page tree.used) o.made o.parts).made
  made_model = go so.became ∙ ap (λ (parts : Parts). (grown t level root o.store (taken_page tree.used) o.made parts).made) agree.parts
    where
      go : (b : Became) → (entered_as tree t level so b).made ≡ (grown t level root o.store (taken_page tree.used) o.made (parts_of b)).made
      go Stays = agree.made
      go (Copied c) = omega (arith, agree.made, root_made tree t c.page so.table so.made)
      go (Halved c d) =
          omega (
            arith,
            agree.made,
            root_made tree t (taken_page tree.used so.made) (put_page so.table (taken_page tree.used so.made) (top_page c d))
                (so.made + 1),
          )

module _ (tree : Tree) (points : List Point) (p : Point) (words : WordsKept tree (last_tick points)) (tells : Tells count_of tree points)
    (time : InTime (last_tick points) p) (page : ℕ) (is_root : root_at tree p.tick ≡ Some page) where
  abbrev level : ℕ
  level = level_of tree.table page

  abbrev after : ℕ → Grown
  after x = entering p.tick p.key (count_of p.value) (view_table count_of tree.table) (taken_page tree.used) (roots_of tree) x

  few_after : pages_at_most tree.used (after (roots_of tree p.tick)).made ≤ 4 + 4 * suc (length points) / 9
  few_after =
      let st = after (roots_of tree p.tick) in
      let paid = (next_inv count_of count_measure tree points p words tells time page is_root).current p.tick (omega arith) time.tick in
      let top =
      low (Known (p ∷ points)) st.store (After (InUse tree.used) (taken_page tree.used) st.made) (pages_at_most tree.used st.made) p.tick
      (λ k. numbers count_of p.tick k (p ∷ points)) (st.root p.tick)
      (72 + 8 * length points + 8) paid in
      omega (arith, paid.budget top)

  few_made : pages_after tree.used (enter_root tree p page).made ≤ 4 + 4 * suc (length points) / 9
  unfolding enter_root
  few_made =
      let so = enter_from tree p level page in
      omega (
        arith,
        after_most tree.used (enter_root tree p page).made,
        made_model count_of tree p.tick level (roots_of tree) so _
            (now_agrees count_of count_measure tree points p words tells time page is_root).0,
        ap (λ (x : ℕ). (after x).made) (ap page_of is_root),
        few_after,
      )

  pub has_room : 4 + 4 * suc (length points) / 9 ≤ min (whole_pages tree.table) page_limit
      → 4 + 4 * suc (length points) / 9 ≤ length tree.roots → Room tree p
  has_room pages list =
      record {
        made = (enter_root tree p page).made;
        root = (enter_root tree p page).root;
        planned = plan_ready count_of count_measure tree points p words tells time page is_root;
        pages = enough_left tree (enter_root tree p page).made (omega (arith, few_made));
        place =
            λ e. place_found_lem tree.used (enter_root tree p page).made (length tree.roots) words.roots.fewer (entered_some tree p page e)
            (omega (arith, few_made));
      }
