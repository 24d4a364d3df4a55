-- What finishing a page leaves alone: every other page in use, and the table's length. New pages have numbers that were not in use.
use Prim.Native.Nat.{ℕ, ◌+◌, ◌*◌, ◌≤◌, ◌<◌}
use native.Mathlib.Omega.{arith}
use native.Mathlib.Decide.{dec_le}
use mathlib.Core.Path.{◌≡◌, ◌∙◌}
use mathlib.Core.List.{List}
use lib.ListN.{length, take, drop, length-take, length-drop}
use borrow.Author.Tests.{le-leb, lt-leb}
use Rattle.words.specs.Lists.{All}
use Rattle.words.specs.Words.{low_key, high_key}
use Rattle.tree.specs.declared.types.Row.{Row}
use Rattle.tree.specs.Row.{word, row_limit, copy_limit, page_words}
use Rattle.tree.specs.Limits.{most_rows}
use Rattle.tree.specs.Edit.{with_rows}
use Rattle.tree.specs.Fresh.{fresh_page}
use Rattle.tree.proofs.Lists.{all_drop}
use Rattle.tree.proofs.PageCodec.{Fits, with_length, fresh_length}
use Rattle.tree.proofs.RowBounds.{copied_length, copied_fits, first_length, lowest_fits}
use Rattle.tree.specs.Tree.{Tree, page_at, put_page}
use Rattle.tree.specs.declared.types.Became.TheVariants.{Stays}
use Rattle.tree.specs.Use.{taken_page}
use Rattle.tree.specs.Taking.{InUse, HasPages, Takes}
use Rattle.tree.specs.Overflow.{Written, copied_rows, lower_count, lowest_key, gain_first, total_of, copy_page, halve_page, split_page, finish_page}
use Rattle.tree.proofs.TableLaws.{put_length, put_other}
use Rattle.tree.proofs.UseLaws.{taken_new, taken_inside}
use Rattle.enter.proofs.StepRows.{ChildrenFit}
use Rattle.enter.proofs.SettleLaws.{finish_stays, finish_splits}

pub record Finished (tree : Tree) (so : Written) (page : ℕ) (o : Written) : Type 0 where
  pub same_length : length o.table ≡ length so.table
  pub other : (q : ℕ) → InUse tree.used q → (q ≡ page → ⊥) → page_at o.table q ≡ page_at so.table q
  pub children : ChildrenFit o.became
  pub least : so.made ≤ o.made

module _ (tree : Tree) (takes : Takes tree.used) (t : ℕ) (small : t < 4294967296) (so : Written) (page : ℕ) (rows : List Row) (fit : All Fits rows) (few : length rows ≤ most_rows)
    (whole : length (page_at tree.table page) ≡ page_words) (inside : page * page_words + page_words ≤ length so.table) where
  old : List ℕ
  old = page_at tree.table page

  moved : List Row
  moved = copied_rows t rows

  stays_facts : length rows ≤ row_limit →
      Finished tree so page (record { table = put_page so.table page (with_rows (page_at tree.table page) rows); made = so.made; became = Stays })
  stays_facts h =
      let size : length (with_rows (page_at tree.table page) rows) ≡ page_words = with_length (page_at tree.table page) rows (omega arith) ∙ whole in
      record {
        same_length = put_length so.table page (with_rows (page_at tree.table page) rows) inside size;
        other = λ q l n. put_other so.table page (with_rows (page_at tree.table page) rows) inside size q n;
        children = tt;
        least = omega arith;
      }

  copy_facts : length moved ≤ copy_limit → HasPages so.table tree.used (so.made + 1) →
      Finished tree so page (copy_page tree t so old moved)
  unfolding old moved
  copy_facts h has =
      let n : ℕ = taken_page tree.used so.made in
      let new : List ℕ = fresh_page (word old 0) (low_key (word old 2)) (high_key (word old 2)) t moved in
      let size : length new ≡ page_words = fresh_length (word old 0) (low_key (word old 2)) (high_key (word old 2)) t moved (omega arith) in
      let fits : n * page_words + page_words ≤ length so.table = taken_inside tree.used takes so.made (so.made + 1) so.table has (omega arith) in
      record {
        same_length = put_length so.table n new fits size;
        other = λ q l a. put_other so.table n new fits size q (taken_new tree.used takes q so.made l);
        children = (omega arith, omega arith);
        least = omega arith;
      }

  lower : List Row
  lower = take (lower_count moved) moved

  upper : List Row
  upper = drop (lower_count moved) moved

  halve_facts : HasPages so.table tree.used (so.made + 2) →
      Finished tree so page (halve_page tree t so old lower upper (lowest_key (high_key (word old 2)) upper))
  unfolding old moved lower upper
  halve_facts has =
      let many : length (copied_rows t rows) ≤ length rows = copied_length t rows in
      let middle : ℕ = lowest_key (high_key (word old 2)) upper in
      let n : ℕ = taken_page tree.used so.made in
      let m : ℕ = taken_page tree.used (so.made + 1) in
      let first : List ℕ = fresh_page (word old 0) (low_key (word old 2)) middle t lower in
      let second : List ℕ = fresh_page (word old 0) middle (high_key (word old 2)) t (gain_first (total_of lower) upper) in
      let a : length lower ≤ row_limit = omega (arith, length-take (lower_count moved) moved) in
      let b : length (gain_first (total_of lower) upper) ≤ row_limit =
      omega (arith, first_length (total_of lower) upper, length-drop (lower_count moved) moved) in
      let first_size : length first ≡ page_words = fresh_length (word old 0) (low_key (word old 2)) middle t lower a in
      let second_size : length second ≡ page_words = fresh_length (word old 0) middle (high_key (word old 2)) t (gain_first (total_of lower) upper) b in
      let first_fits : n * page_words + page_words ≤ length so.table = taken_inside tree.used takes so.made (so.made + 2) so.table has (omega arith) in
      let between : List ℕ = put_page so.table n first in
      let long : length between ≡ length so.table = put_length so.table n first first_fits first_size in
      let second_fits : m * page_words + page_words ≤ length between =
      omega (arith, long, taken_inside tree.used takes (so.made + 1) (so.made + 2) so.table has (omega arith)) in
      let mid : middle < 65536 = lowest_fits (high_key (word old 2)) upper (omega arith) (all_drop Fits (lower_count moved) moved (copied_fits t rows small fit)) in
      record {
        same_length = put_length between m second second_fits second_size ∙ long;
        other =
            λ q l a. put_other between m second second_fits second_size q (taken_new tree.used takes q (so.made + 1) l)
            ∙ put_other so.table n first first_fits first_size q (taken_new tree.used takes q so.made l);
        children = ((omega arith, mid), (mid, omega arith));
        least = omega arith;
      }

  split_facts : HasPages so.table tree.used (split_page tree t so old moved).made → Finished tree so page (split_page tree t so old moved)
  unfolding old moved lower upper
  split_facts room = go (dec_le (length moved) copy_limit) room
    where
      go : Dec (length moved ≤ copy_limit) → HasPages so.table tree.used (split_page tree t so old moved).made →
          Finished tree so page (split_page tree t so old moved)
      go (yes h) r =
          let e : split_page tree t so old moved ≡ copy_page tree t so old moved = rw (le-leb _ _ h) in
          rw e (copy_facts h (rw e at r))
      go (no h) r =
          let over : copy_limit < length moved = omega arith in
          let e : split_page tree t so old moved ≡ halve_page tree t so old lower upper (lowest_key (high_key (word old 2)) upper) = rw (lt-leb _ _ over) in
          rw e (halve_facts (rw e at r))

  pub finish_facts : HasPages so.table tree.used (finish_page tree t so page rows).made → Finished tree so page (finish_page tree t so page rows)
  unfolding old moved
  finish_facts room = go (dec_le (length rows) row_limit)
    where
      go : Dec (length rows ≤ row_limit) → Finished tree so page (finish_page tree t so page rows)
      go (yes h) = rw (finish_stays tree t so page rows h) (stays_facts h)
      go (no h) =
          let e = finish_splits tree t so page rows (omega arith) in
          rw e (split_facts (rw e at room))

-- Finishing a page makes no fewer pages than were made before it
pub finish_least : (tree : Tree) (t : ℕ) (so : Written) (page : ℕ) (rows : List Row) → so.made ≤ (finish_page tree t so page rows).made
finish_least tree t so page rows = go (dec_le (length rows) row_limit)
  where
    split : Dec (length (copied_rows t rows) ≤ copy_limit) → so.made ≤ (split_page tree t so (page_at tree.table page) (copied_rows t rows)).made
    split (yes h) = rw (le-leb _ _ h) (omega arith)
    split (no h) = let over : copy_limit < length (copied_rows t rows) = omega arith in rw (lt-leb _ _ over) (omega arith)

    go : Dec (length rows ≤ row_limit) → so.made ≤ (finish_page tree t so page rows).made
    go (yes h) = rw (finish_stays tree t so page rows h) (omega arith)
    go (no h) = rw (finish_splits tree t so page rows (omega arith)) (split (dec_le (length (copied_rows t rows)) copy_limit))
