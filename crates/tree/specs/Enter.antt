-- Entering a point: document 01, steps 1 to 8, as what the page table, the root list and the tree's use hold afterwards.
use Rattle.std.specs.Prelude.{ℕ, zero, suc, ◌+◌, ◌-◌, List, [], ◌∷◌, cond, eqb}
use Rattle.words.specs.Words.{root_birth, root_entry, key_limit}
use Rattle.words.specs.Overwrite.{overwrite}
use Rattle.tree.specs.Row.{rows_of}
use Rattle.tree.specs.KeyOrder.{Placed}
use Rattle.tree.specs.TrueValue.{Search, none, one}
use Rattle.tree.specs.Fresh.{fresh_page, two_rows}
use Rattle.tree.specs.declared.types.RootChange.{RootChange}
use Rattle.tree.specs.declared.types.RootChange.TheVariants.{Kept, Added, Replaced}
use Rattle.tree.specs.Tree.{Tree, page_at, put_page, level_of, last_root}
use Rattle.tree.specs.RowSteps.{Point, row_around, gain_rows, leaf_rows, relink_row}
use Rattle.tree.specs.declared.types.Became.{Became}
use Rattle.tree.specs.declared.types.Became.TheVariants.{Stays, Copied, Halved}
use Rattle.tree.specs.Use.{taken_page, use_after}
use Rattle.tree.specs.Overflow.{Written, finish_page}

-- Nothing written yet
abbrev pub unwritten : Tree → Written
unwritten tree = record { table = tree.table; made = 0; became = Stays }

-- A page above the lowest one, after the call came back from the child of its row x: its step 3, then step 7
abbrev pub enter_above : Tree → Point → ℕ → Placed → Written → Written
enter_above tree p page x child =
    finish_page tree p.tick child page (relink_row p.tick x child.became (gain_rows p (rows_of (page_at tree.table page))))

-- Steps 1 to 7 from a page down: "Descend .. through the live row with low key < k < high key, while there is one and the page is no leaf";
-- "Work back from the lowest page upward". Each page's rows are those from before the call.
abbrev pub enter_below : Tree → Point → ℕ → (ℕ → Written) → Search Placed → Written
enter_below tree p page below none = finish_page tree p.tick (unwritten tree) page (gain_rows p (rows_of (page_at tree.table page)))
enter_below tree p page below (one x) = enter_above tree p page x (below x.row.child)

unfoldable pub enter_from : Tree → Point → ℕ → ℕ → Written
enter_from tree p zero page = finish_page tree p.tick (unwritten tree) page (leaf_rows p (rows_of (page_at tree.table page)))
enter_from tree p (suc l) page =
    enter_below tree p page (λ (child : ℕ). enter_from tree p l child) (row_around p (rows_of (page_at tree.table page)))

-- The tree afterwards, and what happened to its root list
pub record Entered : Type 0 where
  pub tree : Tree
  pub made : ℕ
  pub root : RootChange

-- Step 8: "A root overflow adds a root entry, or replaces the last one if that was born at t."
abbrev pub with_root : Tree → (t page : ℕ) → (table : List ℕ) → (made : ℕ) → Entered
with_root tree t page table made =
    cond (eqb (root_birth (last_root tree)) t)
    (record {
      tree =
          record {
            table = table;
            roots = overwrite tree.roots (tree.used.roots - 1) (root_entry t page ∷ []);
            used = use_after tree.used made Replaced;
          };
      made = made;
      root = Replaced;
    })
    (record {
      tree =
          record {
            table = table;
            roots = overwrite tree.roots tree.used.roots (root_entry t page ∷ []);
            used = use_after tree.used made Added;
          };
      made = made;
      root = Added;
    })

-- "Two halves get a new root one level up, two rows of value zero."
abbrev pub entered_as : Tree → ℕ → ℕ → Written → Became → Entered
entered_as tree t level so Stays =
    record {
      tree =
          record {
            table = so.table;
            roots = tree.roots;
            used = use_after tree.used so.made Kept;
          };
      made = so.made;
      root = Kept;
    }
entered_as tree t level so (Copied c) = with_root tree t c.page so.table so.made
entered_as tree t level so (Halved c d) =
    with_root tree t (taken_page tree.used so.made)
    (put_page so.table (taken_page tree.used so.made) (fresh_page (level + 1) 0 key_limit t (two_rows t c.high c.page d.page)))
    (so.made + 1)

-- The whole entry, from the page of the root for the tick
unfoldable pub enter_root : Tree → Point → ℕ → Entered
enter_root tree p page =
    let so = enter_from tree p (level_of tree.table page) page in
    entered_as tree p.tick (level_of tree.table page) so so.became
