-- Entering a point, in the rows of one page: document 01, steps 2 to 4 and 7.
use Rattle.std.specs.Prelude.{ℕ, List, [], ◌∷◌, ◌++◌, cond, set, leb, eqb}
use Rattle.words.specs.declared.value.Value.{Value}
use Rattle.words.specs.Value.{zero, plus}
use Rattle.tree.specs.declared.types.Row.{Row}
use Rattle.tree.specs.declared.types.Child.{Child}
use Rattle.tree.specs.declared.types.Became.{Became}
use Rattle.tree.specs.declared.types.Became.TheVariants.{Stays, Copied, Halved}
use Rattle.tree.specs.Row.{around}
use Rattle.tree.specs.KeyOrder.{Placed, key_order}
use Rattle.tree.specs.TrueValue.{Search, none, one, first}
use Rattle.tree.specs.Edit.{ended, born_at}
use Rattle.tree.specs.Fresh.{new_row}

-- "A point is a tick, a key, a count of 1 and a weight": here with any value
pub record Point : Type 0 where
  pub tick : ℕ
  pub key : ℕ
  pub value : Value

abbrev pub gained : Value → Row → Row
gained v r = record { low = r.low; high = r.high; child = r.child; birth = r.birth; end = r.end; value = plus r.value v }

abbrev pub cut_at : ℕ → Row → Row
cut_at k r = record { low = r.low; high = k; child = r.child; birth = r.birth; end = r.end; value = r.value }

abbrev pub linked_to : Child → Row → Row
linked_to c r = record { low = c.low; high = c.high; child = c.page; birth = r.birth; end = r.end; value = r.value }

-- Step 4: "A row born at t is altered where it is, not ended; when split, it becomes the lower of the two. Further rows, born at t and open,
-- are appended as they are made, lower key first within a step." Any other row "ends at t" and what it becomes is appended first.
abbrev pub replace_row : ℕ → Placed → Row → List Row → List Row → List Row
replace_row t old new further rows =
    cond (eqb old.row.birth t)
    (set rows old.place new ++ further)
    (set rows old.place (ended t old.row) ++ (born_at t new ∷ further))

-- "the live row with low key < k < high key"
abbrev pub row_around : Point → List Row → Search Placed
row_around p rows = first (λ (x : Placed). around p.key x.row) (key_order p.tick rows)

-- "the first live row, in key order, with low key ≥ k"
abbrev pub row_from : Point → List Row → Search Placed
row_from p rows = first (λ (x : Placed). leb p.key x.row.low) (key_order p.tick rows)

-- Step 3: it "ends at t and returns with the point added; if there is none, nothing happens"
abbrev pub gain_in : Point → List Row → Search Placed → List Row
gain_in p rows none = rows
gain_in p rows (one x) = replace_row p.tick x (gained p.value x.row) [] rows

unfoldable pub gain_rows : Point → List Row → List Row
gain_rows p rows = gain_in p rows (row_from p rows)

-- Step 2: "A live leaf row with low key < k < high key ends at t; two rows follow it, low to k with its value and k to high with the point's."
-- "Else" step 3.
abbrev pub cut_in : Point → List Row → Search Placed → List Row
cut_in p rows none = gain_rows p rows
cut_in p rows (one x) =
    replace_row p.tick x (cut_at p.key x.row) (new_row p.tick p.key x.row.high 0 p.value ∷ []) rows

unfoldable pub leaf_rows : Point → List Row → List Row
leaf_rows p rows = cut_in p rows (row_around p rows)

-- Step 7: "the row for the page ends at t and returns with the new child and its key range; a second child gets a row of value zero"
unfoldable pub relink_row : ℕ → Placed → Became → List Row → List Row
relink_row t x Stays rows = rows
relink_row t x (Copied c) rows = replace_row t x (linked_to c x.row) [] rows
relink_row t x (Halved c d) rows = replace_row t x (linked_to c x.row) (new_row t d.low d.high d.page zero ∷ []) rows
