-- The trees of a store by name, and what is lent to each: "A store has one tree of starts and one of ends." "A third tree, with its own lent tables, takes a point at every
-- start and end" (document 02, Paper 4): the tree of time.
use Rattle.std.specs.Prelude.{ℕ, List, Bool, ◌&&◌, ◌||◌}
use Rattle.tree.specs.declared.types.TreeUse.{TreeUse}
use Rattle.tree.specs.Tree.{Tree}
use Rattle.store.specs.declared.types.TreeName.{TreeName}
use Rattle.store.specs.declared.types.TreeName.TheVariants.{Starts, Ends, Time}
use Rattle.store.specs.declared.types.Head.{Head}

-- What holds of each tree, or of one of them
abbrev pub each_tree : (TreeName → Bool) → Bool
each_tree f = f Starts && (f Ends && f Time)

abbrev pub some_tree : (TreeName → Bool) → Bool
some_tree f = f Starts || (f Ends || f Time)

-- What is lent to a tree
pub record LentTree : Type 0 where
  pub table : List ℕ
  pub roots : List ℕ

-- The lent slices
pub record Lent : Type 0 where
  pub starts : LentTree
  pub ends : LentTree
  pub time : LentTree

abbrev pub lent_to : Lent → TreeName → LentTree
lent_to m Starts = m.starts
lent_to m Ends = m.ends
lent_to m Time = m.time

abbrev pub lent_by_name : (TreeName → LentTree) → Lent
lent_by_name f = record { starts = f Starts; ends = f Ends; time = f Time }

abbrev pub with_lent : Lent → TreeName → LentTree → Lent
with_lent m Starts t = record { starts = t; ends = m.ends; time = m.time }
with_lent m Ends t = record { starts = m.starts; ends = t; time = m.time }
with_lent m Time t = record { starts = m.starts; ends = m.ends; time = t }

-- The slices in the order of a call's parameters
abbrev pub lent_of : (start_table start_roots end_table end_roots time_table time_roots : List ℕ) → Lent
lent_of start_table start_roots end_table end_roots time_table time_roots =
    record {
      starts = record { table = start_table; roots = start_roots };
      ends = record { table = end_table; roots = end_roots };
      time = record { table = time_table; roots = time_roots };
    }

-- The head has "for each tree the pages used and the roots used"
abbrev pub used_by : Head → TreeName → TreeUse
used_by h Starts = h.starts
used_by h Ends = h.ends
used_by h Time = h.time

abbrev pub with_use : Head → TreeName → TreeUse → Head
with_use h Starts used =
    record { last = h.last; started = h.started; count = h.count; passes = h.passes; starts = used; ends = h.ends; time = h.time }
with_use h Ends used =
    record { last = h.last; started = h.started; count = h.count; passes = h.passes; starts = h.starts; ends = used; time = h.time }
with_use h Time used =
    record { last = h.last; started = h.started; count = h.count; passes = h.passes; starts = h.starts; ends = h.ends; time = used }

-- What a call is handed and what it leaves
pub record Store : Type 0 where
  pub head : Head
  pub lent : Lent

abbrev pub store_of : Head → (start_table start_roots end_table end_roots time_table time_roots : List ℕ) → Store
store_of head start_table start_roots end_table end_roots time_table time_roots =
    record { head = head; lent = lent_of start_table start_roots end_table end_roots time_table time_roots }

abbrev pub tree_in : Store → TreeName → Tree
tree_in s name = record { table = (lent_to s.lent name).table; roots = (lent_to s.lent name).roots; used = used_by s.head name }

-- The store with one tree changed
abbrev pub with_tree : Store → TreeName → Tree → Store
with_tree s name t =
    record { head = with_use s.head name t.used; lent = with_lent s.lent name (record { table = t.table; roots = t.roots }) }
