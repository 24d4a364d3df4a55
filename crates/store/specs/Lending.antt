-- What is lent, as a call holds it: the slices of a tree side by side.
use Rattle.std.specs.Prelude.{[], ◌≡◌}
use Rattle.tree.specs.declared.types.TreeUse.{TreeUse}
use Rattle.tree.specs.Tree.{Tree}
use Rattle.store.specs.declared.types.Head.{Head}
use Rattle.store.specs.declared.lending.TreeMemory.{TreeMemory}
use Rattle.store.specs.declared.lending.TreeView.{TreeView}
use Rattle.store.specs.declared.lending.StoreView.{StoreView}
use Rattle.store.specs.Trees.{LentTree, Lent, Store}

-- The words of a tree's memory, and of what is lent of it to read
abbrev pub words_of : TreeMemory → LentTree
words_of memory = record { table = memory.table.now; roots = memory.roots.now }

abbrev pub words_in : TreeView → LentTree
words_in view = record { table = view.table.now; roots = view.roots.now }

-- No memory of a tree
abbrev pub nothing_lent : LentTree
nothing_lent = record { table = []; roots = [] }

-- A tree in such words
abbrev pub tree_of : LentTree → TreeUse → Tree
tree_of lent used = record { table = lent.table; roots = lent.roots; used = used }

-- The words that are lent to three trees, and the store that they make with a head
abbrev pub lent_to_trees : (starts ends time : LentTree) → Lent
lent_to_trees starts ends time = record { starts = starts; ends = ends; time = time }

abbrev pub store_with : Head → (starts ends time : LentTree) → Store
store_with head starts ends time = record { head = head; lent = lent_to_trees starts ends time }

-- A store that is lent to read
abbrev pub store_seen : StoreView → Store
store_seen view = store_with view.head.now (words_in view.starts) (words_in view.ends) (words_in view.time)

-- A call writes through the slices that it is handed, and puts no others in their place
abbrev pub SameSlices : TreeMemory → TreeMemory → Type 0
SameSlices old new = (new.table.ghost_name ≡ old.table.ghost_name) × (new.roots.ghost_name ≡ old.roots.ghost_name)
