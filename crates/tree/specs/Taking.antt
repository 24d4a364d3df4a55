-- What is asked of the use of a tree: that a page is in use, that the table has the pages that a call takes, and that a call may take pages.
use Rattle.std.specs.Prelude.{ℕ, ◌*◌, ◌≤◌, ◌≡◌, true, List, [], length}
use Rattle.tree.specs.Row.{page_words}
use Rattle.tree.specs.declared.types.TreeUse.{TreeUse}
use Rattle.tree.specs.declared.pages.TreePages.{TreePages}
use Rattle.tree.specs.Use.{in_use, pages_after, page_limit}
use Rattle.tree.specs.Tree.{Tree}

-- A tree of which the root list does not matter
abbrev pub rootless : List ℕ → TreeUse → Tree
rootless table used = record { table = table; roots = []; used = used }

-- The tree that has the pages which a call is lent, and such a root list, or one that does not matter
abbrev pub tree_with : TreePages → List ℕ → Tree
tree_with pages roots = record { table = pages.table.now; roots = roots; used = pages.used }

abbrev pub tree_of_pages : TreePages → Tree
tree_of_pages pages = rootless pages.table.now pages.used

abbrev pub InUse : TreeUse → ℕ → Type 0
InUse used page = in_use used page ≡ true

-- The table has the pages in use and those that a call takes, so many of them
pub record HasPages (table : List ℕ) (used : TreeUse) (made : ℕ) : Type 0 where
  pub inside : pages_after used made * page_words ≤ length table

-- What a call that takes pages relies on
pub record Takes (used : TreeUse) : Type 0 where
  pub used_few : used.pages ≤ page_limit
