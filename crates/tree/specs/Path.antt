-- "The path of a lookup is the root for t, then from each page above level 0 the child of the row that is live at t and has low key ≤ k < high key."
use Rattle.std.specs.Prelude.{ℕ, zero, suc, List, [], ◌∷◌, Option, Some, None}
use Rattle.tree.specs.Row.{rows_of}
use Rattle.tree.specs.KeyOrder.{Placed}
use Rattle.tree.specs.TrueValue.{Search, none, one, holding_row}
use Rattle.tree.specs.Tree.{Tree, page_at, level_of, root_at}

abbrev pub path_below : (ℕ → List ℕ) → Search Placed → List ℕ
path_below below none = []
path_below below (one x) = below x.row.child

-- From a page of a level down to the leaf
unfoldable pub path_from : (table : List ℕ) → (t k level page : ℕ) → List ℕ
path_from table t k zero page = page ∷ []
path_from table t k (suc l) page = page ∷ path_below (λ (child : ℕ). path_from table t k l child) (holding_row t k (rows_of (page_at table page)))

abbrev pub path_of_root : (table : List ℕ) → (t k : ℕ) → Option ℕ → List ℕ
path_of_root table t k None = []
path_of_root table t k (Some page) = path_from table t k (level_of table page) page

-- The numbers of the pages on the path. "Pages opened is the number of pages on it" (PathLength)
unfoldable pub path : Tree → ℕ → ℕ → List ℕ
path tree t k = path_of_root tree.table t k (root_at tree t)
