-- Past stays, page by page: each page on the path of a lookup shows a reader at its tick the same after any number of later points.
-- It is said of the pages on a path, and not of all pages that are in use at some time.
use Prim.Native.Nat.{ℕ, ◌<◌, ◌≤◌}
use mathlib.Core.Path.{refl, sym, subst, ◌∙◌}
use mathlib.Core.List.{List}
use Rattle.words.specs.Lists.{All}
use Rattle.words.specs.Words.{key_limit, open_end}
use Rattle.words.proofs.Measure.{count_of, count_measure}
use Rattle.tree.specs.Taking.{InUse}
use Rattle.tree.specs.Tree.{Tree, level_of, root_at, page_at}
use Rattle.tree.specs.RowSteps.{Point}
use Rattle.tree.specs.Path.{path}
use Rattle.tree.specs.Alike.{LookAlike}
use Rattle.tree.specs.Row.{word}
use Rattle.tree.proofs.GrownStates.{Version}
use Rattle.tree.proofs.View.{view_table}
use Rattle.tree.proofs.TreeViews.{page_of}
use Rattle.tree.proofs.HeldPaths.{held_path, path_in_use}
use Rattle.tree.proofs.Growth.{numbers, TreeKept, counts}

-- Each page on the path of a lookup is in use, and was born by its tick (page word 3)
pub path_used : (tree : Tree) (points : List Point) → TreeKept tree points → (t k : ℕ) → t < open_end → k < key_limit
    → All (λ (x : ℕ). InUse tree.used x × (word (page_at tree.table x) 3 ≤ t)) (path tree t k)
path_used tree points kept t k tick key =
    subst (All (λ (x : ℕ). InUse tree.used x × (word (page_at tree.table x) 3 ≤ t)))
    (sym (held_path count_of count_measure tree kept.words t k tick key n from version.tree refl refl version.held))
    (path_in_use n (view_table count_of tree.table) (InUse tree.used) t k 0 key_limit from version.tree version.held)
  where
    from : ℕ
    from = page_of (root_at tree t)

    n : ℕ
    n = level_of tree.table (page_of (root_at tree t))

    version : Version (view_table count_of tree.table) (InUse tree.used) t (λ q. numbers count_of t q points) (page_of (root_at tree t))
    version = (counts kept).versions t tick

-- Pages that look alike
pub look_same : (t : ℕ) (page : List ℕ) → LookAlike t page page
look_same t page = record { level = refl; range = refl; rows = refl }

pub look_on : (t : ℕ) {a b c : List ℕ} → LookAlike t a b → LookAlike t b c → LookAlike t a c
look_on t f g = record { level = f.level ∙ g.level; range = f.range ∙ g.range; rows = f.rows ∙ g.rows }
