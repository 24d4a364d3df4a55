-- The whole entry as the code does it: what it asks of a plan, and what it answers and leaves.
use Rattle.std.specs.Prelude.{ℕ, ◌≤◌, ◌<◌, ◌≡◌, List, [], length}
use Rattle.tree.specs.declared.types.TreeUse.{TreeUse}
use Rattle.tree.specs.declared.types.RootChange.{RootChange}
use Rattle.tree.specs.declared.types.RootChange.TheVariants.{Added}
use Rattle.tree.specs.Use.{page_limit}
use Rattle.tree.specs.Taking.{HasPages, Takes}
use Rattle.tree.specs.Tree.{Tree, last_root}
use Rattle.tree.specs.RowSteps.{Point}
use Rattle.tree.specs.Enter.{with_root}
use Rattle.tree.specs.Plan.{ready, plan, enter}
use Rattle.tree.specs.Limits.{most_made}
use Rattle.words.specs.Words.{root_birth}

-- A root list and a use, where the table does not matter
abbrev pub root_tree : List ℕ → TreeUse → Tree
root_tree roots used = record { table = []; roots = roots; used = used }

-- There is a last entry, and a place for a new one where that was not born at t
pub record CanPut (roots : List ℕ) (used : TreeUse) (made t : ℕ) : Type 0 where
  pub some : 1 ≤ used.roots
  pub inside : used.roots ≤ length roots
  pub place : (root_birth (last_root (root_tree roots used)) ≡ t → ⊥) → used.roots < length roots
  pub takes : Takes used
  pub roots_few : used.roots ≤ page_limit
  pub made_few : made ≤ most_made

pub record RootPut (roots : List ℕ) (used : TreeUse) (made page t : ℕ) (after : List ℕ) (r : TreeUse) : Type 0 where
  pub list : after ≡ (with_root (root_tree roots used) t page [] made).tree.roots
  pub use_is : r ≡ (with_root (root_tree roots used) t page [] made).tree.used

-- An entry that the plan allows and that finds room: what refusals 20 and 26 to 28 leave
pub record Planned (tree : Tree) (p : Point) : Type 0 where
  pub made : ℕ
  pub change : RootChange
  pub plan_is : plan tree p ≡ ready made change
  pub room : HasPages tree.table tree.used made
  pub place : change ≡ Added → tree.used.roots < length tree.roots
  pub some : 1 ≤ tree.used.roots
  pub inside : tree.used.roots ≤ length tree.roots
  pub takes : Takes tree.used
  pub roots_few : tree.used.roots ≤ tree.used.pages

-- The table, the root list and the use afterwards
pub record EnteredAs (tree : Tree) (p : Point) (table roots : List ℕ) (r : TreeUse) : Type 0 where
  pub table_is : table ≡ (enter tree p).table
  pub roots_are : roots ≡ (enter tree p).roots
  pub use_is : r ≡ (enter tree p).used
