-- A tree grown from opening by points that were entered one after the other, in order of time, each with room for it.
use Rattle.std.specs.Prelude.{ℕ, ◌≤◌, ◌<◌, ◌≡◌, List, [], ◌∷◌, length}
use Rattle.words.specs.Words.{key_limit, open_end}
use Rattle.tree.specs.Row.{page_words}
use Rattle.tree.specs.declared.types.RootChange.{RootChange}
use Rattle.tree.specs.declared.types.RootChange.TheVariants.{Added}
use Rattle.tree.specs.Tree.{Tree, pages_left}
use Rattle.tree.specs.RowSteps.{Point}
use Rattle.tree.specs.Plan.{ready, plan, enter}
use Rattle.tree.specs.Opened.{opened_tree}

-- Of a page table and a root list, the tree that they hold after opening and after these points. The newest point comes first.
unfoldable pub grow : List ℕ → List ℕ → List Point → Tree
grow table roots [] = opened_tree table roots
grow table roots (p ∷ points) = enter (grow table roots points) p

-- The tick of the newest point; 0 at opening
abbrev pub last_tick : List Point → ℕ
last_tick [] = 0
last_tick (p ∷ points) = p.tick

-- A point that a tree may take after that tick: a tick that is no earlier, and a key
pub record InTime (last : ℕ) (p : Point) : Type 0 where
  pub later : last ≤ p.tick
  pub tick : p.tick < open_end
  pub key : p.key < key_limit

-- Points in order of time
abbrev pub InOrder : List Point → Type 0
InOrder [] = Unit {0}
InOrder (p ∷ points) = InTime (last_tick points) p × InOrder points

-- The plan for the point does not meet a spoiled page, the pages that it makes are left, and a new root entry finds a place in the list:
-- none of 26, 27 and 28
pub record Room (tree : Tree) (p : Point) : Type 0 where
  pub made : ℕ
  pub root : RootChange
  pub planned : plan tree p ≡ ready made root
  pub pages : made ≤ pages_left tree
  pub place : root ≡ Added → tree.used.roots < length tree.roots

-- The table and the list may be opened, and each point could be entered when it was
abbrev pub Admitted : List ℕ → List ℕ → List Point → Type 0
Admitted table roots [] = (page_words ≤ length table) × (1 ≤ length roots)
Admitted table roots (p ∷ points) = InTime (last_tick points) p × Room (grow table roots points) p × Admitted table roots points
