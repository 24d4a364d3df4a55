-- Where a lookup stands that has opened the page of its root, and what it comes to.
use Rattle.std.specs.Prelude.{ℕ, ◌≤◌, ◌≡◌, Result, Ok, Err}
use Rattle.tree.specs.declared.types.Held.{Held}
use Rattle.tree.specs.declared.types.Lookup.{Lookup}
use Rattle.tree.specs.declared.types.SpoiledPage.{SpoiledPage}
use Rattle.tree.specs.Tree.{Tree}
use Rattle.roots.specs.declared.top.Top.{Top}
use Rattle.lookup.specs.Descent.{Wide, lookup_held, lookup_top}

-- What the page has where a descent starts leads to what the lookup from there answers
abbrev pub Begins : Tree → (t k : ℕ) → Result Top SpoiledPage → (level : ℕ) → Result Held SpoiledPage → Type 0
Begins tree t k top level h = Wide h × (lookup_held tree t k level h ≡ lookup_top tree t k top)

-- What was found in its place leads to the same answer, at any tick and for any key
abbrev pub LeadsTo : Tree → (level : ℕ) → Result Held SpoiledPage → (level' : ℕ) → Result Held SpoiledPage → Type 0
LeadsTo tree level h level' h' = (Wide h → Wide h') × ((t k : ℕ) → lookup_held tree t k level' h' ≡ lookup_held tree t k level h)

-- A lookup opens no more pages than there are levels
abbrev pub FewPages : Result Lookup SpoiledPage → Type 0
FewPages (Err e) = Unit {0}
FewPages (Ok found) = found.pages ≤ 4
