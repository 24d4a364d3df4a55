-- A lookup on its way down: what it has already, the page that it opened, and what this leads to.
use Rattle.std.specs.Prelude.{ℕ, zero, suc, ◌+◌, ◌<◌, Result, Ok, Err}
use Rattle.words.specs.Words.{key_limit}
use Rattle.words.specs.declared.value.Value.{Value}
use Rattle.words.specs.Value.{plus}
use Rattle.words.specs.Value as value
use Rattle.tree.specs.declared.types.Row.{Row}
use Rattle.tree.specs.declared.types.Held.{Held}
use Rattle.tree.specs.declared.types.SpoiledPage.{SpoiledPage}
use Rattle.tree.specs.declared.types.Lookup.{Lookup}
use Rattle.tree.specs.Tree.{Tree}
use Rattle.tree.specs.Lookup.{found, with_below, lookup_from}
use Rattle.roots.specs.declared.top.Top.{Top}

-- What a lookup answers that has a total and a number of pages opened already, and the rest before it
abbrev pub onward : Value → ℕ → Result Lookup SpoiledPage → Result Lookup SpoiledPage
onward total pages (Err e) = Err e
onward total pages (Ok rest) = found (plus total rest.value) (pages + rest.pages)

-- The key range of the row found has a key
abbrev pub Wide : Result Held SpoiledPage → Type 0
Wide (Err e) = Unit {0}
Wide (Ok held) = held.row.low < held.row.high

-- The lookup from a page of a level, by what it has
abbrev pub below : Tree → (t k level : ℕ) → Row → Result Lookup SpoiledPage
below tree t k zero = λ (row : Row). found value.zero 0
below tree t k (suc l) = λ (row : Row). lookup_from tree t k l row.low row.high row.child

abbrev pub lookup_held : Tree → (t k level : ℕ) → Result Held SpoiledPage → Result Lookup SpoiledPage
lookup_held tree t k level h = with_below (below tree t k level) h

-- The lookup from where it starts
abbrev pub lookup_top : Tree → ℕ → ℕ → Result Top SpoiledPage → Result Lookup SpoiledPage
lookup_top tree t k (Err e) = Err e
lookup_top tree t k (Ok top) = lookup_from tree t k top.level 0 key_limit top.page
