-- The lookup of one tree: "at (t, k) it adds the points with tick ≤ t and key ≤ k, and gives count, weight sum and pages opened".
use Rattle.std.specs.Prelude.{ℕ, zero, suc, ◌+◌, cond, Option, Some, None, Result, Ok, Err}
use Rattle.words.specs.Words.{key_limit}
use Rattle.words.specs.declared.value.Value.{Value}
use Rattle.words.specs.Value.{plus}
use Rattle.words.specs.Value as value
use Rattle.tree.specs.declared.types.Row.{Row}
use Rattle.tree.specs.declared.types.Held.{Held}
use Rattle.tree.specs.TrueValue.{held_in}
use Rattle.tree.specs.declared.types.SpoiledPage.{SpoiledPage}
use Rattle.tree.specs.Spoiled.{spoiled}
use Rattle.tree.specs.declared.types.Lookup.{Lookup}
use Rattle.tree.specs.Use.{in_use}
use Rattle.tree.specs.Tree.{Tree, page_at, level_of, root_at, root_in_use}

-- A total, and the pages opened
abbrev pub found : Value → ℕ → Result Lookup SpoiledPage
found v pages = Ok (record { value = v; pages = pages })

-- A page more on the way, with the true value of its row
abbrev pub plus_page : Value → Result Lookup SpoiledPage → Result Lookup SpoiledPage
plus_page v (Err e) = Err e
plus_page v (Ok below) = found (plus v below.value) (below.pages + 1)

abbrev pub with_below : (Row → Result Lookup SpoiledPage) → Result Held SpoiledPage → Result Lookup SpoiledPage
with_below below (Err e) = Err e
with_below below (Ok held) = plus_page held.value (below held.row)

-- One page of the expected level and key range, and what its holding row leads to
abbrev pub lookup_page : Tree → (t k level low high page : ℕ) → (Row → Result Lookup SpoiledPage) → Result Lookup SpoiledPage
lookup_page tree t k level low high page below =
    cond (in_use tree.used page) (with_below below (held_in t k level low high (page_at tree.table page))) spoiled

-- "A lookup adds the true values of the rows that hold (t, k) from root to leaf." "each page's level is one less than its parent's"
unfoldable pub lookup_from : Tree → (t k level low high page : ℕ) → Result Lookup SpoiledPage
lookup_from tree t k zero low high page = lookup_page tree t k 0 low high page (λ (row : Row). found value.zero 0)
lookup_from tree t k (suc l) low high page =
    lookup_page tree t k (suc l) low high page (λ (row : Row). lookup_from tree t k l row.low row.high row.child)

-- A root has the key range 0 to 30,000 and any level up to 3. "no root for the tick" is a ground for 26.
abbrev pub lookup_root : Tree → ℕ → ℕ → Option ℕ → Result Lookup SpoiledPage
lookup_root tree t k None = spoiled
lookup_root tree t k (Some page) = cond (root_in_use tree page) (lookup_from tree t k (level_of tree.table page) 0 key_limit page) spoiled

unfoldable pub lookup : Tree → ℕ → ℕ → Result Lookup SpoiledPage
lookup tree t k = lookup_root tree t k (root_at tree t)
