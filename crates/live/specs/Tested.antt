-- What the test of a page leaves: a spoiled page, or the live rows of a sound one; and what these have for a key.
use Rattle.std.specs.Prelude.{◌≡◌, ℕ, ◌+◌, ◌*◌, ◌≤◌, List, Bool, true, false, cond, length, take, Result, Ok, Err}
use Rattle.tree.specs.declared.types.Held.{Held}
use Rattle.tree.specs.declared.types.SpoiledPage.{SpoiledPage}
use Rattle.tree.specs.Spoiled.{spoiled}
use Rattle.tree.specs.Row.{word, rows_of, row_limit, page_words}
use Rattle.tree.specs.TrueValue.{holding_row, held_as}
use Rattle.tree.specs.Tree.{Tree, page_at, met_at}
use Rattle.live.specs.LiveRows.{Listed, AllIn}
use Rattle.live.specs.LiveHeld.{held_among}

-- A page passed its test or not, and if so its live rows at t are listed
abbrev pub TestedAs : Bool → (t : ℕ) → (page ranges places : List ℕ) → Result ℕ SpoiledPage → Type 0
TestedAs sound t page ranges places (Err e) = sound ≡ false
TestedAs sound t page ranges places (Ok count) = (sound ≡ true) × Listed t page (word page 1) ranges places count

-- The page lies in the table, the arrays have its live rows listed, and these lie in the page
abbrev pub ListsFit : (table : List ℕ) → (page : ℕ) → (ranges places : List ℕ) → Result ℕ SpoiledPage → Type 0
ListsFit table page ranges places (Err e) = Unit {0}
ListsFit table page ranges places (Ok count) =
    (page * page_words + page_words ≤ length table)
    × (count ≤ row_limit)
    × (count ≡ length (take count ranges))
    × (count ≡ length (take count places))
    × AllIn (page_at table page) (take count places)

-- What the rows listed have for k
abbrev pub held_tested : (table : List ℕ) → (page : ℕ) → (ranges places : List ℕ) → (k : ℕ) → Result ℕ SpoiledPage → Result Held SpoiledPage
held_tested table page ranges places k (Err e) = Err e
held_tested table page ranges places k (Ok count) = held_among (page_at table page) (take count ranges) (take count places) k

-- What a page that is met at t as one of this level and key range has for (t, k)
abbrev pub opened : Tree → (t k level low high page : ℕ) → Result Held SpoiledPage
opened tree t k level low high page =
    cond (met_at tree t level low high page) (held_as t (rows_of (page_at tree.table page)) (holding_row t k (rows_of (page_at tree.table page)))) spoiled
