-- What a tree uses: the pages in use, the pages that a call takes, and the use afterwards. The definitions that reckon with page numbers are
-- shut: proofs/UseLaws says what may be relied on, and only trials that compute open them besides.
use Rattle.std.specs.Prelude.{ℕ, ◌+◌, Bool, ltb}
use Rattle.tree.specs.declared.types.TreeUse.{TreeUse}
use Rattle.tree.specs.declared.types.RootChange.{RootChange}
use Rattle.tree.specs.declared.types.RootChange.TheVariants.{Kept, Added, Replaced}

-- "at most 1,000,000 of them": the pages that a tree may use
abbrev pub page_limit : ℕ
page_limit = 1000000

-- A page that is met must be in use: "page number not below pages used" is a ground for 26
unfoldable pub in_use : TreeUse → ℕ → Bool
in_use used page = ltb page used.pages

-- The i-th page that a call takes, counted from 0: "Pages are taken in ascending order"
unfoldable pub taken_page : TreeUse → ℕ → ℕ
taken_page used i = used.pages + i

-- Pages used after a call that took so many
unfoldable pub pages_after : TreeUse → ℕ → ℕ
pages_after used made = used.pages + made

-- Root entries used after a change of the root list
abbrev pub roots_after : RootChange → ℕ → ℕ
roots_after Kept roots = roots
roots_after Added roots = roots + 1
roots_after Replaced roots = roots

abbrev pub use_after : TreeUse → ℕ → RootChange → TreeUse
use_after used made change = record { pages = pages_after used made; roots = roots_after change used.roots }

-- Opening uses "page 0 .. and the first root entry"
abbrev pub opened_use : TreeUse
opened_use = record { pages = 1; roots = 1 }
