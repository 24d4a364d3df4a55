-- How much one entry may do, as the code's arrays and sums need it.
use Rattle.std.specs.Prelude.{ℕ, ◌+◌, ◌*◌}
use Rattle.tree.specs.Row.{row_limit}
use Rattle.tree.specs.Tree.{top_level}

-- The rows that one entry may append to a page: step 3's row, then step 7's lower and upper one
abbrev pub most_appended : ℕ
most_appended = 3

-- The rows that a page may so get; where it has more than 64 of them, it overflows
abbrev pub most_rows : ℕ
most_rows = row_limit + most_appended

-- The pages that one entry may make: two for each page below the top level, and one more, which is the copy of a root at the top level or the
-- new root over two halves
abbrev pub most_made : ℕ
most_made = 2 * top_level + 1
