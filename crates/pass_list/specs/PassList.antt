-- The lent list of passes, as the passes of the book.
use Rattle.std.specs.Prelude.{ℕ, ◌^◌, ◌<◌, cond, List, map, take, ◌==◌}
use Rattle.words.specs.Words.{open_end}
use Rattle.store.specs.Passes.{End, still_open, ended_at, Pass}
use Rattle.store.specs.Book.{Book}
use Rattle.pass_list.specs.declared.types.ListedPass.{ListedPass}
use Rattle.pass_list.specs.declared.types.PassBook.{PassBook}

-- "its end or open": the highest number stands for open
abbrev pub end_from : ℕ → End
end_from e = cond (e == open_end) still_open (ended_at e)

abbrev pub pass_of : ListedPass → Pass
pass_of p = record { key = p.key; weight = p.weight; start = p.start; end = end_from p.end }

-- A weight in the list is a number of 32 bits
abbrev pub Light : Pass → Type 0
Light p = p.weight < 2 ^ 32

-- The first passes of the list
abbrev pub passes_in : List ListedPass → ℕ → List Pass
passes_in ps n = map pass_of (take n ps)

abbrev pub book_in : List ListedPass → PassBook → Book
book_in ps b = record { last = b.last; passes = passes_in ps b.started }
