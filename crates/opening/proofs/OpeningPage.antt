-- The first page of a tree as the code builds it.
use mathlib.Core.Path.{◌≡◌, refl}
use Rattle.words.specs.Words.{key_limit}
use Rattle.words.specs.Value.{zero}
use Rattle.tree.specs.Fresh.{new_row}
use Rattle.tree.specs.Opened.{first_page}
use Rattle.page.specs.PageValue.{no_rows, empty_page, with_row, encode_page}

pub first_page_lem : encode_page (with_row (empty_page 0 0 key_limit 0) (new_row 0 0 key_limit 0 zero)) ≡ first_page
unfolding no_rows
first_page_lem = refl
