-- A page as a value, and the words that it stands for: what the code builds before it writes a page whole.
use Rattle.std.specs.Prelude.{ℕ, ◌+◌, List, replicate, take, set}
use Rattle.words.specs.Words.{key_limit}
use Rattle.words.specs.Value.{zero}
use Rattle.tree.specs.declared.types.Row.{Row}
use Rattle.tree.specs.Row.{row_limit}
use Rattle.tree.specs.Fresh.{fresh_page, new_row}
use Rattle.page.specs.declared.fresh.Page.{Page}

-- Its rows are those in its first `count` places
abbrev pub page_rows : Page → List Row
page_rows p = take p.count p.rows

abbrev pub no_row : Row
no_row = record { low = 0; high = 0; child = 0; birth = 0; end = 0; value = zero }

unfoldable pub no_rows : List Row
no_rows = replicate row_limit no_row

abbrev pub empty_page : (level low high birth : ℕ) → Page
empty_page level low high birth = record { level = level; low = low; high = high; birth = birth; count = 0; rows = no_rows }

abbrev pub with_row : Page → Row → Page
with_row p r =
    record { level = p.level; low = p.low; high = p.high; birth = p.birth; count = p.count + 1; rows = set p.rows p.count r }

abbrev pub two_row_root : (level birth middle lower upper : ℕ) → Page
two_row_root level birth middle lower upper =
    with_row (with_row (empty_page level 0 key_limit birth) (new_row birth 0 middle lower zero)) (new_row birth middle key_limit upper zero)

-- The words that a page value stands for
abbrev pub encode_page : Page → List ℕ
encode_page p = fresh_page p.level p.low p.high p.birth (page_rows p)
