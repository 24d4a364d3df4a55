use native.Mathlib.Omega.{arith}
use mathlib.Core.Path.{◌≡◌, ap, ◌∙◌}
use Rattle.words.proofs.OverwriteLaws.{overwrite_one}
use Rattle.tree.specs.Opened.{first_page}
use Rattle.page.specs.PageValue.{encode_page}
use Rattle.tree.specs.Tree.{put_page}
use Rattle.opening.proofs.OpeningPage.{first_page_lem}
use Rattle.opening.proofs.opening.open_tree.Goals as goal

pub with_row-requires : goal.with_row-requires
with_row-requires c = rw c.empty.ensures (omega arith)

pub put_page-requires : goal.put_page-requires
put_page-requires c =
    record {
      page_words_in_bounds = omega arith;
      count_le_row_limit = rw (c.with_row.ensures, c.empty.ensures) (omega arith);
    }

pub returns-clause-table_after : goal.returns-clause-table_after
returns-clause-table_after c =
    let page : encode_page c.with_row.result ≡ first_page = rw (c.with_row.ensures, c.empty.ensures, c.new_row-row.ensures, c.zero.ensures) first_page_lem in
    c.put_page.ensures ∙ ap (put_page c.args.tree.now.table.now 0) page

pub returns-clause-roots_after : goal.returns-clause-roots_after
returns-clause-roots_after c = rw c.root_entry.ensures (overwrite_one c.args.tree.now.roots.now 0 0 (omega arith))
