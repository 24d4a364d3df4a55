use mathlib.Core.Path.{ap, sym, ◌∙◌}
use lib.ListN.{length}
use Rattle.tree.proofs.TableLaws.{page_length}
use Rattle.tree.proofs.UseLaws.{in_use_inside}
use Rattle.live.proofs.test.open_page.Goals as goal

pub page_at-requires : goal.page_at-requires
page_at-requires c =
    let a = c.args in
    in_use_inside a.tree.used a.expected.page a.tree.table.now (sym c.in_use.ensures ∙ c.if-in_use.true) a.tree.page_words_in_bounds

pub list_tested-requires-clause-page_len : goal.list_tested-requires-clause-page_len
list_tested-requires-clause-page_len c =
    let a = c.args in
    let inside = in_use_inside a.tree.used a.expected.page a.tree.table.now (sym c.in_use.ensures ∙ c.if-in_use.true) a.tree.page_words_in_bounds in
    ap length c.page_at.ensures ∙ page_length a.tree.table.now a.expected.page inside
