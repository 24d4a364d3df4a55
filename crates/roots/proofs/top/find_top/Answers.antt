use native.Mathlib.Omega.{arith}
use mathlib.Core.Path.{ap, sym, ◌∙◌}
use lib.ListN.{length}
use Rattle.tree.proofs.TableLaws.{page_length}
use Rattle.tree.proofs.UseLaws.{in_use_inside}
use Rattle.roots.proofs.top.find_top.Goals as goal

pub page_at-words-requires : goal.page_at-words-requires
page_at-words-requires c =
    let tree = c.args.tree in
    in_use_inside tree.used c.in-Some.page tree.table.now (sym c.in_use.ensures ∙ c.if-not-in_use.false) tree.page_words_in_bounds

pub bounds-words-0 : goal.bounds-words-0
bounds-words-0 c =
    let tree = c.args.tree in
    let inside = in_use_inside tree.used c.in-Some.page tree.table.now (sym c.in_use.ensures ∙ c.if-not-in_use.false) tree.page_words_in_bounds in
    let long = ap length c.page_at-words.ensures ∙ page_length tree.table.now c.in-Some.page inside in
    omega (arith, long)
