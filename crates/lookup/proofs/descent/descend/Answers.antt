use mathlib.Core.Path.{◌∙◌}
use Rattle.words.specs.Words.{key_limit}
use Rattle.tree.specs.Taking.{tree_of_pages}
use Rattle.lookup.proofs.HeldRanges.{opened_wide}
use Rattle.lookup.proofs.LookupLaws.{way_start}
use Rattle.lookup.proofs.descent.descend.Goals as goal

pub descend_from-requires-clause-wide : goal.descend_from-requires-clause-wide
descend_from-requires-clause-wide c =
    let a = c.args in
    opened_wide (tree_of_pages a.tree) a.t a.k a.top.level 0 key_limit a.top.page c.read_page-held.ensures

pub returns : goal.returns
returns c =
    let a = c.args in
    c.descend_from.ensures ∙ way_start (tree_of_pages a.tree) a.t a.k a.top.level 0 key_limit a.top.page c.zero.ensures c.read_page-held.ensures
