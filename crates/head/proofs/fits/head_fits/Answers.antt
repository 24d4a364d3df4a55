use mathlib.Core.Path.{sym, ◌∙◌}
use mathlib.Core.Bool.{and-false}
use borrow.Author.Tests.{le-leb, lt-leb}
use Rattle.store.specs.declared.types.TreeName.TheVariants.{Starts, Ends, Time}
use Rattle.store.specs.Head.{head_fits}
use Rattle.head.proofs.HeadParts.{tree_unfit, passes_decide}
use Rattle.head.proofs.fits.head_fits.Goals as goal

pub returns-then-head-gt-OPEN_LIMIT : goal.returns-then-head-gt-OPEN_LIMIT
unfolding head_fits
returns-then-head-gt-OPEN_LIMIT c = simp (lt-leb _ _ c.if-head-gt-OPEN_LIMIT.true)

pub returns-then-head-gt-PASS_LIMIT : goal.returns-then-head-gt-PASS_LIMIT
unfolding head_fits
returns-then-head-gt-PASS_LIMIT c = simp (lt-leb _ _ c.if-head-gt-PASS_LIMIT.true, and-false)

pub returns-then-not-tree_fits : goal.returns-then-not-tree_fits
returns-then-not-tree_fits c = tree_unfit _ Starts (sym c.tree_fits.ensures ∙ c.if-not-tree_fits.true)

pub returns-then-not-tree_fits-2 : goal.returns-then-not-tree_fits-2
returns-then-not-tree_fits-2 c = tree_unfit _ Ends (sym c.tree_fits-2.ensures ∙ c.if-not-tree_fits-2.true)

pub returns-then-not-tree_fits-3 : goal.returns-then-not-tree_fits-3
returns-then-not-tree_fits-3 c = tree_unfit _ Time (sym c.tree_fits-3.ensures ∙ c.if-not-tree_fits-3.true)

pub returns : goal.returns
returns c =
    c.passes_fit.ensures
    ∙ sym
    (passes_decide _
    (le-leb _ _ c.if-head-gt-OPEN_LIMIT.false)
    (le-leb _ _ c.if-head-gt-PASS_LIMIT.false)
    (sym c.tree_fits.ensures ∙ c.if-not-tree_fits.false)
    (sym c.tree_fits-2.ensures ∙ c.if-not-tree_fits-2.false)
    (sym c.tree_fits-3.ensures ∙ c.if-not-tree_fits-3.false))
