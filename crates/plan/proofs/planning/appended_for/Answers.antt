use mathlib.Core.Path.{sym}
use Rattle.plan.proofs.PlanReads.{in_words, altered, replaced}
use Rattle.plan.proofs.planning.appended_for.Goals as goal

pub row_at-row-requires : goal.row_at-row-requires
row_at-row-requires c = let a = c.args in in_words a.t a.words.now c.in-Some.is
    c.requires

pub returns-then-row-t : goal.returns-then-row-t
returns-then-row-t c = let a = c.args in sym
    (altered a.t a.words.now c.in-Some.is c.row_at-row.ensures
    c.if-row-t.true)

pub returns : goal.returns
returns c = let a = c.args in sym
    (replaced a.t a.words.now c.in-Some.is c.row_at-row.ensures
    c.if-row-t.false)
