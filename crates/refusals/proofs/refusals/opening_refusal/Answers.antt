use mathlib.Core.Path.{sym, ◌∙◌}
use Rattle.store.specs.declared.types.TreeName.TheVariants.{Starts, Ends, Time}
use Rattle.refusals.proofs.OpeningParts.{one_small, none_small}
use Rattle.refusals.proofs.refusals.opening_refusal.Goals as goal

pub returns-then-too_small : goal.returns-then-too_small
returns-then-too_small c = λ head. one_small _ Starts (sym c.too_small.ensures ∙ c.if-too_small.true)

pub returns-then-too_small-2 : goal.returns-then-too_small-2
returns-then-too_small-2 c = λ head. one_small _ Ends (sym c.too_small-2.ensures ∙ c.if-too_small-2.true)

pub returns-then-too_small-3 : goal.returns-then-too_small-3
returns-then-too_small-3 c = λ head. one_small _ Time (sym c.too_small-3.ensures ∙ c.if-too_small-3.true)

pub returns : goal.returns
returns c = λ head.
    none_small _ (sym c.too_small.ensures ∙ c.if-too_small.false) (sym c.too_small-2.ensures ∙ c.if-too_small-2.false)
    (sym c.too_small-3.ensures ∙ c.if-too_small-3.false)
