use mathlib.Core.Path.{sym, ◌∙◌}
use Rattle.ranges.proofs.search.holder.Goals as goal

pub returns-then-holds_key : goal.returns-then-holds_key
returns-then-holds_key c = rw (sym c.holds_key.ensures ∙ c.if-holds_key.true)

pub returns : goal.returns
returns c = rw (sym c.holds_key.ensures ∙ c.if-holds_key.false)
