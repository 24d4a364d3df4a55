use mathlib.Core.Path.{refl, sym, ◌∙◌}
use Rattle.store.specs.Refusals.{first_met}
use Rattle.refusals.proofs.refusals.head_refusal.Goals as goal

pub returns-then-head_fits : goal.returns-then-head_fits
unfolding first_met
returns-then-head_fits c = rw (sym c.head_fits.ensures ∙ c.if-head_fits.true) refl

pub returns : goal.returns
unfolding first_met
returns c = rw (sym c.head_fits.ensures ∙ c.if-head_fits.false) refl
