use mathlib.Core.Path.{sym, ◌∙◌}
use native.Mathlib.Omega.{arith}
use Rattle.store.specs.Head.{no_pass, open_passes}
use Rattle.head.proofs.FitLaws.{fit_all, fit_next, fit_low, fit_not, fit_none}
use Rattle.head.proofs.fits.passes_fit.Goals as goal

pub loop-pass-init : goal.loop-pass-init
loop-pass-init c = let h = c.args.head.now in fit_all h.started h.last (open_passes h)

pub returns-then-pass-least : goal.returns-then-pass-least
returns-then-pass-least c = let l = c.loop-pass in sym (fit_low _ _ _ l.least l.pass-index no_pass c.loop-pass-test.true c.if-pass-least.true) ∙ l.invariant

pub returns-then-not-pass_fits : goal.returns-then-not-pass_fits
returns-then-not-pass_fits c = let l = c.loop-pass in
    sym (fit_not _ _ _ l.least l.pass-index no_pass c.loop-pass-test.true (sym c.pass_fits.ensures ∙ c.if-not-pass_fits.true)) ∙ l.invariant

pub loop-pass-preserved : goal.loop-pass-preserved
loop-pass-preserved c = let l = c.loop-pass in
    sym (fit_next _ _ _ l.least l.pass-index no_pass c.loop-pass-test.true (sym c.pass_fits.ensures ∙ c.if-not-pass_fits.false) c.if-pass-least.false) ∙ l.invariant

pub returns : goal.returns
returns c = let l = c.loop-pass in sym (fit_none _ _ (open_passes c.args.head.now) l.least l.pass-index (omega arith)) ∙ l.invariant
