use mathlib.Core.Path.{◌≡◌}
use mathlib.Core.Bool.{◌&&◌}
use lib.ListN.{drop}
use Rattle.store.specs.Head.{open_passes, passes_fit, numbers_rise}
use Rattle.head.proofs.FitLaws.{fit_from}
use Rattle.head.proofs.fits.passes_fit.Given as goal

abbrev pub invariant-loop-pass : goal.invariant-loop-pass
invariant-loop-pass l = let h = l.fn.head in
    fit_from h.started h.last l.least (drop l.pass-index (open_passes h)) ≡ (passes_fit h.started h.last (open_passes h) && numbers_rise (open_passes h))
