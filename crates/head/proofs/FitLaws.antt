-- One law for each way through the loop that tests the open passes: `fit_from .. least` is what is still to be tested.
use Prim.Native.Nat.{ℕ, ◌≤◌, ◌<◌, ◌+◌}
use native.Mathlib.Numerals.{add-one}
use mathlib.Core.Path.{◌≡◌, refl, ◌∙◌}
use mathlib.Core.Bool.{Bool, true, false, ◌&&◌, and-false}
use mathlib.Core.List.{List, [], ◌∷◌}
use lib.Dec.{leb, leb-zero}
use lib.ListN.{length, get_or, drop}
use Rattle.std.proofs.lemmas.List.{at_drop_more, at_drop_all}
use borrow.Author.Tests.{le-leb, lt-leb}
use Rattle.store.specs.declared.types.OpenPass.{OpenPass}
use Rattle.store.specs.Head.{pass_fits, passes_fit, rises_to, numbers_rise}

-- The first number is not below the least that it may be
abbrev rises_from : ℕ → List OpenPass → Bool
rises_from least [] = true
rises_from least (p ∷ ps) = leb least p.number

-- Each pass fits, and the numbers rise from the least that the first may be
unfoldable pub fit_from : ℕ → ℕ → ℕ → List OpenPass → Bool
fit_from started last least ps = passes_fit started last ps && (rises_from least ps && numbers_rise ps)

rises_next : (number : ℕ) (ps : List OpenPass) → rises_from (number + 1) ps ≡ rises_to number ps
rises_next number [] = refl
rises_next number (p ∷ ps) = rw (add-one number)

module _ (started last : ℕ) where
  -- Any number may be the first
  pub fit_all : (ps : List OpenPass) → fit_from started last 0 ps ≡ (passes_fit started last ps && numbers_rise ps)
  unfolding fit_from
  fit_all [] = refl
  fit_all (p ∷ ps) = rw (leb-zero p.number)

  module _ (least : ℕ) (p : OpenPass) (ps : List OpenPass) where
    cons_next : pass_fits started last p ≡ true → least ≤ p.number → fit_from started last least (p ∷ ps) ≡ fit_from started last (p.number + 1) ps
    unfolding fit_from passes_fit numbers_rise
    cons_next e h = rw (e, le-leb _ _ h, rises_next p.number ps)

    cons_low : p.number < least → fit_from started last least (p ∷ ps) ≡ false
    unfolding fit_from
    cons_low h = rw (lt-leb _ _ h) (and-false (passes_fit started last (p ∷ ps)))

    cons_not : pass_fits started last p ≡ false → fit_from started last least (p ∷ ps) ≡ false
    unfolding fit_from passes_fit
    cons_not e = rw e

  -- The same, where the passes are those from a place on
  module _ (passes : List OpenPass) (least place : ℕ) where
    module _ (d : OpenPass) (more : place < length passes) where
      pub fit_next : pass_fits started last (get_or passes place d) ≡ true → least ≤ (get_or passes place d).number
          → fit_from started last least (drop place passes) ≡ fit_from started last ((get_or passes place d).number + 1) (drop (place + 1) passes)
      fit_next e h = at_drop_more (fit_from started last least) passes place d more ∙ cons_next least _ _ e h

      pub fit_low : (get_or passes place d).number < least → fit_from started last least (drop place passes) ≡ false
      fit_low h = at_drop_more (fit_from started last least) passes place d more ∙ cons_low least _ _ h

      pub fit_not : pass_fits started last (get_or passes place d) ≡ false → fit_from started last least (drop place passes) ≡ false
      fit_not e = at_drop_more (fit_from started last least) passes place d more ∙ cons_not least _ _ e

    pub fit_none : length passes ≤ place → fit_from started last least (drop place passes) ≡ true
    unfolding fit_from passes_fit numbers_rise
    fit_none h = at_drop_all (fit_from started last least) passes place h
