use Prim.Native.Nat.{ℕ}
use mathlib.Core.Path.{ap, ◌∙◌}
use mathlib.Core.List.{List}
use Rattle.std.specs.Prelude.{Ok}
use Rattle.plan.specs.PlanSteps.{met_survey}
use Rattle.plan.proofs.PlanReads.{met_spoiled, met_sound, sound_inside, gain_in_lem, inner_in}
use Rattle.std.proofs.lemmas.Result.{err_from_is_err_and}
use Rattle.plan.proofs.planning.meet_page.Goals as goal

pub returns-in_err-survey : goal.returns-in_err-survey
returns-in_err-survey c =
    let a = c.args in
    let p = err_from_is_err_and c.from_residual.result c.from_residual.ensures.1 in
    rw p.1 (met_spoiled a.tree a.t a.k a.expected c.in_err-survey.ensures)

pub page_at-requires : goal.page_at-requires
page_at-requires c =
    let a = c.args in
    sound_inside a.tree a.t a.k a.expected c.in_ok-survey.ensures

pub meet_words-requires : goal.meet_words-requires
meet_words-requires c =
    let a = c.args in
    let is = c.in_ok-survey.ensures in
    record {
      in_words = rw c.page_at.ensures (gain_in_lem a.tree a.t a.k a.expected is);
      in_words_2 = rw c.page_at.ensures (inner_in a.tree a.t a.k a.expected is);
    }

pub returns : goal.returns
returns c =
    let a = c.args in
    ap Ok (c.meet_words.ensures ∙ ap (λ (w : List ℕ). met_survey a.t w c.in_ok-survey.survey) c.page_at.ensures)
    ∙ met_sound a.tree a.t a.k a.expected c.in_ok-survey.ensures
