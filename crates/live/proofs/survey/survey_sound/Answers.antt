use mathlib.Core.Path.{ap, ◌∙◌}
use Rattle.std.specs.Prelude.{Ok}
use Rattle.live.proofs.LiveReadings.{met_inside, met_survey_lem}
use Rattle.live.proofs.survey.survey_sound.Goals as goal

pub page_at-words-requires : goal.page_at-words-requires
page_at-words-requires c =
    let a = c.args in
    met_inside a.tree a.t a.expected c.in_ok-count.ensures.0

pub returns : goal.returns
returns c =
    let a = c.args in
    let s = c.in_ok-count.ensures in
    rw s.0 (ap Ok (c.survey_live.ensures ∙ met_survey_lem a.tree a.t a.expected s.0 _ c.page_at-words.ensures _ _ _ s.1 a.k))
