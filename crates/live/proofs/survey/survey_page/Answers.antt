use mathlib.Core.Path.{◌∙◌}
use Rattle.live.proofs.LiveReadings.{survey_listed}
use borrow.Author.Rules.{rules}
use Rattle.live.proofs.survey.survey_page.Goals as goal

pub returns : goal.returns
returns c =
    let a = c.args in
    c.survey_live.ensures ∙ survey_listed a.t a.page.now _ _ _ (search rules) c.list_live-count.ensures a.k
