use Rattle.live.proofs.survey.survey_live.Goals as goal

pub returns : goal.returns
returns c = rw (c.find_place-inner.ensures, c.find_place-gain.ensures)
