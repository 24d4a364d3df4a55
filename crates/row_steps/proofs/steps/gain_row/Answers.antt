use mathlib.Core.Path.{ap, sym, ◌∙◌}
use Rattle.row_steps.specs.PageEdits.{gain_words}
use Rattle.row_steps.proofs.steps.gain_row.Goals as goal

pub gain_at-requires : goal.gain_at-requires
gain_at-requires c =
    record {
      place_bound = rw c.in-Some.is at c.requires.within;
      page_in_bounds = c.requires.page_in_bounds;
    }

pub returns-in-Some : goal.returns-in-Some
returns-in-Some c = c.gain_at.ensures ∙ ap (gain_words c.args.t c.args.value c.args.page.now) (sym c.in-Some.is)

pub returns-in_default : goal.returns-in_default
returns-in_default c = ap (gain_words c.args.t c.args.value c.args.page.now) (sym c.in_default.is)
