use mathlib.Core.Path.{ap, sym, ◌∙◌}
use Rattle.row_steps.specs.PageEdits.{link_words}
use Rattle.row_steps.proofs.steps.link_row.Goals as goal

pub returns-in-Stays : goal.returns-in-Stays
returns-in-Stays c = ap (link_words c.args.t c.args.page.now c.args.place c.args.old) (sym c.in-Stays.is)

pub returns-in-Copied : goal.returns-in-Copied
returns-in-Copied c = rw (c.replace_row.ensures, c.linked_row.ensures) (ap (link_words c.args.t c.args.page.now c.args.place c.args.old) (sym c.in-Copied.is))

pub returns-in-Halved : goal.returns-in-Halved
returns-in-Halved c = c.link_halves.ensures ∙ ap (link_words c.args.t c.args.page.now c.args.place c.args.old) (sym c.in-Halved.is)
