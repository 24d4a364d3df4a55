use native.Mathlib.Omega.{arith}
use mathlib.Core.Path.{ap, sym, ◌∙◌}
use Rattle.row_steps.specs.PageEdits.{change_words}
use Rattle.row_steps.proofs.steps.change_words.Goals as goal

pub edit_leaf-requires : goal.edit_leaf-requires
edit_leaf-requires c = let inside = rw c.in-Leaf.is at c.requires.change_within in
    record {
      within = inside.0;
      within_2 = inside.1;
      page_in_bounds = omega arith;
    }

pub gain_row-requires : goal.gain_row-requires
gain_row-requires c =
    record {
      within = rw c.in-Lowest.is at c.requires.change_within;
      page_in_bounds = omega arith;
    }

pub gain_and_link-requires : goal.gain_and_link-requires
gain_and_link-requires c =
    record {
      change_within = rw c.in-Above.is at c.requires.change_within;
      most_appended_in_bounds = c.requires.most_appended_in_bounds;
    }

pub returns-in-Leaf : goal.returns-in-Leaf
returns-in-Leaf c =
    let a = c.args in
    c.edit_leaf.ensures ∙ ap (change_words a.t a.value a.page.now) (sym c.in-Leaf.is)

pub returns-in-Lowest : goal.returns-in-Lowest
returns-in-Lowest c =
    let a = c.args in
    c.gain_row.ensures ∙ ap (change_words a.t a.value a.page.now) (sym c.in-Lowest.is)

pub returns-in-Above : goal.returns-in-Above
returns-in-Above c =
    let a = c.args in
    c.gain_and_link.ensures ∙ ap (change_words a.t a.value a.page.now) (sym c.in-Above.is)
