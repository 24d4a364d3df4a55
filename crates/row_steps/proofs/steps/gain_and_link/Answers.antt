use native.Mathlib.Omega.{arith}
use mathlib.Core.Path.{ap₂, ◌∙◌}
use mathlib.Core.List.{List}
use Prim.Native.Nat.{ℕ}
use Rattle.tree.specs.declared.types.Row.{Row}
use Rattle.row_steps.specs.PageEdits.{link_words}
use Rattle.row_steps.proofs.EditSizes.{gain_grown}
use Rattle.row_steps.proofs.steps.gain_and_link.Goals as goal

pub link_row-requires : goal.link_row-requires
link_row-requires c =
    let a = c.args in
    let grown = gain_grown a.t a.value a.page.now a.gain c.requires.change_within.1 (omega arith) in rw c.gain_row.ensures (record {
      place_bound = omega (arith, c.requires.change_within.0, grown.least);
      page_in_bounds = omega (arith, c.requires.most_appended_in_bounds, grown.size, grown.rows);
    })

pub returns : goal.returns
returns c =
    let a = c.args in
    c.link_row.ensures ∙ ap₂ (λ (w : List ℕ) (r : Row). link_words a.t w a.place r a.became) c.gain_row.ensures c.row_at-row.ensures
