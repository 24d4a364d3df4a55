use mathlib.Core.Path.{ap, sym, ◌∙◌}
use native.Mathlib.Omega.{arith}
use Rattle.row_steps.specs.PageEdits.{leaf_words}
use Rattle.std.specs.declared.option.Option.{Option}
use Prim.Native.Nat.{ℕ}
use Rattle.row_steps.proofs.steps.edit_leaf.Goals as goal

pub cut_at-requires : goal.cut_at-requires
cut_at-requires c =
    record {
      place_bound = rw c.in-Some.is at c.requires.within;
      page_in_bounds = c.requires.page_in_bounds;
    }

pub gain_row-requires : goal.gain_row-requires
gain_row-requires c =
    record {
      within = c.requires.within_2;
      page_in_bounds = omega arith;
    }

pub returns-in-Some : goal.returns-in-Some
returns-in-Some c = c.cut_at.ensures ∙ ap (λ (i : Option ℕ). leaf_words c.args.t c.args.k c.args.value c.args.page.now i c.args.gain) (sym c.in-Some.is)

pub returns-in-None : goal.returns-in-None
returns-in-None c = c.gain_row.ensures ∙ ap (λ (i : Option ℕ). leaf_words c.args.t c.args.k c.args.value c.args.page.now i c.args.gain) (sym c.in-None.is)
