use Rattle.tree.proofs.Main.{fits_takes}
use Rattle.refusals.proofs.HeadFacts.{use_words}
use Rattle.refusals.proofs.refusals.planned_refusal.Goals as goal

pub invariant_of-tree : goal.invariant_of-tree
invariant_of-tree c = record { page_words_in_bounds = use_words c.requires.use_fits }

pub entry_refusal-requires : goal.entry_refusal-requires
entry_refusal-requires c =
    record {
      pages_bound = c.requires.use_fits.pages_held;
      takes = fits_takes c.requires.use_fits;
    }

pub returns : goal.returns
returns c = λ value. rw (← c.plan-plan.ensures value) c.entry_refusal.ensures
