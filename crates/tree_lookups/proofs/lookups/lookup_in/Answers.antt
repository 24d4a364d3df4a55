use native.Mathlib.Omega.{arith}
use mathlib.Core.Path.{refl, ap, ap₂, ◌∙◌}
use Rattle.tree.specs.declared.types.TreeUse.{TreeUse}
use Rattle.tree.specs.Lookup.{lookup}
use Rattle.store.specs.Trees.{LentTree}
use Rattle.store.specs.Lending.{tree_of, store_seen}
use Rattle.store.specs.Calls.{lookup_in}
use Rattle.store.proofs.ArgumentFacts.{lookup_bounds}
use Rattle.store.proofs.RefusedNumbers.{numbered}
use Rattle.refusals.proofs.HeadFacts.{use_words}
use Rattle.refusals.proofs.RefusalParts.{arguments_pass}
use Rattle.refusals.proofs.ReadAnswers.{head_refuses}
use Rattle.found_answers.specs.FoundAnswers.{answer_of}
use Rattle.tree_lookups.proofs.LookupAnswers.{lookup_fits, lookup_answered}
use Rattle.tree_lookups.proofs.lookups.lookup_in.Goals as goal

pub returns-in-Err : goal.returns-in-Err
returns-in-Err c = let a = c.args in
    c.from.ensures ∙ head_refuses (store_seen a.store.now) (lookup_in a.tree a.t a.k) refl c.lookup_input.ensures c.in-Err.ensures (numbered _)

pub overflow_cast-k : goal.overflow_cast-k
overflow_cast-k c = let a = c.args in
    let passed = arguments_pass (store_seen a.store.now) (lookup_in a.tree a.t a.k) refl c.lookup_input.ensures c.in_default.ensures refl in
    omega (arith, (lookup_bounds a.tree a.t a.k (omega (arith, c.ranges.t.fits)) passed).key)

pub invariant_of-pages : goal.invariant_of-pages
invariant_of-pages c =
    let a = c.args in
    record { page_words_in_bounds = use_words (lookup_fits (store_seen a.store.now) a.tree a.t a.k c.lookup_input.ensures c.in_default.ensures refl c.lent_to-lent.ensures c.used_by.ensures) }

pub lookup-requires : goal.lookup-requires
lookup-requires c =
    let a = c.args in
    (lookup_fits (store_seen a.store.now) a.tree a.t a.k c.lookup_input.ensures c.in_default.ensures refl c.lent_to-lent.ensures c.used_by.ensures).roots_listed

pub returns : goal.returns
returns c = let a = c.args in
    let s = store_seen a.store.now in
    c.answer_of.ensures
    ∙ ap answer_of (c.lookup.ensures ∙ ap₂ (λ (lent : LentTree) (used : TreeUse). lookup (tree_of lent used) a.t a.k) c.lent_to-lent.ensures c.used_by.ensures)
    ∙ lookup_answered s a.tree a.t a.k c.lookup_input.ensures c.in_default.ensures refl
