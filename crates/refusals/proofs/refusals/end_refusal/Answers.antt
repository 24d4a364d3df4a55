use native.Mathlib.Omega.{arith}
use mathlib.Core.Path.{refl, ap₂, sym, ◌∙◌}
use Rattle.store.specs.declared.types.TreeName.TheVariants.{Ends, Time}
use Rattle.store.specs.Lending.{store_seen}
use Rattle.store.specs.Calls.{end}
use Rattle.store.specs.Writing.{point_of, time_at_end}
use Rattle.store.proofs.ArgumentFacts.{end_tick}
use Rattle.store.proofs.RefusedNumbers.{numbered}
use Rattle.refusals.specs.Grounds.{lower_of}
use Rattle.refusals.proofs.FoundPasses.{found_facts}
use Rattle.store.proofs.Refusing.{told_on}
use Rattle.refusals.proofs.RefusalParts.{by_arguments, by_fit, known_head, by_known, by_entries}
use Rattle.refusals.proofs.EndParts.{end_state, not_missing, end_pages}
use Rattle.refusals.proofs.refusals.end_refusal.Goals as goal

pub returns-in_err-end_input : goal.returns-in_err-end_input
returns-in_err-end_input c = λ number is.
    told_on _ c.from_residual.result c.from_residual.ensures.1
    ∙ by_arguments (store_seen c.args.store.now) (end c.args.tick number) refl c.in_err-end_input.ensures (numbered _)

pub returns-in_err-head_refusal : goal.returns-in_err-head_refusal
returns-in_err-head_refusal c = λ number is.
    told_on _ c.from_residual-in_err-head_refusal.result c.from_residual-in_err-head_refusal.ensures.1
    ∙ by_fit (store_seen c.args.store.now) (end c.args.tick number) refl c.in_ok-end_input.ensures c.in_err-head_refusal.ensures (numbered _)

pub returns-in_err-end_state : goal.returns-in_err-end_state
returns-in_err-end_state c = λ number is.
    let s = store_seen c.args.store.now in
    told_on _ c.from_residual-in_err-end_state.result c.from_residual-in_err-end_state.ensures.1
    ∙ by_known s (end c.args.tick number) refl c.in_ok-end_input.ensures c.in_ok-head_refusal.ensures
    (end_state s c.args.tick number c.in_err-end_state.ensures is)
    (numbered _)

pub returns-in_default : goal.returns-in_default
returns-in_default c = λ number is.
    let s = store_seen c.args.store.now in
    absurd (not_missing s c.args.tick number (sym (end_state s c.args.tick number c.in_ok-end_state.ensures is)) (sym is ∙ c.in_default.is))

pub overflow_cast-found : goal.overflow_cast-found
overflow_cast-found c =
    let s = store_seen c.args.store.now in
    let fit = known_head s (end c.args.tick c.requires.0) refl c.in_ok-end_input.ensures c.in_ok-head_refusal.ensures in
    omega (arith, (found_facts s.head c.requires.0 fit.passes (sym c.requires.1 ∙ c.in-Some.is)).key)

pub planned_refusal-one-requires : goal.planned_refusal-one-requires
planned_refusal-one-requires c =
    record {
      use_fits = (known_head (store_seen c.args.store.now) (end c.args.tick c.requires.0) refl c.in_ok-end_input.ensures c.in_ok-head_refusal.ensures).trees Ends;
      tick_lt_open_end = end_tick c.args.tick c.requires.0 (omega (arith, c.ranges.tick.fits)) (sym c.in_ok-end_input.ensures);
    }

pub overflow_cast-found-2 : goal.overflow_cast-found-2
overflow_cast-found-2 c =
    let s = store_seen c.args.store.now in
    let fit = known_head s (end c.args.tick c.requires.0) refl c.in_ok-end_input.ensures c.in_ok-head_refusal.ensures in
    omega (arith, (found_facts s.head c.requires.0 fit.passes (sym c.requires.1 ∙ c.in-Some.is)).key)

pub planned_refusal-other-requires : goal.planned_refusal-other-requires
planned_refusal-other-requires c =
    record {
      use_fits = (known_head (store_seen c.args.store.now) (end c.args.tick c.requires.0) refl c.in_ok-end_input.ensures c.in_ok-head_refusal.ensures).trees Time;
      tick_lt_open_end = end_tick c.args.tick c.requires.0 (omega (arith, c.ranges.tick.fits)) (sym c.in_ok-end_input.ensures);
    }

pub returns : goal.returns
returns c = λ number is.
    let s = store_seen c.args.store.now in
    let pass = c.in-Some.found.pass in
    by_entries s (end c.args.tick number) refl c.in_ok-end_input.ensures c.in_ok-head_refusal.ensures (end_state s c.args.tick number c.in_ok-end_state.ensures is)
    (c.lower_refusal.ensures
    ∙ ap₂ lower_of (c.planned_refusal-one.ensures (point_of c.args.tick pass.key pass.weight).value) (c.planned_refusal-other.ensures (time_at_end c.args.tick pass.key pass.weight).value)
    ∙ sym (end_pages s c.args.tick number (sym is ∙ c.in-Some.is)))
