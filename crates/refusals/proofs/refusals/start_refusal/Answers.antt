use native.Mathlib.Omega.{arith}
use mathlib.Core.Path.{refl, ap₂, sym, ◌∙◌}
use Rattle.store.specs.declared.types.TreeName.TheVariants.{Starts, Time}
use Rattle.store.specs.Lending.{store_seen}
use Rattle.store.specs.Calls.{start}
use Rattle.store.specs.Writing.{point_of, time_at_start}
use Rattle.store.proofs.ArgumentFacts.{start_arguments}
use Rattle.store.proofs.RefusedNumbers.{numbered}
use Rattle.refusals.specs.Grounds.{lower_of}
use Rattle.store.proofs.Refusing.{told_on}
use Rattle.refusals.proofs.RefusalParts.{by_arguments, by_fit, known_head, by_known, by_entries}
use Rattle.refusals.proofs.StartParts.{start_pages}
use Rattle.refusals.proofs.refusals.start_refusal.Goals as goal

pub returns-in_err-start_input : goal.returns-in_err-start_input
returns-in_err-start_input c = let a = c.args in
    told_on _ c.from_residual.result c.from_residual.ensures.1
    ∙ by_arguments (store_seen a.store.now) (start a.tick a.key a.weight) refl c.in_err-start_input.ensures (numbered _)

pub returns-in_err-head_refusal : goal.returns-in_err-head_refusal
returns-in_err-head_refusal c = let a = c.args in
    told_on _ c.from_residual-in_err-head_refusal.result c.from_residual-in_err-head_refusal.ensures.1
    ∙ by_fit (store_seen a.store.now) (start a.tick a.key a.weight) refl c.in_ok-start_input.ensures c.in_err-head_refusal.ensures (numbered _)

pub returns-in_err-start_state : goal.returns-in_err-start_state
returns-in_err-start_state c = let a = c.args in
    told_on _ c.from_residual-in_err-start_state.result c.from_residual-in_err-start_state.ensures.1
    ∙ by_known (store_seen a.store.now) (start a.tick a.key a.weight) refl c.in_ok-start_input.ensures c.in_ok-head_refusal.ensures c.in_err-start_state.ensures
    (numbered _)

pub overflow_cast-key : goal.overflow_cast-key
overflow_cast-key c = let a = c.args in
    omega (arith, (start_arguments a.tick a.key a.weight (omega (arith, c.ranges.tick.fits)) (sym c.in_ok-start_input.ensures)).bounds.key)

pub planned_refusal-one-requires : goal.planned_refusal-one-requires
planned_refusal-one-requires c = let a = c.args in
    record {
      use_fits = (known_head (store_seen a.store.now) (start a.tick a.key a.weight) refl c.in_ok-start_input.ensures c.in_ok-head_refusal.ensures).trees Starts;
      tick_lt_open_end = (start_arguments a.tick a.key a.weight (omega (arith, c.ranges.tick.fits)) (sym c.in_ok-start_input.ensures)).bounds.tick;
    }

pub overflow_cast-key-2 : goal.overflow_cast-key-2
overflow_cast-key-2 c = let a = c.args in
    omega (arith, (start_arguments a.tick a.key a.weight (omega (arith, c.ranges.tick.fits)) (sym c.in_ok-start_input.ensures)).bounds.key)

pub planned_refusal-other-requires : goal.planned_refusal-other-requires
planned_refusal-other-requires c = let a = c.args in
    record {
      use_fits = (known_head (store_seen a.store.now) (start a.tick a.key a.weight) refl c.in_ok-start_input.ensures c.in_ok-head_refusal.ensures).trees Time;
      tick_lt_open_end = (start_arguments a.tick a.key a.weight (omega (arith, c.ranges.tick.fits)) (sym c.in_ok-start_input.ensures)).bounds.tick;
    }

pub returns : goal.returns
returns c =
    let a = c.args in
    let s = store_seen a.store.now in
    by_entries s (start a.tick a.key a.weight) refl c.in_ok-start_input.ensures c.in_ok-head_refusal.ensures c.in_ok-start_state.ensures
    (c.lower_refusal.ensures
    ∙ ap₂ lower_of (c.planned_refusal-one.ensures (point_of a.tick a.key a.weight).value) (c.planned_refusal-other.ensures (time_at_start a.tick a.key a.weight).value)
    ∙ sym (start_pages s a.tick a.key a.weight))
