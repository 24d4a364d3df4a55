use Prim.Native.Nat.{◌-◌}
use native.Mathlib.Omega.{arith}
use mathlib.Core.Path.{ap, ◌∙◌}
use Rattle.std.specs.Prelude.{Ok}
use Rattle.tree.specs.Limits.{most_made}
use Rattle.plan.proofs.PlanBounds.{met_few, met_wide, plan_within}
use Rattle.plan.proofs.PlanWays.{way_spoiled, way_lowest, way_cut, way_above}
use Rattle.std.proofs.lemmas.Result.{err_from_is_err_and}
use Rattle.plan.proofs.planning.+plan_from.Goals as goal

pub returns-in_err-met : goal.returns-in_err-met
returns-in_err-met t c =
    let p = err_from_is_err_and c.from_residual.result c.from_residual.ensures.1 in
    rw p.1 (way_spoiled _ _ _ _ _ _ _ _ c.in_err-met.ensures)

pub overflow_add-counts : goal.overflow_add-counts
overflow_add-counts t c =
    let few = met_few _ _ _ _ _ _ _ _ c.in_ok-met.ensures in
    omega (arith, few.few_rows, few.few_gain)

pub overflow_add-counts-then-expected-eq0 : goal.overflow_add-counts-then-expected-eq0
overflow_add-counts-then-expected-eq0 t c =
    let few = met_few _ _ _ _ _ _ _ _ c.in_ok-met.ensures in
    omega (arith, few.few_rows, few.few_inner, few.few_live)

pub overflow_add-counts-then-expected-eq0-2 : goal.overflow_add-counts-then-expected-eq0-2
overflow_add-counts-then-expected-eq0-2 t c =
    let few = met_few _ _ _ _ _ _ _ _ c.in_ok-met.ensures in
    omega (arith, few.few_rows, few.few_inner, few.few_live)

pub overflow_add-counts-then-expected-eq0-3 : goal.overflow_add-counts-then-expected-eq0-3
overflow_add-counts-then-expected-eq0-3 t c =
    let few = met_few _ _ _ _ _ _ _ _ c.in_ok-met.ensures in
    omega (arith, few.few_rows, few.few_inner, few.few_live)

pub returns-in_default : goal.returns-in_default
returns-in_default t c =
    ap Ok c.plan_page.ensures ∙ way_lowest _ _ _ _ _ _ _ _ c.in_ok-met.ensures c.in_default.is

pub returns-then-expected-eq0 : goal.returns-then-expected-eq0
returns-then-expected-eq0 t c =
    ap Ok c.plan_page-then-expected-eq0.ensures ∙ way_cut _ _ _ _ _ _ _ _ c.if-expected-eq0.true c.in_ok-met.ensures c.in-Some.is

pub invariant_of-child : goal.invariant_of-child
invariant_of-child t c =
    record { low_lt_high = met_wide _ _ _ _ _ _ _ _ c.in_ok-met.ensures c.in-Some.is }

pub returns-in_err-below : goal.returns-in_err-below
returns-in_err-below t c =
    let p = err_from_is_err_and c.from_residual-in_err-below.result c.from_residual-in_err-below.ensures.1 in
    rw p.1 (way_above _ _ _ _ _ _ _ _ c.if-expected-eq0.false c.in_ok-met.ensures c.in-Some.is c.in_err-below.ensures)

pub plan_above-requires : goal.plan_above-requires
plan_above-requires t c =
    record {
      few = met_few _ _ _ _ _ _ _ _ c.in_ok-met.ensures;
      few_parts = plan_within _ _ _ _ (most_made - 1) _ _ _ _ (omega arith) c.in_ok-below.ensures;
    }

pub returns : goal.returns
returns t c =
    ap Ok c.plan_above.ensures
    ∙ way_above _ _ _ _ _ _ _ _ c.if-expected-eq0.false c.in_ok-met.ensures c.in-Some.is c.in_ok-below.ensures
