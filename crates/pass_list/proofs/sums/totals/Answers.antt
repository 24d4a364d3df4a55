use Rattle.std.proofs.Common.{rules}
use Rattle.pass_list.proofs.TotalLaws.{total_none, total_next}
use Rattle.pass_list.proofs.sums.totals.Goals as goal

pub loop-pass-init : goal.loop-pass-init
loop-pass-init c = total_none _ _ c.zero-total.ensures

pub loop-pass-preserved : goal.loop-pass-preserved
loop-pass-preserved c =
    total_next _ _ c.loop-pass.pass-index _ (search rules) c.worth_of.ensures.light c.loop-pass.invariant c.worth_of.ensures.value c.plus-total.ensures
