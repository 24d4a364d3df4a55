use Rattle.pass_list.proofs.TotalLaws.{TotalSoFar}
use Rattle.pass_list.proofs.sums.totals.Given as goal

abbrev pub invariant-loop-pass : goal.invariant-loop-pass
invariant-loop-pass l = TotalSoFar l.asked l.pass-items l.pass-index l.total
