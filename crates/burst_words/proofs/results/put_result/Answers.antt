use Prim.Native.Nat.{◌*◌}
use native.Mathlib.Omega.{arith}
use lib.ListN.{length-set}
use Rattle.burst_words.proofs.ResultLaws.{result_put}
use Rattle.burst_words.proofs.results.put_result.Goals as goal

pub bounds-results-first-2 : goal.bounds-results-first-2
bounds-results-first-2 c = simp length-set (omega (arith, c.requires))

pub returns : goal.returns
returns c =
    let a = c.args in
    result_put a.results.now (2 * a.place) a.answer c.refusal_of.ensures c.number_of.ensures c.requires
