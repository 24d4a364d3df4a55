use native.Mathlib.Omega.{arith}
use Rattle.ranges.specs.Nearest.{no_range}
use Rattle.ranges.proofs.NearestLaws.{least_most, least_on, least_done}
use Rattle.ranges.proofs.LesserLaws.{lesser_second, min_is_lesser}
use borrow.Author.Rules.{rules}
use Rattle.ranges.proofs.search.least_candidate.Goals as goal

pub loop-at-init : goal.loop-at-init
loop-at-init c =
    let a = c.args in
    (search rules, lesser_second no_range _ (least_most a.from a.below a.above 0 a.ranges.now))

pub loop-at-preserved : goal.loop-at-preserved
loop-at-preserved c =
    let a = c.args in
    let l = c.loop-at in (
      omega arith,
      rw (c.min-best.ensures, min_is_lesser l.best c.candidate.result, c.candidate.ensures)
          (least_on a.from a.below a.above a.ranges.now l.at l.best _ (omega arith) l.invariant.1),
    )

pub returns : goal.returns
returns c =
    let a = c.args in
    let l = c.loop-at in
    least_done a.from a.below a.above a.ranges.now l.at l.best _ l.invariant.0 (omega arith) l.invariant.1
