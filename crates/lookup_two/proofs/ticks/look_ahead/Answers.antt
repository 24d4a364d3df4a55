use Rattle.std.proofs.lemmas.Result.{err_from_is_err_and}
use Rattle.tree.specs.Taking.{tree_of_pages}
use Rattle.lookup_two.proofs.AheadLaws.{ahead_missing, ahead_other}
use Rattle.lookup_two.proofs.ticks.look_ahead.Goals as goal

pub returns-in_err-next : goal.returns-in_err-next
returns-in_err-next c =
    let a = c.args in
    let made = err_from_is_err_and c.from_residual-in_err-next.result c.from_residual-in_err-next.ensures.1 in
    rw made.1
    (ahead_missing (tree_of_pages a.tree) a.level c.in_ok-found.was c.if-level-eq0.false c.requires.level_le_top_level c.in_err-next.ensures)

pub returns-then-next-level : goal.returns-then-next-level
returns-then-next-level c =
    let a = c.args in
    ahead_other (tree_of_pages a.tree) a.level c.in_ok-found.was c.if-level-eq0.false c.in_ok-next.ensures c.if-next-level.true
