use Rattle.enter.proofs.entering.+enter_from.Given as goal

-- The measure is the level
abbrev pub decreases-enter_from : goal.decreases-enter_from
decreases-enter_from l = l.level
