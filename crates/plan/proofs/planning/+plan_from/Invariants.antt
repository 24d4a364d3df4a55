use Rattle.plan.proofs.planning.+plan_from.Given as goal

-- The level falls
abbrev pub decreases-plan_from : goal.decreases-plan_from
decreases-plan_from l = l.expected.level
