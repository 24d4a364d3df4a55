use Rattle.pass_book.proofs.GroundLaws.{started_few, end_known, end_early}
use borrow.Author.Rules.{rules}
use Rattle.pass_book.proofs.turn.does.Goals as goal

pub with_start-requires-clause-started_le_pass_limit :
    goal.with_start-requires-clause-started_le_pass_limit
with_start-requires-clause-started_le_pass_limit c =
    started_few _ _ (search rules) _ c.requires.call_value _ _ _ c.in-Start.is (search rules)

pub with_end-requires-clause-number_lt_started : goal.with_end-requires-clause-number_lt_started
with_end-requires-clause-number_lt_started c =
    end_known _ _ (search rules) _ c.requires.call_value _ _ c.in-End.is (search rules)

pub with_end-requires-clause-tick_lt_open_end : goal.with_end-requires-clause-tick_lt_open_end
with_end-requires-clause-tick_lt_open_end c =
    end_early _ _ (search rules) _ c.requires.call_value _ _ c.in-End.is (search rules)
