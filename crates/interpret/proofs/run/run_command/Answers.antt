use mathlib.Core.Path.{sym, ◌∙◌}
use Rattle.store.specs.Lending.{words_of, store_with}
use Rattle.command.specs.Stream.{query_kind, answered}
use Rattle.command.proofs.KindLaws.{kind_query}
use Rattle.interpret.proofs.RunLaws.{query_replies, of_kind}
use Rattle.interpret.proofs.run.run_command.Goals as goal

pub returns-then-is_query-clause-replied : goal.returns-then-is_query-clause-replied
returns-then-is_query-clause-replied c =
    let a = c.args in
    let s = store_with a.head.now (words_of a.starts.now) (words_of a.ends.now) (words_of a.time.now) in
    of_kind s a.operands.now (kind_query a.code (sym c.is_query.ensures ∙ c.if-is_query.true))
    (query_replies s a.operands.now a.code
    (c.answer_query.ensures
    ∙ (λ i.
    (answered (store_with a.head.now (c.view.ensures i) (c.view-then-is_query.ensures i) (c.view-then-is_query-2.ensures i)) a.operands.now (query_kind a.code)).answer)))
