use Rattle.std.proofs.Common.{IfOk, OnErr}
use Rattle.std.proofs.lemmas.Result.{IfOk-weaker}
use Rattle.store.specs.Lending.{words_of, lent_to_trees, store_with}
use Rattle.command.specs.Pieces.{Feed}
use Rattle.turns.specs.Turns.{Served, ServedOn, CutShort}
use Rattle.detector.proofs.ProgramLaws.{program_opened, from_opened, says}
use Rattle.detector.proofs.open_and_serve.Goals as goal

pub returns-clause-served : goal.returns-clause-served
returns-clause-served g c =
    let p = c.requires in
    let n = c.serve.new in
    from_opened (program_opened c.opened_head.ensures p.starts_value p.ends_value p.time_value) c.open-reply.ensures.replied
    (λ (f : Feed). IfOk c.serve.result (λ left. Served f (store_with left.head (words_of n.starts) (words_of n.ends) (words_of n.time)) left.over))
    c.serve.ensures.served

pub returns-clause-says_output : goal.returns-clause-says_output
returns-clause-says_output g c =
    let p = c.requires in
    let a = c.args in
    let n = c.serve.new in
    let r = c.serve.result in
    IfOk-weaker r _ _
    (λ left. λ h. λ e. says h e)
    (from_opened (program_opened c.opened_head.ensures p.starts_value p.ends_value p.time_value) c.open-reply.ensures.replied
    (λ (f : Feed).
    IfOk r
    (λ left.
    ServedOn f (store_with left.head (words_of n.starts) (words_of n.ends) (words_of n.time)) left.over
    (g.R.Read.remaining a.input.now) (g.R.Read.remaining n.input) (g.W.Write.contents a.output.now) (g.W.Write.contents n.output)))
    c.serve.ensures.moves)

pub returns-clause-cut_short : goal.returns-clause-cut_short
returns-clause-cut_short g c =
    let p = c.requires in
    let n = c.serve.new in
    from_opened (program_opened c.opened_head.ensures p.starts_value p.ends_value p.time_value) c.open-reply.ensures.replied
    (λ (f : Feed). OnErr c.serve.result (CutShort f (lent_to_trees (words_of n.starts) (words_of n.ends) (words_of n.time))))
    c.serve.ensures.cut_short
