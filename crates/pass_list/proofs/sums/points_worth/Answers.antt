use Rattle.std.proofs.Common.{ap, ◌∙◌, ap₂, rules}
use Rattle.words.specs.Value.{plus}
use Rattle.pass_list.specs.Counted.{point_worth, end_worth}
use Rattle.pass_list.proofs.WorthLaws.{of_starts, of_ends, of_time}
use Rattle.pass_list.proofs.sums.points_worth.Goals as goal

pub returns-in-Starts : goal.returns-in-Starts
returns-in-Starts c =
    let a = c.args in
    rw c.in-Starts.is
    (c.point_worth.ensures
    ∙ ap (point_worth a.t a.k a.pass.start a.pass.key) c.one_pass.ensures
    ∙ of_starts a.t a.k a.pass (search rules))

pub returns-in-Ends : goal.returns-in-Ends
returns-in-Ends c =
    let a = c.args in
    rw c.in-Ends.is
    (c.end_worth.ensures
    ∙ ap (end_worth a.t a.k a.pass.end a.pass.key) c.one_pass-in-Ends.ensures
    ∙ of_ends a.t a.k a.pass (search rules))

pub returns-in-Time : goal.returns-in-Time
returns-in-Time c =
    let a = c.args in
    let started = c.point_worth-started.ensures
    ∙ ap (point_worth a.t a.k a.pass.start a.pass.key) c.start_line.ensures in
    let ended = c.end_worth-in-Time.ensures ∙ ap (end_worth a.t a.k a.pass.end a.pass.key) c.end_line.ensures in
    rw c.in-Time.is
    (c.plus.ensures ∙ ap₂ plus started ended ∙ of_time a.t a.k a.pass (search rules))
