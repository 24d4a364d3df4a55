use mathlib.Core.Path.{◌≡◌}
use lib.ListN.{length}
use Rattle.c_heads.specs.Heads.{head_numbers}
use Rattle.firmware.specs.Exported.{Handed, handed_of, store_in}
use Rattle.firmware.specs.BurstCalls.{Lending, LeavesBurst}
use Rattle.firmware.proofs.ExportedLaws.{handed_on}
use Rattle.demand.specs.Bursts.{enter_burst}
use Rattle.firmware.proofs.BurstLaws.{entered_in, burst_leaves}
use borrow.Author.Rules.{rules}
use Rattle.firmware.proofs.bursts.nimbleshale_burst.Goals as goal

pub returns : goal.returns
returns c =
    let a = c.args in
    let before = handed_of a.head.now a.start_table.now a.start_roots.now a.end_table.now a.end_roots.now a.time_table.now a.time_roots.now in
    let long : length a.head.now ≡ head_numbers = search rules in
    let is = entered_in before a.events.now a.results.now c.head_of.ensures c.enter_burst-reply.ensures.replied in
    let entered = enter_burst (store_in before) a.events.now (length a.results.now) in
    let lending : Lending = record { handed = before; results = a.results.now } in
    handed_on (λ (after : Handed). LeavesBurst entered c.refusal_number.result lending (record { handed = after; results = c.enter_burst-reply.new.results }))
    (burst_leaves before a.events.now a.results.now is long c.refusal_number.ensures c.put_head.ensures)
    (search rules) (search rules) (search rules) (search rules) (search rules) (search rules)
