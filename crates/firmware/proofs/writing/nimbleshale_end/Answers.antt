use mathlib.Core.Path.{◌≡◌}
use lib.ListN.{length}
use Rattle.c_heads.specs.Heads.{head_numbers}
use Rattle.store.specs.Calls.{end}
use Rattle.store.specs.Performing.{perform}
use Rattle.firmware.specs.Exported.{Handed, handed_of, store_in, Leaves}
use Rattle.firmware.proofs.ExportedLaws.{handed_on, replied_in, leaves}
use Rattle.firmware.proofs.KeptPlaces.{after_end}
use borrow.Author.Rules.{rules}
use Rattle.firmware.proofs.writing.nimbleshale_end.Goals as goal

pub returns : goal.returns
returns c =
    let a = c.args in
    let before = handed_of a.head.now a.start_table.now a.start_roots.now a.end_table.now a.end_roots.now a.time_table.now a.time_roots.now in
    let long : length a.head.now ≡ head_numbers = search rules in
    let call = end a.tick a.number in
    let is = replied_in call before c.read_head.ensures c.end-reply.ensures.replied in
    handed_on (λ (after : Handed). Leaves (perform (store_in before) call) c.refusal_of.result before after)
    (leaves call before is long c.refusal_of.ensures (after_end before a.tick a.number is) c.put_head.ensures)
    (search rules) (search rules) (search rules) (search rules) (search rules) (search rules)
