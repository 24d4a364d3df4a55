use mathlib.Core.Path.{◌≡◌}
use mathlib.Core.Bool.{not}
use lib.ListN.{length}
use lib.Dec.{eqb}
use mir.Val.{bool_byte}
use Rattle.c_heads.specs.Heads.{head_numbers}
use Rattle.firmware.specs.Exported.{Handed, handed_of, store_in}
use Rattle.firmware.specs.Packets.{Packet, LeavesOf}
use Rattle.firmware.proofs.ExportedLaws.{handed_on}
use Rattle.command.specs.Pieces.{Fed, run_piece}
use Rattle.firmware.proofs.PacketLaws.{as_byte, packet_leaves}
use borrow.Author.Rules.{rules}
use Rattle.firmware.proofs.commands.nimbleshale_commands.Goals as goal

pub returns : goal.returns
returns c =
    let a = c.args in
    let before = handed_of a.head.now a.start_table.now a.start_roots.now a.end_table.now a.end_roots.now a.time_table.now a.time_roots.now in
    let long : length c.args.head.now ≡ head_numbers = search rules in
    let fed : Fed = run_piece (length a.out.now) (not (eqb a.ended 0)) (store_in before) a.input.now in
    let made = c.run_piece-fed in
    let said : Packet = record { over = bool_byte made.result.over; taken = made.result.taken; written = made.result.written; out = made.new.out } in
    handed_on (λ (after : Handed). LeavesOf fed said a.out.now after)
    (packet_leaves (length a.out.now) (not (eqb a.ended 0)) before a.input.now c.head_of.ensures c.run_piece-fed.ensures.fed long (as_byte c.run_piece-fed.result.over) c.open_count.ensures c.changed_places-places.ensures c.put_head.ensures)
    (search rules) (search rules) (search rules) (search rules) (search rules) (search rules)
