use native.Mathlib.Omega.{arith}
use mathlib.Core.Path.{◌≡◌, sym, ◌∙◌}
use lib.ListN.{length}
use lib.Seq.{length-take-le}
use Rattle.register_block.specs.Block.{block_bytes}
use Rattle.firmware.proofs.BlockLaws.{register_leaves, at_command, command_leaves}
use borrow.Author.Rules.{rules}
use Rattle.firmware.proofs.blocks.nimbleshale_block_write.Goals as goal

pub returns-then-offset-ne0 : goal.returns-then-offset-ne0
returns-then-offset-ne0 c = register_leaves _ _ _ _ c.if-offset-ne0.true c.write_register.ensures

pub write_query-requires : goal.write_query-requires
write_query-requires c = sym c.is_query.ensures ∙ c.if-is_query.true

pub returns-then-is_query : goal.returns-then-is_query
returns-then-is_query c = at_command _ _ _ _ c.if-offset-ne0.false c.write_query.ensures

pub slice_bounds-nimbleshale_commands-end : goal.slice_bounds-nimbleshale_commands-end
slice_bounds-nimbleshale_commands-end c =
    let whole : length c.put_command-length.new.block ≡ block_bytes = search rules in
    sym (length-take-le c.put_command-length.result c.put_command-length.new.block (omega (arith, whole, c.put_command-length.ensures.upper_bound)))

pub returns : goal.returns
returns c =
    let whole : length c.put_command-length.new.block ≡ block_bytes = search (c.bytes-1, c.bytes-2-1, rules) in
    command_leaves _ _ _ _ c.if-offset-ne0.false c.put_command-length.ensures.block_after whole c.put_command-length.ensures.value c.nimbleshale_commands.ensures c.open_count.ensures c.show_answer.ensures
