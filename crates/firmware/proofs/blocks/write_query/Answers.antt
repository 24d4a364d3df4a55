use mathlib.Core.Path.{◌≡◌, refl}
use lib.ListN.{length}
use Rattle.c_heads.specs.Heads.{head_numbers}
use Rattle.register_block.specs.Block.{command_at}
use Rattle.firmware.specs.Exported.{Handed}
use Rattle.store.specs.Lending.{words_in, lent_to_trees}
use Rattle.firmware.proofs.BlockLaws.{query_answers, query_leaves}
use borrow.Author.Rules.{rules}
use Rattle.firmware.proofs.blocks.write_query.Goals as goal

pub returns : goal.returns
returns c =
    let a = c.args in
    let lent = lent_to_trees (words_in a.starts) (words_in a.ends) (words_in a.time) in
    let before : Handed = record { numbers = a.head.now; lent = lent } in
    let long : length a.head.now ≡ head_numbers = search rules in
    let said = query_answers before c.put_command.new.block a.code c.read_head.ensures c.answer_query-answer.ensures c.answer_bytes-shown.ensures in
    query_leaves before a.block.now command_at a.code refl c.requires long c.put_command.ensures.block_after said c.open_count.ensures c.show_answer.ensures
