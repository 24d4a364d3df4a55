use Rattle.std.proofs.Common.{ap, sym, ◌∙◌, ◌≤◌, length, length-take-le, arith}
use Rattle.words.specs.Overwrite.{overwrite}
use Rattle.command.proofs.AnswerLengths.{written_fits}
use Rattle.answer_codec.proofs.AnswerLaws.{at_front}
use Rattle.answer_codec.proofs.spelling.put_answer.Goals as goal

pub slice_bounds-bytes-end : goal.slice_bounds-bytes-end
slice_bounds-bytes-end c = omega (arith, c.answer_length-count.ensures, written_fits c.args.answer)

pub slice_bounds-put_bytes-end : goal.slice_bounds-put_bytes-end
slice_bounds-put_bytes-end c =
    let long : c.answer_length-count.result ≤ length c.answer_bytes-bytes.result = omega (arith, c.answer_length-count.ensures, written_fits c.args.answer) in
    sym (length-take-le _ _ long)

pub overflow_add-result : goal.overflow_add-result
overflow_add-result c = omega (arith, c.answer_length-count.ensures, written_fits c.args.answer)

pub returns-clause-out_after : goal.returns-clause-out_after
returns-clause-out_after c =
    c.put_bytes.ensures ∙ ap (overwrite c.args.out.now c.args.from) (at_front _ _ _ c.answer_bytes-bytes.ensures c.answer_length-count.ensures)
