use Prim.Native.Nat.{ℕ}
use mathlib.Core.Path.{ap, ◌∙◌}
use mathlib.Core.List.{List}
use Rattle.words.specs.Overwrite.{overwrite}
use Rattle.codec.specs.Bytes.{bytes_of}
use Rattle.answer_codec.proofs.AnswerLaws.{started_bytes}
use borrow.Author.Rules.{rules}
use Rattle.answer_codec.proofs.spelling.put_started.Goals as goal

pub returns : goal.returns
returns c =
    let a = c.args in
    c.put_number-2.ensures
    ∙ ap (λ (l : List ℕ). overwrite l 1 (bytes_of 4 a.number)) c.put_number.ensures
    ∙ started_bytes a.out.now (search rules) a.number
