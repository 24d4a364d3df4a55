use Prim.Native.Nat.{ℕ}
use mathlib.Core.Path.{ap, ◌∙◌}
use mathlib.Core.List.{List}
use Rattle.words.specs.Overwrite.{overwrite}
use Rattle.codec.specs.Bytes.{bytes_of}
use Rattle.answer_codec.proofs.AnswerLaws.{bat_time_bytes}
use borrow.Author.Rules.{rules}
use Rattle.answer_codec.proofs.spelling.put_bat_time.Goals as goal

pub returns : goal.returns
returns c =
    let a = c.args in
    c.put_number-3.ensures
    ∙ ap (λ (l : List ℕ). overwrite l 9 (bytes_of 1 a.pages))
    (c.put_number-2.ensures
    ∙ ap (λ (l : List ℕ). overwrite l 1 (bytes_of 8 a.total)) c.put_number.ensures)
    ∙ bat_time_bytes a.out.now (search rules) a.total a.pages
