use Prim.Native.Nat.{◌+◌}
use native.Mathlib.Omega.{arith}
use Prim.Native.Nat.{ℕ}
use mathlib.Core.Path.{ap, ap₂, ◌∙◌}
use lib.ListN.{length-set, set}
use mathlib.Core.List.{List}
use Rattle.words.specs.Value.{encode_value}
use Rattle.words.specs.Overwrite.{overwrite}
use Rattle.tree.specs.Row.{row_start, value_start}
use Rattle.rows.proofs.EditLaws.{put_words}
use borrow.Author.Rules.{rules}
use Rattle.rows.proofs.edit.put_row.Goals as goal

pub bounds-page-at-2 : goal.bounds-page-at-2
bounds-page-at-2 c = simp length-set (omega arith)

pub write-requires : goal.write-requires
write-requires c = simp length-set (omega arith)

pub returns : goal.returns
returns c = let a = c.args in
    let stored : ℕ → ℕ → ℕ → List ℕ = λ at k l. overwrite (set (set a.page.now at k) (at + 1) l) (at + value_start) (encode_value a.row.value) in
    c.write.ensures
    ∙ ap (λ (at : ℕ). stored at c.row_keys.result c.life.result) c.row_start-at.ensures
    ∙ ap₂ (λ (k l : ℕ). stored (row_start a.place) k l)
    c.row_keys.ensures c.life.ensures
    ∙ put_words a.page.now a.place a.row (search rules)
