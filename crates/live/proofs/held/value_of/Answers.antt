use Prim.Native.Nat.{ℕ, ◌+◌}
use mathlib.Core.Path.{ap, ◌∙◌}
use Rattle.words.specs.Value.{value_at}
use Rattle.tree.specs.Row.{value_start}
use Rattle.live.proofs.held.value_of.Goals as goal

pub returns : goal.returns
returns c =
    let a = c.args in
    c.read.ensures ∙ ap (λ (at : ℕ). value_at a.page.now (at + value_start)) c.row_start.ensures
