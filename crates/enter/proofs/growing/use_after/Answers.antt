use Prim.Native.Nat.{ℕ}
use native.Mathlib.Omega.{arith}
use mathlib.Core.Path.{ap₂, sym}
use Rattle.tree.specs.declared.types.TreeUse.{TreeUse}
use Rattle.tree.proofs.UseLaws.{after_is}
use Rattle.enter.proofs.growing.use_after.Goals as goal

uses : ℕ → ℕ → TreeUse
uses pages roots = record { pages = pages; roots = roots }

pub overflow_add-result : goal.overflow_add-result
overflow_add-result c = omega (arith, c.requires.takes.used_few, c.requires.made_le_most_made)

pub roots_after-requires : goal.roots_after-requires
roots_after-requires c = c.requires.roots_le_page_limit

pub returns : goal.returns
unfolding uses
returns c = let a = c.args in ap₂ uses (sym (after_is a.used a.made)) c.roots_after.ensures
