use Prim.Native.Nat.{ℕ}
use mathlib.Core.Path.{◌≡◌, ap, sym}
use Rattle.tree.specs.declared.types.RootChange.{RootChange}
use Rattle.tree.specs.Use.{roots_after}
use Rattle.enter.proofs.growing.roots_after.Goals as goal

-- The answer for the change that was told
for-change : (roots : ℕ) (change other : RootChange) → change ≡ other → roots_after other roots ≡ roots_after change roots
for-change roots change other e = ap (λ (c : RootChange). roots_after c roots) (sym e)

pub returns-in-Kept : goal.returns-in-Kept
returns-in-Kept c = for-change _ _ _ c.in-Kept.is

pub returns-in-Added : goal.returns-in-Added
returns-in-Added c = for-change _ _ _ c.in-Added.is

pub returns-in-Replaced : goal.returns-in-Replaced
returns-in-Replaced c = for-change _ _ _ c.in-Replaced.is
