-- How many pages lookups open, in any store: at most 4 each.
use Prim.Native.Nat.{ℕ, ◌*◌, ◌≤◌}
use native.Mathlib.Omega.{arith}
use mathlib.Core.Path.{◌≡◌, refl}
use mathlib.Core.List.{List, [], ◌∷◌}
use lib.ListN.{length}
use Rattle.std.specs.Prelude.{Result, Ok, Err}
use Rattle.tree.specs.declared.types.Lookup.{Lookup}
use Rattle.tree.specs.declared.types.SpoiledPage.{SpoiledPage}
use Rattle.tree.specs.Tree.{Tree}
use Rattle.tree.specs.Lookup.{lookup}
use Rattle.tree.proofs.PathLength.{pages_at_most_lem}
use Rattle.store.specs.Trees.{Store, tree_in}
use Rattle.store.specs.Reading.{PointLookup, pages_of, pages_in}

pub pages_four : (tree : Tree) (t k : ℕ) → pages_of (lookup tree t k) ≤ 4
pages_four tree t k = go (lookup tree t k) refl
  where
    go : (found : Result Lookup SpoiledPage) → lookup tree t k ≡ found → pages_of found ≤ 4
    go (Err s) e = omega arith
    go (Ok l) e = pages_at_most_lem tree t k e

pub pages_most : (s : Store) (ls : List PointLookup) → pages_in s ls ≤ 4 * length ls
pages_most s [] = omega arith
pages_most s (l ∷ ls) = omega (arith, pages_four (tree_in s l.tree) l.tick l.key, pages_most s ls)
