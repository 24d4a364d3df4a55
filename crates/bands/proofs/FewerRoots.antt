-- Lookups in a tree of whose root entries only the first ones are looked at: where the others are born after the tick, nothing is found otherwise.
use Prim.Native.Nat.{ℕ, zero, suc, ◌-◌, ◌≤◌, ◌<◌}
use native.Mathlib.Omega.{arith}
use mathlib.Core.Path.{◌≡◌, refl, ap, ap₂, ◌∙◌}
use mathlib.Core.Bool.{cond}
use lib.ListN.{take}
use lib.Dec.{eqb}
use Rattle.std.specs.Prelude.{Option, Some, None, Result}
use Rattle.tree.specs.declared.types.Lookup.{Lookup}
use Rattle.tree.specs.declared.types.SpoiledPage.{SpoiledPage}
use Rattle.tree.specs.Spoiled.{spoiled}
use Rattle.tree.specs.Use.{in_use}
use Rattle.tree.specs.Tree.{Tree, root_for, root_at, root_in_use}
use Rattle.tree.specs.Lookup.{lookup_page, lookup_from, lookup_root, lookup}
use Rattle.bands.specs.Bands.{without, in_band, nothing, band_before}

-- The tree with its first entries
abbrev pub with_roots : Tree → ℕ → Tree
with_roots tree n = record { table = tree.table; roots = tree.roots; used = record { pages = tree.used.pages; roots = n } }

module _ (tree : Tree) (n : ℕ) where
  -- Below the root no entry counts
  from_same : (t k level low high page : ℕ) → lookup_from (with_roots tree n) t k level low high page ≡ lookup_from tree t k level low high page
  unfolding lookup_from in_use
  from_same t k zero low high page = refl
  from_same t k (suc l) low high page = ap (lookup_page tree t k (suc l) low high page) (λ i row. from_same t k l row.low row.high row.child i)

  root_same : (t k : ℕ) (root : Option ℕ) → lookup_root (with_roots tree n) t k root ≡ lookup_root tree t k root
  unfolding in_use
  root_same t k None = refl
  root_same t k (Some page) = ap (λ (x : Result Lookup SpoiledPage). cond (root_in_use tree page) x spoiled) (from_same t k _ 0 _ page)

  module _ (t : ℕ) (same : root_for t (take n tree.roots) ≡ root_at tree t) where
    lookup_same : (k : ℕ) → lookup (with_roots tree n) t k ≡ lookup tree t k
    unfolding lookup
    lookup_same k = root_same t k (root_at (with_roots tree n) t) ∙ ap (lookup_root tree t k) same

    pub band_same : (k1 k2 : ℕ) → in_band (with_roots tree n) t k1 k2 ≡ in_band tree t k1 k2
    band_same k1 k2 =
        ap₂ (λ (high low : Result Lookup SpoiledPage). cond (eqb k1 0) high (without high low)) (lookup_same (k2 - 1)) (lookup_same (k1 - 1))

  pub before_same : (t : ℕ) → root_for (t - 1) (take n tree.roots) ≡ root_at tree (t - 1) → (k1 k2 : ℕ)
      → band_before (with_roots tree n) t k1 k2 ≡ band_before tree t k1 k2
  before_same t same k1 k2 = ap (cond (eqb t 0) nothing) (band_same (t - 1) same k1 k2)

  -- The bands before both ticks of an interval, among the entries that were left when those born after the later tick were left out
  pub walked_same : (k1 k2 t1 t2 : ℕ) → t1 < t2 → ((u : ℕ) → u ≤ t2 - 1 → root_for u (take n tree.roots) ≡ root_at tree u)
      → (in_band (with_roots tree n) (t2 - 1) k1 k2 ≡ in_band tree (t2 - 1) k1 k2) × (band_before (with_roots tree n) t1 k1 k2 ≡ band_before tree t1 k1 k2)
  walked_same k1 k2 t1 t2 later same =
      (band_same (t2 - 1) (same (t2 - 1) (omega arith)) k1 k2, before_same t1 (same (t1 - 1) (omega arith)) k1 k2)
