-- Two lookups as long as their paths have the same pages.
use Prim.Native.Nat.{ℕ, ◌+◌, ◌-◌}
use mathlib.Core.Path.{◌≡◌, sym, ◌∙◌}
use Rattle.std.specs.Prelude.{Result}
use Rattle.words.specs.declared.value.Value.{Value}
use Rattle.words.specs.Value.{plus, zero}
use Rattle.tree.specs.declared.types.Row.{Row}
use Rattle.tree.specs.declared.types.Held.{Held}
use Rattle.tree.specs.declared.types.Lookup.{Lookup}
use Rattle.tree.specs.Tree.{Tree}
use Rattle.tree.specs.Lookup.{lookup_from}
use Rattle.tree.specs.declared.types.SpoiledPage.{SpoiledPage}
use Rattle.live.specs.Tested.{opened}
use Rattle.lookup.specs.Descent.{onward, Wide, lookup_held}
use Rattle.lookup_two.specs.Together.{LeadsAs}
use Rattle.lookup.proofs.HeldRanges.{opened_wide}
use Rattle.lookup.proofs.LookupLaws.{way_start, way_down}

-- One of the two lookups on its way: what it has, and what its page leads to, is its answer
module _ (tree : Tree) (t k : ℕ) (answer : Result Lookup SpoiledPage) where
  abbrev pub OnWay : ℕ → Result Held SpoiledPage → Value → ℕ → Type 0
  OnWay level h total pages = Wide h × (onward total pages (lookup_held tree t k level h) ≡ answer)

  pub on_start : (level low high page : ℕ) {h : Result Held SpoiledPage} {total : Value} → total ≡ zero → h ≡ opened tree t k level low high page
      → lookup_from tree t k level low high page ≡ answer → OnWay level h total 0
  on_start level low high page z e is = (opened_wide tree t k level low high page e, way_start tree t k level low high page z e ∙ is)

  pub on_shared : (level : ℕ) (row : Row) (h : Result Held SpoiledPage) (total : Value) (pages : ℕ) {next : Result Held SpoiledPage} {v more : Value} → OnWay level h total pages
      → (level ≡ 0 → ⊥) → LeadsAs row h v → more ≡ plus total v → next ≡ opened tree t k (level - 1) row.low row.high row.child
      → OnWay (level - 1) next more (pages + 1)
  on_shared level row h total pages way some own m n = (
    opened_wide tree t k (level - 1) row.low row.high row.child n,
    rw m
        (sym (way_down tree t k total pages level some own.1 (n ∙ sym (λ i. opened tree t k (level - 1) (own.3 i) (own.4 i) (own.2 i))))
        ∙ way.1),
  )
