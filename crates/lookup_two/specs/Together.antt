-- Where the paths of two keys go from a page that both have.
use Rattle.std.specs.Prelude.{◌≡◌, ℕ, Option, Some, None, Result, Ok}
use Rattle.words.specs.declared.value.Value.{Value}
use Rattle.tree.specs.declared.types.Row.{Row}
use Rattle.tree.specs.declared.types.Held.{Held}
use Rattle.tree.specs.declared.types.SpoiledPage.{SpoiledPage}
use Rattle.lookup_two.specs.declared.together.Shared.{Shared}

-- A row was found that has the child and the key range of another
abbrev pub LeadsAs : Row → Result Held SpoiledPage → Value → Type 0
LeadsAs row h v = (own : Row) × (h ≡ Ok (record { row = own; value = v })) × (own.child ≡ row.child) × (own.low ≡ row.low) × (own.high ≡ row.high)

-- A child of both is said where there is one; paths that are said to part may still have one
abbrev pub ForkAs : ℕ → Result Held SpoiledPage → Result Held SpoiledPage → Option Shared → Type 0
ForkAs level lower upper None = Unit {0}
ForkAs level lower upper (Some shared) =
    (level ≡ 0 → ⊥) × LeadsAs shared.row lower shared.lower × LeadsAs shared.row upper shared.upper
