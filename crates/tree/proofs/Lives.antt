-- No row of a grown tree ends at its own tick of birth: each was live at some tick.
use Prim.Native.Nat.{ℕ, ◌<◌}
use native.Mathlib.Omega.{arith}
use mathlib.Core.Path.{◌≡◌}
use mathlib.Core.List.{List, [], ◌∷◌}
use mathlib.Core.Logic.{◌⊎◌, inl, inr}
use Rattle.words.specs.Lists.{All}
use Rattle.words.specs.Words.{open_end}
use Rattle.words.specs.declared.value.Value.{Value}
use Rattle.tree.specs.declared.types.Row.{Row}
use Rattle.tree.proofs.ModelPromise.{Over, Settled}
use Rattle.tree.proofs.View.{view_row, view_rows}

pub settled_lives : (measure : Value → ℕ) (t : ℕ) → t < open_end → (rows : List Row) → Settled t (view_rows measure rows)
    → All (λ (r : Row). r.birth < r.end) rows
settled_lives measure t now [] h = tt
settled_lives measure t now (r ∷ rs) h = (go h.1, settled_lives measure t now rs h.2)
  where
    go : Over t (view_row measure r) ⊎ (r.end ≡ open_end) → r.birth < r.end
    go (inl over) = over.0
    go (inr e) = omega (arith, h.0, e)
