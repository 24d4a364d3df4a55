use Prim.Native.Nat.{ℕ, ◌≤◌, ◌<◌}
use lib.ListN.{get_or}
use Rattle.words.specs.Words.{root_birth}
use Rattle.roots.proofs.search.all_later.Given as goal

abbrev pub invariant-loop-entry : goal.invariant-loop-entry
invariant-loop-entry l =
    (l.later ≤ l.entry-index) × (l.entry-index ≤ l.later → (i : ℕ) → i < l.entry-index → l.t < root_birth (get_or l.block i 0))
