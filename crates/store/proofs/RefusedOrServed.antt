-- A call is refused and leaves the store as it was, or it is served.
use Prim.Native.Nat.{ℕ, zero, suc}
use mathlib.Core.Path.{◌≡◌, refl}
use Rattle.store.specs.Trees.{Store}
use Rattle.store.specs.Calls.{Call}
use Rattle.store.specs.Answers.{Answered, refused_with, unless_refused}
use Rattle.store.specs.Performing.{refusal, served, perform}

-- What holds of every refusal and, with no refusal, of what is served holds of the call
pub refused_or_served : (P : Answered → Type 0) (s : Store) (c : Call) → ((n : ℕ) → P (refused_with (suc n) s)) → (refusal s c ≡ 0 → P (served s c)) → P (perform s c)
refused_or_served P s c refused done = go (refusal s c) refl
  where
    go : (n : ℕ) → refusal s c ≡ n → P (unless_refused n s (served s c))
    go zero e = done e
    go (suc n) e = refused n
