-- A call by the number of its refusal: refused, or done.
use Prim.Native.Nat.{ℕ, zero, suc}
use native.Mathlib.Omega.{arith}
use mathlib.Core.Path.{◌≡◌, refl, ap, sym}
use Rattle.store.specs.Trees.{Store}
use Rattle.store.specs.Answers.{Answered, refused_with, unless_refused}
use Rattle.store.specs.Calls.{Call}
use Rattle.store.specs.Performing.{refusal, served, perform}

module _ {r n : ℕ} (s : Store) (done : Answered) (is : r ≡ n) where
  pub is_refused : (r ≡ 0 → ⊥) → unless_refused n s done ≡ refused_with r s
  is_refused some = go n is
    where
      go : (m : ℕ) → r ≡ m → unless_refused m s done ≡ refused_with r s
      go zero e = absurd (some e)
      go (suc m) e = ap (λ (x : ℕ). refused_with x s) (sym e)

  pub is_done : r ≡ 0 → unless_refused n s done ≡ done
  is_done none = go n is
    where
      go : (m : ℕ) → r ≡ m → unless_refused m s done ≡ done
      go zero e = refl
      go (suc m) e = absurd (omega arith)

-- The same of the definition of a call
module _ {r : ℕ} (s : Store) (c : Call) (is : r ≡ refusal s c) where
  pub call_refused : (r ≡ 0 → ⊥) → perform s c ≡ refused_with r s
  call_refused some = is_refused s (served s c) is some

  pub call_served : r ≡ 0 → perform s c ≡ served s c
  call_served none = is_done s (served s c) is none
