-- The ticks shared by a life and an interval, counted one by one: "weight times ticks shared by a pass and the interval" (document 02, Paper 4).
use Prim.Native.Nat.{ℕ, zero, suc, ◌+◌, ◌≤◌, ◌<◌}
use native.Mathlib.Omega.{arith}
use mathlib.Core.Path.{◌≡◌}
use mathlib.Core.Bool.{Bool, cond, ◌&&◌}
use mathlib.Core.Logic.{◌⊎◌, inl, inr}
use lib.Dec.{leb}
use borrow.Author.Tests.{le-leb, lt-leb}
use Rattle.tree.proofs.ReplacedRows.{split}
use Rattle.store.specs.Passes.{End, still_open, ended_at}
use Rattle.store.specs.BatTime.{shared_ticks}

ruleset tests = (le-leb, lt-leb)

-- "A pass lives at s to e" (Paper 2), and an open one runs on
abbrev pub lives_at : (t start : ℕ) → End → Bool
lives_at t start still_open = leb start t
lives_at t start (ended_at e) = leb start t && leb t e

-- At how many of the n ticks from t1 on it lives
abbrev pub ticks_counted : (t1 n start : ℕ) → End → ℕ
ticks_counted t1 zero start e = 0
ticks_counted t1 (suc n) start e = cond (lives_at (t1 + n) start e) 1 0 + ticks_counted t1 n start e

pub shared_counted : (t1 n start : ℕ) (e : End) → ticks_counted t1 n start e ≡ shared_ticks t1 (t1 + n) start e
shared_counted t1 zero start still_open = omega arith
shared_counted t1 zero start (ended_at e) = omega arith
shared_counted t1 (suc n) start still_open = go (split start (t1 + n)) (shared_counted t1 n start still_open)
  where
    go : (start ≤ t1 + n) ⊎ (t1 + n < start) → ticks_counted t1 n start still_open ≡ shared_ticks t1 (t1 + n) start still_open
        → cond (leb start (t1 + n)) 1 0 + ticks_counted t1 n start still_open ≡ shared_ticks t1 (t1 + suc n) start still_open
    go (inl a) ih = simp tests (omega (arith, ih))
    go (inr a) ih = simp tests (omega (arith, ih))
shared_counted t1 (suc n) start (ended_at e) = go (split start (t1 + n)) (split (t1 + n) e) (shared_counted t1 n start (ended_at e))
  where
    go : (start ≤ t1 + n) ⊎ (t1 + n < start) → (t1 + n ≤ e) ⊎ (e < t1 + n) → ticks_counted t1 n start (ended_at e) ≡ shared_ticks t1 (t1 + n) start (ended_at e)
        → cond (leb start (t1 + n) && leb (t1 + n) e) 1 0 + ticks_counted t1 n start (ended_at e) ≡ shared_ticks t1 (t1 + suc n) start (ended_at e)
    go (inl a) (inl b) ih = simp tests (omega (arith, ih))
    go (inl a) (inr b) ih = simp tests (omega (arith, ih))
    go (inr a) (inl b) ih = simp tests (omega (arith, ih))
    go (inr a) (inr b) ih = simp tests (omega (arith, ih))
