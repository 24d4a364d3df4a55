-- The ticks that a pass has lived before a tick, and how they grow: what the tree of time adds up.
use Prim.Native.Nat.{ℕ, ◌+◌, ◌*◌, ◌-◌, ◌≤◌, min}
use native.Mathlib.Omega.{arith}
use native.Mathlib.Nat.{mul-le-mul_left, mul-le-mul_right}
use mathlib.Core.Path.{◌≡◌, ap}
use mathlib.Core.Bool.{cond}
use Rattle.store.specs.Head.{weight_limit}
use Rattle.store.specs.Passes.{End, still_open, ended_at, Pass}
use Rattle.store.specs.BatTime.{shared_ticks}
use Rattle.store.specs.Book.{not_ended}

-- The ticks of a life before t; an open pass runs on
abbrev pub ticks_before : (t start : ℕ) → End → ℕ
ticks_before t start still_open = t - start
ticks_before t start (ended_at e) = min t (e + 1) - start

-- Weight times these
abbrev pub lived : ℕ → Pass → ℕ
lived t p = p.weight * ticks_before t p.start p.end

-- The ticks shared with an interval are those before its end that are not before its beginning
pub shared_lived : (t1 t2 start : ℕ) (e : End) → t1 ≤ t2 → shared_ticks t1 t2 start e + ticks_before t1 start e ≡ ticks_before t2 start e
shared_lived t1 t2 start still_open h = omega arith
shared_lived t1 t2 start (ended_at e) h = omega arith

-- None are before the start
pub none_lived : (t start : ℕ) (e : End) → t ≤ start → ticks_before t start e ≡ 0
none_lived t start still_open h = omega arith
none_lived t start (ended_at e) h = omega arith

-- They never become fewer
ticks_rise : (t u start : ℕ) (e : End) → t ≤ u → ticks_before t start e ≤ ticks_before u start e
ticks_rise t u start still_open h = omega arith
ticks_rise t u start (ended_at e) h = omega arith

pub lived_rise : (t u : ℕ) → t ≤ u → (p : Pass) → lived t p ≤ lived u p
lived_rise t u h p = mul-le-mul_left p.weight (ticks_rise t u p.start p.end h)

-- A pass that has ended did so no later than the last tick
abbrev pub EndedBy : ℕ → End → Type 0
EndedBy last still_open = Unit {0}
EndedBy last (ended_at e) = e ≤ last

-- In d ticks past the last one an open pass gathers at most d × 10,000, and one that has ended nothing
pub gathers : (last d weight start : ℕ) (e : End) → weight ≤ weight_limit → start ≤ last → EndedBy last e
    → weight * ticks_before (last + d + 1) start e ≤ weight * ticks_before (last + 1) start e + weight_limit * (d * cond (not_ended e) 1 0)
gathers last d weight start still_open h started ended =
    let more : last + d + 1 - start ≡ last + 1 - start + d = omega arith in
    omega (arith, ap (λ (n : ℕ). weight * n) more, mul-le-mul_right d h)
gathers last d weight start (ended_at e) h started ended =
    let same : min (last + d + 1) (e + 1) - start ≡ min (last + 1) (e + 1) - start = omega arith in
    omega (arith, ap (λ (n : ℕ). weight * n) same)
