-- Definition 1 of source document 002 asks for records "whose keys are in R and whose time intervals intersect I". What `meets` tests is that: the pass's key is in
-- the band, and some tick of the question is one at which the pass lives.
use Prim.Native.Nat.{ℕ, ◌≤◌, ◌<◌, max}
use native.Mathlib.Omega.{arith}
use mathlib.Core.Path.{◌≡◌, refl}
use mathlib.Core.Bool.{true, ◌&&◌, and-eq-true_iff}
use lib.Dec.{leb, ltb}
use borrow.Author.Tests.{le-leb, lt-ltb, leb-true, ltb-true}
use Rattle.store.specs.Passes.{End, still_open, ended_at, Pass, not_ended_before, meets}
use Rattle.store.proofs.QuestionSums.{StartedBy}

-- "A pass lives at s to e" (document 02, Paper 2); "an open pass has no last tick."
abbrev pub UpToEnd : ℕ → End → Type 0
UpToEnd t still_open = Unit {0}
UpToEnd t (ended_at e) = t ≤ e

pub record LivesAt (p : Pass) (t : ℕ) : Type 0 where
  pub started : p.start ≤ t
  pub not_ended_lem : UpToEnd t p.end

-- A tick of the question, t1 up to but not t2, at which the pass lives
pub record Intersects (p : Pass) (t1 t2 : ℕ) : Type 0 where
  pub tick : ℕ
  pub from : t1 ≤ tick
  pub before : tick < t2
  pub lives : LivesAt p tick

-- "keys k1 up to but not k2"
pub record InBand (p : Pass) (k1 k2 : ℕ) : Type 0 where
  pub low : k1 ≤ p.key
  pub high : p.key < k2

-- The later of t1 and the start is such a tick, where there is one
later_lives : (t1 start : ℕ) (e : End) → StartedBy start e → not_ended_before t1 e ≡ true → UpToEnd (max t1 start) e
later_lives t1 start still_open lived after = tt
later_lives t1 start (ended_at e) lived after = omega (arith, lived, leb-true t1 e after)

ends_later : (t1 tick : ℕ) (e : End) → t1 ≤ tick → UpToEnd tick e → not_ended_before t1 e ≡ true
ends_later t1 tick still_open from up_to_lem = refl
ends_later t1 tick (ended_at e) from up_to_lem = le-leb t1 e (omega arith)

module _ (p : Pass) (k1 k2 t1 t2 : ℕ) where
  -- A question that meets a pass intersects its life
  pub meets_intersects : t1 < t2 → StartedBy p.start p.end → meets k1 k2 t1 t2 p ≡ true → InBand p k1 k2 × Intersects p t1 t2
  meets_intersects some lived e =
      let low = (and-eq-true_iff (leb k1 p.key) (ltb p.key k2 && (ltb p.start t2 && not_ended_before t1 p.end))).0 e in
      let high = (and-eq-true_iff (ltb p.key k2) (ltb p.start t2 && not_ended_before t1 p.end)).0 low.1 in
      let ticks = (and-eq-true_iff (ltb p.start t2) (not_ended_before t1 p.end)).0 high.1 in
      let starts = ltb-true p.start t2 ticks.0 in (
        record { low = leb-true k1 p.key low.0; high = ltb-true p.key k2 high.0 },
        record {
          tick = max t1 p.start;
          from = omega arith;
          before = omega arith;
          lives = record { started = omega arith; not_ended_lem = later_lives t1 p.start p.end lived ticks.1 };
        },
      )

  -- and the other way
  pub intersects_meets : InBand p k1 k2 → Intersects p t1 t2 → meets k1 k2 t1 t2 p ≡ true
  intersects_meets band i =
      rw (
        le-leb k1 p.key band.low,
        lt-ltb p.key k2 band.high,
        lt-ltb p.start t2 (omega (arith, i.lives.started, i.before)),
        ends_later t1 i.tick p.end i.from i.lives.not_ended_lem,
      )
      refl
