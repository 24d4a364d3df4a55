-- A question from its four lookups: "starts(t2 - 1, k2 - 1) - ends(t1 - 1, k2 - 1) - starts(t2 - 1, k1 - 1) + ends(t1 - 1, k1 - 1)" counts the passes of
-- Definition 1, because a pass that ended before t1 started before t2.
use Prim.Native.Nat.{ℕ, ◌+◌, ◌-◌, ◌≤◌, ◌<◌}
use native.Mathlib.Omega.{arith}
use mathlib.Core.Path.{◌≡◌, refl, ap, ap₂, ◌∙◌}
use mathlib.Core.Bool.{Bool, true, false, cond, ◌&&◌}
use mathlib.Core.List.{List, [], ◌∷◌}
use mathlib.Core.Logic.{◌⊎◌, inl, inr}
use lib.Dec.{leb, ltb}
use borrow.Author.Tests.{le-leb, lt-leb, lt-ltb, le-ltb}
use Rattle.words.specs.Lists.{All}
use Rattle.words.specs.declared.value.Value.{Value}
use Rattle.tree.specs.RowSteps.{Point}
use Rattle.tree.specs.PointSums.{dominated}
use Rattle.tree.proofs.ReplacedRows.{split}
use Rattle.store.specs.Passes.{End, still_open, ended_at, Pass, not_ended_before, meets, sum_where}
use Rattle.store.specs.declared.types.TreeName.TheVariants.{Starts, Ends}
use Rattle.store.specs.Points.{end_points_of, points_of}
use Rattle.store.proofs.SumLaws.{sum_where_append, sum_where_same, sum_where_none}

ruleset tests = (le-leb, lt-leb, lt-ltb, le-ltb)

-- A pass that has ended started no later
abbrev pub StartedBy : ℕ → End → Type 0
StartedBy start still_open = Unit {0}
StartedBy start (ended_at e) = start ≤ e

-- "no later than one less" is "before"
pub up_to_is_before : (n x : ℕ) → 1 ≤ n → leb x (n - 1) ≡ ltb x n
up_to_is_before n x some = go (split n x)
  where
    go : (n ≤ x) ⊎ (x < n) → leb x (n - 1) ≡ ltb x n
    go (inl h) = let y : n - 1 < x = omega arith in simp tests
    go (inr h) = let y : x ≤ n - 1 = omega arith in simp tests

none_lower : (x : ℕ) → ltb x 0 ≡ false
none_lower x = le-ltb x 0 (omega arith)

and-false : (b : Bool) → b && false ≡ false
and-false true = refl
and-false false = refl

module _ (measure : Value → ℕ) where
  abbrev amount : Point → ℕ
  amount p = measure p.value

  -- What a pass brings
  abbrev pub pass_amount : Pass → ℕ
  pass_amount p = measure (record { count = 1; sum = p.weight })

  -- The points before tick t and below key k
  abbrev pub before : ℕ → ℕ → Point → Bool
  before t k p = ltb p.tick t && ltb p.key k

  abbrev pub added_before : ℕ → ℕ → List Point → ℕ
  added_before t k points = sum_where amount (before t k) points

  pub up_to_before : (t k : ℕ) → 1 ≤ t → 1 ≤ k → (points : List Point) → sum_where amount (dominated (t - 1) (k - 1)) points ≡ added_before t k points
  up_to_before t k tick key points =
      sum_where_same amount (dominated (t - 1) (k - 1)) (before t k)
      (λ p. ap₂ ◌&&◌ (up_to_is_before t p.tick tick) (up_to_is_before k p.key key)) points

  -- None are before tick 0 or below key 0
  pub none_before : (k : ℕ) (points : List Point) → added_before 0 k points ≡ 0
  none_before k points = sum_where_none amount (before 0 k) (λ p. ap (λ (b : Bool). b && ltb p.key k) (none_lower p.tick)) points

  pub none_below : (t : ℕ) (points : List Point) → added_before t 0 points ≡ 0
  none_below t points =
      sum_where_none amount (before t 0) (λ p. ap (◌&&◌ (ltb p.tick t)) (none_lower p.key) ∙ and-false (ltb p.tick t)) points

  abbrev end_amount : (w key t k : ℕ) → End → ℕ
  end_amount w key t k still_open = 0
  end_amount w key t k (ended_at e) = cond (ltb e t && ltb key k) w 0

  end_one : (t k : ℕ) (p : Pass) (e : End) → added_before t k (end_points_of p e) ≡ end_amount (pass_amount p) p.key t k e
  unfolding sum_where
  end_one t k p still_open = refl
  end_one t k p (ended_at e) = omega arith

  module _ (k1 k2 t1 t2 : ℕ) (keys : k1 < k2) (ticks : t1 < t2) where
    -- One pass, by where its key lies and when it lived
    one_pass : (w key start : ℕ) (e : End) → StartedBy start e
        → cond (ltb start t2 && ltb key k2) w 0 + end_amount w key t1 k1 e
        ≡ cond (leb k1 key && (ltb key k2 && (ltb start t2 && not_ended_before t1 e))) w 0
        + (end_amount w key t1 k2 e + cond (ltb start t2 && ltb key k1) w 0)
    one_pass w key start still_open s = go (split t2 start) (split k1 key) (split k2 key)
      where
        go : (t2 ≤ start) ⊎ (start < t2) → (k1 ≤ key) ⊎ (key < k1) → (k2 ≤ key) ⊎ (key < k2)
            → cond (ltb start t2 && ltb key k2) w 0 + 0
            ≡ cond (leb k1 key && (ltb key k2 && (ltb start t2 && true))) w 0 + (0 + cond (ltb start t2 && ltb key k1) w 0)
        go (inl c) (inl a) (inl b) = simp tests
        go (inl c) (inl a) (inr b) = simp tests
        go (inl c) (inr a) (inl b) = absurd (omega arith)
        go (inl c) (inr a) (inr b) = simp tests
        go (inr c) (inl a) (inl b) = simp tests
        go (inr c) (inl a) (inr b) = simp tests (omega arith)
        go (inr c) (inr a) (inl b) = absurd (omega arith)
        go (inr c) (inr a) (inr b) = simp tests (omega arith)
    one_pass w key start (ended_at e) s = go (split t1 e) (split t2 start) (split k1 key) (split k2 key)
      where
        go : (t1 ≤ e) ⊎ (e < t1) → (t2 ≤ start) ⊎ (start < t2) → (k1 ≤ key) ⊎ (key < k1) → (k2 ≤ key) ⊎ (key < k2)
            → cond (ltb start t2 && ltb key k2) w 0 + cond (ltb e t1 && ltb key k1) w 0
            ≡ cond (leb k1 key && (ltb key k2 && (ltb start t2 && leb t1 e))) w 0
            + (cond (ltb e t1 && ltb key k2) w 0 + cond (ltb start t2 && ltb key k1) w 0)
        go (inr d) (inl c) a b = absurd (omega arith)
        go (inr d) (inr c) (inl a) (inl b) = simp tests
        go (inr d) (inr c) (inl a) (inr b) = simp tests (omega arith)
        go (inr d) (inr c) (inr a) (inl b) = absurd (omega arith)
        go (inr d) (inr c) (inr a) (inr b) = simp tests (omega arith)
        go (inl d) (inl c) (inl a) (inl b) = simp tests
        go (inl d) (inl c) (inl a) (inr b) = simp tests
        go (inl d) (inl c) (inr a) (inl b) = absurd (omega arith)
        go (inl d) (inl c) (inr a) (inr b) = simp tests
        go (inl d) (inr c) (inl a) (inl b) = simp tests
        go (inl d) (inr c) (inl a) (inr b) = simp tests (omega arith)
        go (inl d) (inr c) (inr a) (inl b) = absurd (omega arith)
        go (inl d) (inr c) (inr a) (inr b) = simp tests (omega arith)

    -- All passes
    pub four_sums : (passes : List Pass) → All (λ (p : Pass). StartedBy p.start p.end) passes
        → added_before t2 k2 (points_of Starts passes) + added_before t1 k1 (points_of Ends passes)
        ≡ sum_where pass_amount (meets k1 k2 t1 t2) passes
        + (added_before t1 k2 (points_of Ends passes) + added_before t2 k1 (points_of Starts passes))
    unfolding points_of sum_where
    four_sums [] h = refl
    four_sums (p ∷ passes) h =
        omega (
          arith,
          one_pass (pass_amount p) p.key p.start p.end h.0,
          four_sums passes h.1,
          sum_where_append amount (before t1 k1) (end_points_of p p.end) (points_of Ends passes),
          sum_where_append amount (before t1 k2) (end_points_of p p.end) (points_of Ends passes),
          end_one t1 k1 p p.end,
          end_one t1 k2 p p.end,
        )
