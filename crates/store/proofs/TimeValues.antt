-- What a lookup of the tree of time stands for: modulo 2^64, the weight times the ticks lived up to t, of the passes with keys up to k.
use Prim.Native.Nat.{ℕ, ◌+◌, ◌*◌, ◌-◌, ◌/◌, ◌%◌, ◌^◌, ◌≤◌, ◌<◌, min}
use native.Mathlib.Omega.{arith}
use native.Mathlib.Nat.{mul_assoc}
use mathlib.Core.Path.{◌≡◌, refl, ap, ap₂, sym, ◌∙◌}
use mathlib.Core.Bool.{cond, ◌&&◌}
use mathlib.Core.List.{List, [], ◌∷◌}
use mathlib.Core.Logic.{◌⊎◌, inl, inr}
use lib.Dec.{leb}
use borrow.Author.Tests.{le-leb, lt-leb}
use Rattle.words.specs.Lists.{All}
use Rattle.words.specs.Value.{subtract_words}
use Rattle.tree.specs.RowSteps.{Point}
use Rattle.tree.specs.PointSums.{dominated}
use Rattle.tree.proofs.ReplacedRows.{split}
use Rattle.store.specs.declared.types.TreeName.TheVariants.{Time}
use Rattle.store.specs.Passes.{End, still_open, ended_at, Pass, sum_where}
use Rattle.store.specs.Points.{end_time_of, points_of, lookup_count, lookup_sum}
use Rattle.store.proofs.SumLaws.{sum_where_append}
use Rattle.store.proofs.QuestionSums.{StartedBy}
use Rattle.store.proofs.LivedTicks.{ticks_before, lived}

-- The constant at a start
abbrev start_constant : (weight start : ℕ) → ℕ
start_constant w s = subtract_words w (w * s)

-- A start's point, d ticks later: weight times d + 1
start_value : (w s d : ℕ) → (w * (s + d) + start_constant w s) % 2 ^ 64 ≡ w * (d + 1) % 2 ^ 64
start_value w s d = omega arith

wraps : (y c a : ℕ) → (2 ^ 64 * y + (c + a % 2 ^ 64)) % 2 ^ 64 ≡ (a + c) % 2 ^ 64
wraps y c a = omega arith

-- and with the end's point, at s + d and looked up x ticks later, it stays so: the factors cancel
end_value : (w s d x : ℕ)
    → ((w + subtract_words 0 w) * (s + d + x) + (start_constant w s + w * (s + d) % 2 ^ 64)) % 2 ^ 64 ≡ w * (d + 1) % 2 ^ 64
end_value w s d x =
    let q = (w + subtract_words 0 w) / 2 ^ 64 in
    let c = start_constant w s in
    let whole : w + subtract_words 0 w ≡ 2 ^ 64 * q = omega arith in
    ap (λ (n : ℕ). (n * (s + d + x) + (c + w * (s + d) % 2 ^ 64)) % 2 ^ 64) whole
    ∙ ap (λ (n : ℕ). (n + (c + w * (s + d) % 2 ^ 64)) % 2 ^ 64) (mul_assoc (2 ^ 64) q (s + d + x))
    ∙ wraps (q * (s + d + x)) c (w * (s + d))
    ∙ start_value w s d

-- What the end of one pass brings
abbrev end_factor : (w key t k : ℕ) → End → ℕ
end_factor w key t k still_open = 0
end_factor w key t k (ended_at e) = cond (leb e t && leb key k) (subtract_words 0 w) 0

abbrev end_constant : (w key t k : ℕ) → End → ℕ
end_constant w key t k still_open = 0
end_constant w key t k (ended_at e) = cond (leb e t && leb key k) (w * e % 2 ^ 64) 0

end_factor_lem : (t k : ℕ) (p : Pass) (e : End) → lookup_count t k (end_time_of p e) ≡ end_factor p.weight p.key t k e
unfolding sum_where
end_factor_lem t k p still_open = refl
end_factor_lem t k p (ended_at e) = omega arith

end_constant_lem : (t k : ℕ) (p : Pass) (e : End) → lookup_sum t k (end_time_of p e) ≡ end_constant p.weight p.key t k e
unfolding sum_where
end_constant_lem t k p still_open = refl
end_constant_lem t k p (ended_at e) = omega arith

-- One pass, by whether its key counts, it has started and it has ended
module _ (t k w key s : ℕ) where
  abbrev Brings : End → Type 0
  Brings e =
      ((cond (leb s t && leb key k) w 0 + end_factor w key t k e) * t + (cond (leb s t && leb key k) (start_constant w s) 0 + end_constant w key t k e)) % 2 ^ 64
      ≡ cond (leb key k) (w * ticks_before (t + 1) s e) 0 % 2 ^ 64

  ruleset tests = (le-leb, lt-leb)

  early : (n : ℕ) → n ≡ 0 → (0 * t + 0) % 2 ^ 64 ≡ w * n % 2 ^ 64
  early n none = omega (arith, ap (λ (m : ℕ). w * m) none)

  started : (n : ℕ) → s ≤ t → n ≡ t - s + 1 → ((w + 0) * t + (start_constant w s + 0)) % 2 ^ 64 ≡ w * n % 2 ^ 64
  started n b ticks =
      let c = start_constant w s in
      let now : t ≡ s + (t - s) = omega arith in
      let sum : (w + 0) * t + (c + 0) ≡ w * t + c = omega arith in
      ap (λ (m : ℕ). m % 2 ^ 64) sum
      ∙ ap (λ (m : ℕ). (w * m + c) % 2 ^ 64) now
      ∙ start_value w s (t - s)
      ∙ sym (ap (λ (m : ℕ). w * m % 2 ^ 64) ticks)

  ended : (e n : ℕ) → s ≤ e → e ≤ t → n ≡ e - s + 1 → ((w + subtract_words 0 w) * t + (start_constant w s + w * e % 2 ^ 64)) % 2 ^ 64 ≡ w * n % 2 ^ 64
  ended e n b c ticks =
      let now : t ≡ s + (e - s) + (t - e) = omega arith in
      let then : e ≡ s + (e - s) = omega arith in
      ap₂ (λ (x y : ℕ). ((w + subtract_words 0 w) * x + (start_constant w s + w * y % 2 ^ 64)) % 2 ^ 64) now then
      ∙ end_value w s (e - s) (t - e)
      ∙ sym (ap (λ (m : ℕ). w * m % 2 ^ 64) ticks)

  one_pass : (e : End) → StartedBy s e → Brings e
  one_pass still_open h = go (split key k) (split s t)
    where
      go : (key ≤ k) ⊎ (k < key) → (s ≤ t) ⊎ (t < s) → Brings still_open
      go (inr a) (inl b) = simp tests (omega arith)
      go (inr a) (inr b) = simp tests (omega arith)
      go (inl a) (inr b) = simp tests (early (t + 1 - s) (omega arith))
      go (inl a) (inl b) = simp tests (started (t + 1 - s) b (omega arith))
  one_pass (ended_at e) h = go (split key k) (split s t) (split e t)
    where
      go : (key ≤ k) ⊎ (k < key) → (s ≤ t) ⊎ (t < s) → (e ≤ t) ⊎ (t < e) → Brings (ended_at e)
      go (inr a) (inl b) (inl c) = simp tests (omega arith)
      go (inr a) (inl b) (inr c) = simp tests (omega arith)
      go (inr a) (inr b) (inl c) = simp tests (omega arith)
      go (inr a) (inr b) (inr c) = simp tests (omega arith)
      go (inl a) (inr b) (inl c) = absurd (omega arith)
      go (inl a) (inr b) (inr c) = simp tests (early (min (t + 1) (e + 1) - s) (omega arith))
      go (inl a) (inl b) (inl c) = simp tests (ended e (min (t + 1) (e + 1) - s) h c (omega arith))
      go (inl a) (inl b) (inr c) = simp tests (started (min (t + 1) (e + 1) - s) b (omega arith))

add_same : (a b c d : ℕ) → a % 2 ^ 64 ≡ b % 2 ^ 64 → c % 2 ^ 64 ≡ d % 2 ^ 64 → (a + c) % 2 ^ 64 ≡ (b + d) % 2 ^ 64
add_same a b c d e f = omega arith

-- All passes: the factors and constants of the points with tick ≤ t and key ≤ k, at t
pub time_lived : (t k : ℕ) (passes : List Pass) → All (λ (p : Pass). StartedBy p.start p.end) passes
    → (lookup_count t k (points_of Time passes) * t + lookup_sum t k (points_of Time passes)) % 2 ^ 64
    ≡ sum_where (lived (t + 1)) (λ (p : Pass). leb p.key k) passes % 2 ^ 64
unfolding points_of sum_where
time_lived t k [] h = omega arith
time_lived t k (p ∷ passes) h =
    let rest = points_of Time passes in
    let s = cond (leb p.start t && leb p.key k) p.weight 0 in
    let c = cond (leb p.start t && leb p.key k) (start_constant p.weight p.start) 0 in
    let f = end_factor p.weight p.key t k p.end in
    let d = end_constant p.weight p.key t k p.end in
    let fs : lookup_count t k (points_of Time (p ∷ passes)) ≡ s + f + lookup_count t k rest =
    omega (arith, sum_where_append (λ (q : Point). q.value.count) (dominated t k) (end_time_of p p.end) rest, end_factor_lem t k p p.end) in
    let cs : lookup_sum t k (points_of Time (p ∷ passes)) ≡ c + d + lookup_sum t k rest =
    omega (arith, sum_where_append (λ (q : Point). q.value.sum) (dominated t k) (end_time_of p p.end) rest, end_constant_lem t k p p.end) in
    ap₂ (λ (x y : ℕ). (x * t + y) % 2 ^ 64) fs cs
    ∙ ap (λ (n : ℕ). n % 2 ^ 64) (apart (s + f) (lookup_count t k rest) (c + d) (lookup_sum t k rest))
    ∙ add_same ((s + f) * t + (c + d)) (cond (leb p.key k) (lived (t + 1) p) 0) (lookup_count t k rest * t + lookup_sum t k rest)
    (sum_where (lived (t + 1)) (λ (q : Pass). leb q.key k) passes) (one_pass t k p.weight p.key p.start p.end h.0) (time_lived t k passes h.1)
  where
    apart : (a b c d : ℕ) → (a + b) * t + (c + d) ≡ a * t + c + (b * t + d)
    apart a b c d = omega arith
