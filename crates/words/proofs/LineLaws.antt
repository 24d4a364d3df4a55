-- Lines over ticks, modulo 2^64: what fits a word, and a line less another.
use Rattle.std.proofs.Common.{◌≡◌, ℕ, ◌+◌, ◌-◌, ◌*◌, ◌/◌, ◌%◌, ◌^◌, ◌<◌, ◌≤◌, sym, ap, ◌∙◌, mul-le-mul_left, arith}
use Rattle.words.specs.declared.value.Value.{Value}
use Rattle.words.specs.Value.{subtract_words, minus, line, factor_of, constant_of, line_at}
use Rattle.words.specs.Value as value

-- Two numbers of 32 bits make a word
pub product_fits : (a b : ℕ) → a < 2 ^ 32 → b < 2 ^ 32 → a * b < 2 ^ 64
product_fits a b h k =
    let near : a * b ≤ a * 4294967295 = mul-le-mul_left a (omega arith) in
    omega arith

-- What a difference is, without a remainder
record Whole (a b : ℕ) : Type 0 where
  pub more : ℕ
  pub less : ℕ
  pub is : subtract_words a b + b + 2 ^ 64 * less ≡ a + 2 ^ 64 * more

whole : (a b : ℕ) → Whole a b
whole a b = record { more = 1 + b / 2 ^ 64; less = (a + (2 ^ 64 - b % 2 ^ 64)) / 2 ^ 64; is = omega arith }

-- and the other way: a number that makes up for what is taken away is the difference
wraps : (x k : ℕ) → (x + 2 ^ 64 * k) % 2 ^ 64 ≡ x % 2 ^ 64
wraps x k = omega arith

makes_up : (x y z p q : ℕ) → x + y + 2 ^ 64 * p ≡ z + 2 ^ 64 * q → x % 2 ^ 64 ≡ subtract_words (z % 2 ^ 64) (y % 2 ^ 64)
makes_up x y z p q e =
    let a : ℕ = z / 2 ^ 64 in
    let b : ℕ = y / 2 ^ 64 in
    let same : x + 2 ^ 64 * (1 + p + b) ≡ z % 2 ^ 64 + (2 ^ 64 - y % 2 ^ 64) + 2 ^ 64 * (q + a) = omega arith in
    let once : y % 2 ^ 64 % 2 ^ 64 ≡ y % 2 ^ 64 = omega arith in
    sym (wraps x (1 + p + b))
    ∙ ap (λ (n : ℕ). n % 2 ^ 64) same
    ∙ wraps (z % 2 ^ 64 + (2 ^ 64 - y % 2 ^ 64)) (q + a)
    ∙ ap (λ (n : ℕ). (z % 2 ^ 64 + (2 ^ 64 - n)) % 2 ^ 64) (sym once)

-- The value of a line that is one less another is the one value less the other
pub line_minus : (a b : Value) (t : ℕ) → line_at (minus a b) t ≡ subtract_words (line_at a t) (line_at b t)
unfolding line_at minus
line_minus a b t =
    let f = whole (factor_of a) (factor_of b) in
    let c = whole (constant_of a) (constant_of b) in
    let ft : ℕ = subtract_words (factor_of a) (factor_of b) in
    let k : ℕ = subtract_words (constant_of a) (constant_of b) in
    makes_up (ft * t + k) (factor_of b * t + constant_of b) (factor_of a * t + constant_of a) (f.less * t + c.less) (f.more * t + c.more)
    (add ft (factor_of a) (factor_of b) k (constant_of a) (constant_of b) f.less f.more c.less c.more f.is c.is)
  where
    add : (f fa fb k ka kb p q p' q' : ℕ) → f + fb + 2 ^ 64 * p ≡ fa + 2 ^ 64 * q → k + kb + 2 ^ 64 * p' ≡ ka + 2 ^ 64 * q'
        → f * t + k + (fb * t + kb) + 2 ^ 64 * (p * t + p') ≡ fa * t + ka + 2 ^ 64 * (q * t + q')
    add f fa fb k ka kb p q p' q' e g = omega (arith, ap (λ (n : ℕ). n * t) e)

-- The line of nothing
pub line_zero : (t : ℕ) → line_at value.zero t ≡ 0
unfolding line_at
line_zero t = omega arith

-- Both words of a line may be kept modulo 2^64
pub line_words : (factor constant t : ℕ) → line_at (line (factor % 2 ^ 64) (constant % 2 ^ 64)) t ≡ (factor * t + constant) % 2 ^ 64
unfolding line_at
line_words factor constant t =
    let whole : factor ≡ 2 ^ 64 * (factor / 2 ^ 64) + factor % 2 ^ 64 = omega arith in
    omega (arith, ap (λ (n : ℕ). n * t) whole)
