-- Differences of words, of values and of lines, modulo 2^64: those of the four lookups of a band, taken away in the order of the definition or tree by tree.
use Prim.Native.Nat.{ℕ, ◌+◌, ◌-◌, ◌%◌, ◌^◌, ◌<◌}
use native.Mathlib.Omega.{arith}
use mathlib.Core.Path.{◌≡◌, ap, sym, ◌∙◌}
use Rattle.words.specs.declared.value.Value.{Value}
use Rattle.words.specs.Value.{zero, plus, minus, add_words, subtract_words, line_at}
use Rattle.words.proofs.ValueLaws.{value_path}
use Rattle.words.proofs.LineLaws.{line_minus, line_zero}

-- What is taken away in two steps may be taken away in either order
mod_swap : (a u v : ℕ) → ((a + u) % 2 ^ 64 + v) % 2 ^ 64 ≡ ((a + v) % 2 ^ 64 + u) % 2 ^ 64
mod_swap a u v = omega arith

mod_in : (x d : ℕ) → (x % 2 ^ 64 + d) % 2 ^ 64 ≡ (x + d) % 2 ^ 64
mod_in x d = omega arith

less_more : (b d : ℕ) → ((b + (2 ^ 64 - d % 2 ^ 64)) % 2 ^ 64 + d) % 2 ^ 64 ≡ b % 2 ^ 64
less_more b d = omega arith

less_of : (x r d e : ℕ) → e < 2 ^ 64 → (e + d) % 2 ^ 64 ≡ r → (x + (2 ^ 64 - r) + d) % 2 ^ 64 ≡ (x + (2 ^ 64 - e)) % 2 ^ 64
less_of x r d e h f = omega arith

in_mod : (e : ℕ) → e % 2 ^ 64 % 2 ^ 64 ≡ e % 2 ^ 64
in_mod e = omega arith

-- What was taken away too much is put back
put_back : (x b d : ℕ)
    → ((x + (2 ^ 64 - b % 2 ^ 64)) % 2 ^ 64 + d) % 2 ^ 64 ≡ (x + (2 ^ 64 - (b + (2 ^ 64 - d % 2 ^ 64)) % 2 ^ 64 % 2 ^ 64)) % 2 ^ 64
put_back x b d =
    let e : ℕ = b + (2 ^ 64 - d % 2 ^ 64) in
    mod_in (x + (2 ^ 64 - b % 2 ^ 64)) d
    ∙ less_of x (b % 2 ^ 64) d (e % 2 ^ 64) (omega arith) (less_more b d)
    ∙ ap (λ (n : ℕ). (x + (2 ^ 64 - n)) % 2 ^ 64) (sym (in_mod e))

four_words : (a b c d : ℕ) → add_words (subtract_words (subtract_words a b) c) d ≡ subtract_words (subtract_words a c) (subtract_words b d)
four_words a b c d =
    ap (λ (n : ℕ). (n + d) % 2 ^ 64) (mod_swap a (2 ^ 64 - b % 2 ^ 64) (2 ^ 64 - c % 2 ^ 64))
    ∙ put_back ((a + (2 ^ 64 - c % 2 ^ 64)) % 2 ^ 64) b d

two_words : (a b : ℕ) → add_words (subtract_words (subtract_words a b) 0) 0 ≡ subtract_words a b
two_words a b = omega arith

pub no_value : minus zero zero ≡ zero
unfolding minus
no_value = value_path (omega arith) (omega arith)

pub four_values : (a b c d : Value) → minus (minus a c) (minus b d) ≡ plus (minus (minus a b) c) d
unfolding plus minus
four_values a b c d =
    value_path (sym (four_words a.count b.count c.count d.count)) (sym (four_words a.sum b.sum c.sum d.sum))

pub two_values : (a b : Value) → minus a b ≡ plus (minus (minus a b) zero) zero
unfolding plus minus
two_values a b = value_path (sym (two_words a.count b.count)) (sym (two_words a.sum b.sum))

-- The same of lines, those of one tree at a tick t, those of the other at a tick u
pub four_lines : (a b c d : Value) (t u : ℕ)
    → subtract_words (line_at (minus a c) t) (line_at (minus b d) u)
    ≡ add_words (subtract_words (subtract_words (line_at a t) (line_at b u)) (line_at c t)) (line_at d u)
four_lines a b c d t u =
    rw (line_minus a c t, line_minus b d u) (sym (four_words (line_at a t) (line_at b u) (line_at c t) (line_at d u)))

pub two_lines : (a b : Value) (t u : ℕ)
    → subtract_words (line_at a t) (line_at b u) ≡ add_words (subtract_words (subtract_words (line_at a t) (line_at b u)) (line_at zero t)) (line_at zero u)
two_lines a b t u = rw (line_zero t, line_zero u) (sym (two_words (line_at a t) (line_at b u)))
