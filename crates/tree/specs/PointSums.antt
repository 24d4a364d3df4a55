-- Which points a lookup adds, and which keys points have.
use Rattle.std.specs.Prelude.{ℕ, zero, suc, ◌+◌, List, [], ◌∷◌, Bool, false, cond, ◌&&◌, ◌||◌, leb, eqb}
use Rattle.tree.specs.RowSteps.{Point}

-- "the points with tick ≤ t and key ≤ k"
abbrev pub dominated : ℕ → ℕ → Point → Bool
dominated t k p = leb p.tick t && leb p.key k

-- Some point has the key
abbrev pub is_taken : List Point → ℕ → Bool
is_taken [] k = false
is_taken (p ∷ points) k = eqb k p.key || is_taken points k

-- How many of the numbers pass a test: `count` of them, the first of which is `from`
unfoldable pub how_many : (ℕ → Bool) → ℕ → ℕ → ℕ
how_many test from zero = 0
how_many test from (suc count) = cond (test from) 1 0 + how_many test (suc from) count

-- The different keys above zero that the points have: keys 1 to 29,999
abbrev pub different_keys : List Point → ℕ
different_keys points = how_many (is_taken points) 1 29999
