-- Numbers added up over a list.
use Rattle.std.specs.Prelude.{ℕ, ◌+◌, Bool, cond, List}
use mathlib.Core.List.{foldr}

-- A number of each item, added up
abbrev pub sum_by : {A : Type 0} → (A → ℕ) → List A → ℕ
sum_by {A} f xs = foldr (λ (x : A) (n : ℕ). f x + n) 0 xs

-- How many items pass a test
abbrev pub count : {A : Type 0} → (A → Bool) → List A → ℕ
count {A} test xs = sum_by (λ (x : A). cond (test x) 1 0) xs
