-- What is said of all items of a list, and a number added up over them.
use Prim.Native.Nat.{ℕ, zero, suc, ◌+◌, ◌≤◌, ◌<◌}
use native.Mathlib.Omega.{arith}
use mathlib.Core.Path.{◌≡◌, refl, ap, ap₂, sym, ◌∙◌}
use mathlib.Core.Bool.{Bool, true, cond}
use mathlib.Core.List.{List, [], ◌∷◌, ◌++◌, map}
use lib.ListN.{length, get_or, set, take, drop, length-map}
pub use Rattle.words.specs.Lists.{All}
pub use Rattle.words.specs.Sums.{sum_by, count}

module _ {A : Type 0} where
  pub all_map : (P Q : A → Type 0) → ((x : A) → P x → Q x) → (xs : List A) → All P xs → All Q xs
  all_map P Q f [] h = tt
  all_map P Q f (x ∷ xs) h = (f x h.0, all_map P Q f xs h.1)

  pub all_same : (P : A → Type 0) → ((x : A) → P x) → (xs : List A) → All P xs
  all_same P h [] = tt
  all_same P h (x ∷ xs) = (h x, all_same P h xs)

  pub all_both : (P Q R : A → Type 0) → ((x : A) → P x → Q x → R x) → (xs : List A) → All P xs → All Q xs → All R xs
  all_both P Q R f [] p q = tt
  all_both P Q R f (x ∷ xs) p q = (f x p.0 q.0, all_both P Q R f xs p.1 q.1)

  -- The item at a place has it
  pub all_at : (P : A → Type 0) (xs : List A) (i : ℕ) (d : A) → All P xs → i < length xs → P (get_or xs i d)
  all_at P [] i d h p = absurd (omega arith)
  all_at P (x ∷ xs) zero d h p = h.0
  all_at P (x ∷ xs) (suc i) d h p = all_at P xs i d h.1 (omega arith)

  -- What all items have, with one written over, with more of them, and with some left out
  pub all_set : (P : A → Type 0) (xs : List A) (i : ℕ) (a : A) → P a → All P xs → All P (set xs i a)
  all_set P [] i a p h = tt
  all_set P (x ∷ xs) zero a p h = (p, h.1)
  all_set P (x ∷ xs) (suc i) a p h = (h.0, all_set P xs i a p h.1)

  pub all_append : (P : A → Type 0) (xs ys : List A) → All P xs → All P ys → All P (xs ++ ys)
  all_append P [] ys h k = k
  all_append P (x ∷ xs) ys h k = (h.0, all_append P xs ys h.1 k)

  pub all_take : (P : A → Type 0) (i : ℕ) (xs : List A) → All P xs → All P (take i xs)
  all_take P zero xs h = tt
  all_take P (suc i) [] h = tt
  all_take P (suc i) (x ∷ xs) h = (h.0, all_take P i xs h.1)

  pub all_drop : (P : A → Type 0) (i : ℕ) (xs : List A) → All P xs → All P (drop i xs)
  all_drop P zero xs h = h
  all_drop P (suc i) [] h = tt
  all_drop P (suc i) (x ∷ xs) h = all_drop P i xs h.1

  -- Numbers added up over the items
  pub sum_append : (f : A → ℕ) (xs ys : List A) → sum_by f (xs ++ ys) ≡ sum_by f xs + sum_by f ys
  sum_append f [] ys = omega arith
  sum_append f (x ∷ xs) ys = omega (arith, sum_append f xs ys)

  pub sum_same : (f g : A → ℕ) → ((x : A) → f x ≡ g x) → (xs : List A) → sum_by f xs ≡ sum_by g xs
  sum_same f g h [] = refl
  sum_same f g h (x ∷ xs) = ap₂ ◌+◌ (h x) (sum_same f g h xs)

  pub sum_same_at : (f g : A → ℕ) (xs : List A) (d : A)
      → ((i : ℕ) → i < length xs → f (get_or xs i d) ≡ g (get_or xs i d)) → sum_by f xs ≡ sum_by g xs
  sum_same_at f g [] d h = refl
  sum_same_at f g (x ∷ xs) d h = ap₂ ◌+◌ (h 0 (omega arith)) (sum_same_at f g xs d (λ i p. h (suc i) (omega arith)))

  -- Two sums that differ at one place only
  pub sum_but_one : (f g : A → ℕ) (xs : List A) (i : ℕ) (d : A) → i < length xs
      → ((j : ℕ) → j < length xs → (j ≡ i → ⊥) → f (get_or xs j d) ≡ g (get_or xs j d))
      → g (get_or xs i d) + sum_by f xs ≡ f (get_or xs i d) + sum_by g xs
  sum_but_one f g [] i d p h = absurd (omega arith)
  sum_but_one f g (x ∷ xs) zero d p h =
      omega (arith, sum_same_at f g xs d (λ j q. h (suc j) (omega arith) (λ e. omega arith)))
  sum_but_one f g (x ∷ xs) (suc i) d p h =
      let rest = sum_but_one f g xs i d (omega arith) (λ j q n. h (suc j) (omega arith) (λ e. n (omega arith))) in
      omega (arith, h 0 (omega arith) (λ e. omega arith), rest)

  -- 1 for an item that passes a test
  abbrev pub one_if : (A → Bool) → A → ℕ
  one_if test x = cond (test x) 1 0

  -- An item that passes it is counted
  pub count_at : (test : A → Bool) (xs : List A) (i : ℕ) (d : A) → i < length xs → test (get_or xs i d) ≡ true → 1 ≤ count test xs
  count_at test [] i d p e = absurd (omega arith)
  count_at test (x ∷ xs) zero d p e = rw e (omega arith)
  count_at test (x ∷ xs) (suc i) d p e = omega (arith, count_at test xs i d (omega arith) e)

  -- Where one item at most passes it, that item has one place
  pub count_place : (test : A → Bool) (xs : List A) (i j : ℕ) (d : A) → count test xs ≤ 1
      → i < length xs → test (get_or xs i d) ≡ true → j < length xs → test (get_or xs j d) ≡ true → i ≡ j
  count_place test [] i j d h p e q f = absurd (omega arith)
  count_place test (x ∷ xs) zero zero d h p e q f = refl
  count_place test (x ∷ xs) zero (suc j) d h p e q f =
      let both : 1 + count test xs ≤ 1 = rw e at h in
      absurd (omega (arith, count_at test xs j d (omega arith) f))
  count_place test (x ∷ xs) (suc i) zero d h p e q f =
      let both : 1 + count test xs ≤ 1 = rw f at h in
      absurd (omega (arith, count_at test xs i d (omega arith) e))
  count_place test (x ∷ xs) (suc i) (suc j) d h p e q f = ap suc (count_place test xs i j d (omega arith) (omega arith) e (omega arith) f)

-- What is known of a field that is an array of structs is the length of a list that its elements are mapped to
pub length_mapped : (X Y : Type 0) (f : X → Y) (l : List X) (n : ℕ) → length (map f l) ≡ n → length l ≡ n
length_mapped X Y f l n e = sym (length-map l f) ∙ e

-- A list with a function at each item
pub map_append : {A B : Type 0} (f : A → B) (xs ys : List A) → map f (xs ++ ys) ≡ map f xs ++ map f ys
map_append f [] ys = refl
map_append f (x ∷ xs) ys = ap (◌∷◌ (f x)) (map_append f xs ys)

pub map_set : {A B : Type 0} (f : A → B) (xs : List A) (i : ℕ) (a : A) → map f (set xs i a) ≡ set (map f xs) i (f a)
map_set f [] i a = refl
map_set f (x ∷ xs) zero a = refl
map_set f (x ∷ xs) (suc i) a = ap (◌∷◌ (f x)) (map_set f xs i a)

pub map_take : {A B : Type 0} (f : A → B) (i : ℕ) (xs : List A) → map f (take i xs) ≡ take i (map f xs)
map_take f zero xs = refl
map_take f (suc i) [] = refl
map_take f (suc i) (x ∷ xs) = ap (◌∷◌ (f x)) (map_take f i xs)

pub map_drop : {A B : Type 0} (f : A → B) (i : ℕ) (xs : List A) → map f (drop i xs) ≡ drop i (map f xs)
map_drop f zero xs = refl
map_drop f (suc i) [] = refl
map_drop f (suc i) (x ∷ xs) = map_drop f i xs

pub map_get_d : {A B : Type 0} (f : A → B) (xs : List A) (i : ℕ) (d : A) → get_or (map f xs) i (f d) ≡ f (get_or xs i d)
map_get_d f [] i d = refl
map_get_d f (x ∷ xs) zero d = refl
map_get_d f (x ∷ xs) (suc i) d = map_get_d f xs i d

pub all_of_map : {A B : Type 0} (P : B → Type 0) (f : A → B) (xs : List A) → All (λ (x : A). P (f x)) xs → All P (map f xs)
all_of_map P f [] h = tt
all_of_map P f (x ∷ xs) h = (h.0, all_of_map P f xs h.1)
