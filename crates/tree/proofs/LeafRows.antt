-- The rows in the leaves of a full tree: at least 2 × 20^level under a root, and no more than the known keys. So no root is above level 3.
use Prim.Native.Nat.{ℕ, suc, zero, ◌+◌, ◌≤◌, ◌<◌, ◌-◌, ◌*◌, ◌^◌}
use native.Mathlib.Omega.{arith}
use native.Mathlib.Nat.{pow-suc, mul-le-mul_right}
use mathlib.Core.Path.{◌≡◌}
use mathlib.Core.List.{List, [], ◌∷◌}
use mathlib.Core.Bool.{Bool, true}
use lib.ListN.{length}
use Rattle.words.specs.Words.{key_limit}
use Rattle.tree.specs.Tree.{top_level}
use Rattle.tree.specs.PointSums.{how_many}
use Rattle.tree.proofs.HeldTrees.{chain_le}
use Rattle.tree.proofs.ModelPages.{Page}
use Rattle.tree.proofs.ModelTrees.{Slot, Tree, Chain, Holds}
use Rattle.tree.proofs.ModelPromise.{Full, slot_count, All, Filled}

-- The rows in the leaves.
abbrev pub sum_leaf : {A : Type 0} → (A → ℕ) → List (Slot A) → ℕ
sum_leaf f [] = 0
sum_leaf f (y ∷ ys) = f y.below + sum_leaf f ys

abbrev pub leaf_rows : (n : ℕ) → Tree n → ℕ
leaf_rows zero tr = length tr
leaf_rows (suc n) tr = sum_leaf (leaf_rows n) tr

-- No leaf row is empty, so they are no more than the keys.
sum_under : {A : Type 0} (P : ℕ → ℕ → ℕ → A → Type 0) (f : A → ℕ) → ((a b p : ℕ) (x : A) → P a b p x → f x + a ≤ b)
    → (lo hi : ℕ) (tr : List (Slot A)) → Chain P lo hi tr → sum_leaf f tr + lo ≤ hi
sum_under P f h lo hi [] c = omega arith
sum_under P f h lo hi (y ∷ ys) c =
    omega (arith, h lo y.entry.high y.entry.page y.below c.under, sum_under P f h y.entry.high hi ys c.rest)

length_under : {A : Type 0} (P : ℕ → ℕ → ℕ → A → Type 0) (lo hi : ℕ) (tr : List (Slot A)) → Chain P lo hi tr → length tr + lo ≤ hi
length_under P lo hi [] c = omega arith
length_under P lo hi (y ∷ ys) c = omega (arith, length_under P y.entry.high hi ys c.rest)

rows_under : (n : ℕ) (s : ℕ → Page) (In : ℕ → Type 0) (t lo hi p : ℕ) (tr : Tree n) → Holds n s In t lo hi p tr → leaf_rows n tr + lo ≤ hi
rows_under zero s In t lo hi p tr h = length_under _ lo hi tr h.chain
rows_under (suc n) s In t lo hi p tr h =
    sum_under (Holds n s In t) (leaf_rows n) (λ a b c x w. rows_under n s In t a b c x w) lo hi tr h.chain

-- A tree of level n whose pages are full has many leaf rows.
sum_ge : {A : Type 0} (F : Slot A → Type 0) (f : A → ℕ) (x : ℕ) → ((a : Slot A) → F a → x ≤ f a.below) → (tr : List (Slot A))
    → All F tr → length tr * x ≤ sum_leaf f tr
sum_ge F f x h [] c = omega arith
sum_ge F f x h (y ∷ ys) c = omega (arith, h y c.0, sum_ge F f x h ys c.1)

rows_full : (IsKnown : ℕ → Type 0) (n : ℕ) (tr : Tree n) → Full IsKnown n tr × (20 ≤ slot_count n tr) → 20 * 20 ^ n ≤ leaf_rows n tr
rows_full IsKnown zero tr h = omega (arith, h.1)
rows_full IsKnown (suc n) tr h =
    let a = sum_ge (Filled IsKnown n) (leaf_rows n) (20 * 20 ^ n) (λ x. rows_full IsKnown n x.below) tr h.0 in
    let b = mul-le-mul_right (20 * 20 ^ n) h.1 in
    rw pow-suc (omega arith)

pub rows_root : (IsKnown : ℕ → Type 0) (n : ℕ) (tr : Tree (suc n)) → Full IsKnown (suc n) tr → 2 ≤ length tr
    → 2 * 20 ^ suc n ≤ leaf_rows (suc n) tr
rows_root IsKnown n tr f h =
    let a = sum_ge (Filled IsKnown n) (leaf_rows n) (20 * 20 ^ n) (λ x. rows_full IsKnown n x.below) tr f in
    let b = mul-le-mul_right (20 * 20 ^ n) h in
    rw pow-suc (omega arith)

pow_least : (m : ℕ) → 1 ≤ 20 ^ m
pow_least zero = omega arith
pow_least (suc m) = rw pow-suc (omega (arith, pow_least m))

-- So it is of level 3 at most.
pub level_low : (IsKnown : ℕ → Type 0) (n : ℕ) (s : ℕ → Page) (In : ℕ → Type 0) (t p : ℕ) (tr : Tree n) → Holds n s In t 0 key_limit p tr
    → Full IsKnown n tr → (0 < n → 2 ≤ slot_count n tr) → n ≤ top_level
level_low IsKnown zero s In t p tr h f r = omega arith
level_low IsKnown (suc zero) s In t p tr h f r = omega arith
level_low IsKnown (suc (suc zero)) s In t p tr h f r = omega arith
level_low IsKnown (suc (suc (suc zero))) s In t p tr h f r = omega arith
level_low IsKnown (suc (suc (suc (suc n)))) s In t p tr h f r =
    let a = rows_root IsKnown (suc (suc (suc n))) tr f (r (omega arith)) in
    let b = rows_under (suc (suc (suc (suc n)))) s In t 0 key_limit p tr h in
    absurd (omega (arith, simp pow-suc at a, pow_least n))

pub many_append : (f : ℕ → Bool) (lo a b : ℕ) → how_many f lo (a + b) ≡ how_many f lo a + how_many f (lo + a) b
unfolding how_many
many_append f lo zero b = let e : lo + 0 ≡ lo = omega arith in let e' : 0 + b ≡ b = omega arith in rw (e, e') (omega arith)
many_append f lo (suc a) b =
    let e : suc a + b ≡ suc (a + b) = omega arith in
    let e' : suc lo + a ≡ lo + suc a = omega arith in
    rw e (omega (arith, rw e' at (many_append f (suc lo) a b)))

many_first : (f : ℕ → Bool) (lo a : ℕ) → f lo ≡ true → 0 < a → 1 ≤ how_many f lo a
unfolding how_many
many_first f lo zero e h = absurd (omega arith)
many_first f lo (suc a) e h = rw e (omega arith)

pub many_one : (f : ℕ → Bool) (lo : ℕ) → f lo ≡ true → how_many f lo 1 ≡ 1
unfolding how_many
many_one f lo e = rw e

module _ (f : ℕ → Bool) where
  -- The part of a range.
  cut_range : (lo mid hi d x : ℕ) → lo + d ≡ hi → lo ≤ mid → mid ≤ hi → ((e : ℕ) → mid + e ≡ hi → x ≤ how_many f mid e)
      → how_many f lo (mid - lo) + x ≤ how_many f lo d
  cut_range lo mid hi d x e i j k =
      let a : (mid - lo) + (hi - mid) ≡ d = omega arith in
      let b : lo + (mid - lo) ≡ mid = omega arith in
      let c = k (hi - mid) (omega arith) in
      omega (arith, rw (a, b) at (many_append f lo (mid - lo) (hi - mid)))

  leaf_known : (lo hi d : ℕ) (tr : List (Slot (Unit {0}))) → Chain (λ a b c x. Unit {0}) lo hi tr
      → All (λ y. f y.entry.low ≡ true) tr → lo + d ≡ hi → length tr ≤ how_many f lo d
  leaf_known lo hi d [] c h e = omega arith
  leaf_known lo hi d (y ∷ ys) c h e =
      let g =
      cut_range lo y.entry.high hi d (length ys) e (omega arith) (chain_le _ y.entry.high hi ys c.rest)
      (λ d' e'. leaf_known y.entry.high hi d' ys c.rest h.1 e') in
      let o = many_first f lo (y.entry.high - lo) (rw c.first at h.0) (omega arith) in
      omega arith

  index_known : {A : Type 0} (P : ℕ → ℕ → ℕ → A → Type 0) (F : Slot A → Type 0) (r : A → ℕ)
      → ((a b p d : ℕ) (y : Slot A) → P a b p y.below → F y → a + d ≡ b → r y.below ≤ how_many f a d)
      → (lo hi d : ℕ) (tr : List (Slot A)) → Chain P lo hi tr → All F tr → lo + d ≡ hi → sum_leaf r tr ≤ how_many f lo d
  index_known P F r k lo hi d [] c h e = omega arith
  index_known P F r k lo hi d (y ∷ ys) c h e =
      let g =
      cut_range lo y.entry.high hi d (sum_leaf r ys) e (omega arith) (chain_le P y.entry.high hi ys c.rest)
      (λ d' e'. index_known P F r k y.entry.high hi d' ys c.rest h.1 e') in
      omega (arith, k lo y.entry.high y.entry.page (y.entry.high - lo) y c.under h.0 (omega arith))

  pub rows_known : (n : ℕ) (s : ℕ → Page) (In : ℕ → Type 0) (t lo hi p d : ℕ) (tr : Tree n) → Holds n s In t lo hi p tr → Full (λ x. f x ≡ true) n tr
      → lo + d ≡ hi → leaf_rows n tr ≤ how_many f lo d
  rows_known zero s In t lo hi p d tr h g e = leaf_known lo hi d tr h.chain g e
  rows_known (suc n) s In t lo hi p d tr h g e =
      index_known (Holds n s In t) (λ y. Full (λ x. f x ≡ true) n y.below × (20 ≤ slot_count n y.below)) (leaf_rows n)
      (λ a b c d' y w i e'. rows_known n s In t a b c d' y.below w i.0 e') lo hi d tr h.chain g e
