-- Rows of the model with one replaced at tick t: at t a sum over the live rows counts what the row became; at an earlier tick nothing
-- changes.
-- Rows that are settled look the same from then on.
use Prim.Native.Nat.{ℕ, suc, ◌+◌, ◌≤◌, ◌<◌}
use native.Mathlib.Omega.{arith}
use native.Mathlib.Decide.{dec_le, ℕ_discrete}
use mathlib.Core.Path.{◌≡◌, refl}
use mathlib.Core.List.{List, [], ◌∷◌, ◌++◌}
use mathlib.Core.Bool.{Bool, true, false, ◌&&◌, cond}
use mathlib.Core.Logic.{◌⊎◌, inl, inr}
use lib.Dec.{eqb}
use lib.ListN.{length, length-append}
use borrow.Author.Tests.{le-leb, lt-leb, lt-ltb, le-ltb, eq-eqb, ne_eqb}
use Rattle.words.specs.Words.{open_end}
use Rattle.tree.proofs.ModelPages.{only_if, Entry, Row, live, sum_live, born_all, is_replaced, keep, kept, makes, made, replaced}
use Rattle.tree.proofs.ModelPages.{sum_entries, after}
use Rattle.tree.proofs.ModelPromise.{Over, Settled}

pub ruleset tests = (le-leb, lt-leb, lt-ltb, le-ltb, eq-eqb, ne_eqb)

pub split : (a b : ℕ) → (a ≤ b) ⊎ (b < a)
split a b = go (dec_le a b)
  where
    go : Dec (a ≤ b) → (a ≤ b) ⊎ (b < a)
    go (yes h) = inl h
    go (no h) = inr (omega arith)

pub sum_live_append : (t : ℕ) (f : Entry → ℕ) (x y : List Row) → sum_live t f (x ++ y) ≡ sum_live t f x + sum_live t f y
sum_live_append t f [] y = omega arith
sum_live_append t f (r ∷ x) y = rw (sum_live_append t f x y) (omega arith)

pub sum_entries_append : (f : Entry → ℕ) (x y : List Entry) → sum_entries f (x ++ y) ≡ sum_entries f x + sum_entries f y
sum_entries_append f [] y = omega arith
sum_entries_append f (r ∷ x) y = rw (sum_entries_append f x y) (omega arith)

module _ (t : ℕ) (now : t < open_end) (f : Entry → ℕ) where
  pub sum_live_born : (es : List Entry) → sum_live t f (born_all t es) ≡ sum_entries f es
  sum_live_born [] = refl
  sum_live_born (e ∷ es) = let h : t ≤ t = omega arith in let h' : t ≤ open_end = omega arith in simp (tests, sum_live_born es)

  module _ (m : ℕ) (a : Entry → Entry) (b : Entry → List Entry) where
    -- One row: what it is afterwards and what it makes.
    one : (r : Row)
        → only_if (live t (keep t m a b r)) (f (keep t m a b r).entry) + sum_entries f (makes t m a b r)
        ≡ only_if (live t r) (after m a b f r.entry)
    one r = go (split r.birth t) (split r.end t) (ℕ_discrete r.entry.low m) (ℕ_discrete r.birth t)
      where
        go : (r.birth ≤ t) ⊎ (t < r.birth) → (r.end ≤ t) ⊎ (t < r.end) → Dec (r.entry.low ≡ m) → Dec (r.birth ≡ t)
            → only_if (live t (keep t m a b r)) (f (keep t m a b r).entry) + sum_entries f (makes t m a b r)
            ≡ only_if (live t r) (after m a b f r.entry)
        go (inr x) y z w = simp tests
        go (inl x) (inl y) z w = simp tests
        go (inl x) (inr y) (no z) w = simp tests (omega arith)
        go (inl x) (inr y) (yes z) (yes w) = simp tests
        go (inl x) (inr y) (yes z) (no w) = let h : t ≤ t = omega arith in simp tests (omega arith)

    split_sum : (rs : List Row) → sum_live t f (kept t m a b rs) + sum_entries f (made t m a b rs) ≡ sum_live t (after m a b f) rs
    split_sum [] = refl
    split_sum (r ∷ rs) = rw (sum_entries_append f (makes t m a b r) (made t m a b rs)) (omega (arith, one r, split_sum rs))

    -- At the tick of the write: the live rows are those before, with the replacement.
    pub sum_live_replaced : (rs : List Row) → sum_live t f (replaced t m a b rs) ≡ sum_live t (after m a b f) rs
    sum_live_replaced rs = rw (sum_live_append, sum_live_born) (split_sum rs)

-- At an earlier tick nothing changes.
module _ (t u : ℕ) (past : u < t) (f : Entry → ℕ) where
  unborn : (es : List Entry) → sum_live u f (born_all t es) ≡ 0
  unborn [] = refl
  unborn (e ∷ es) = simp (tests, unborn es)

  module _ (m : ℕ) (a : Entry → Entry) (b : Entry → List Entry) where
    one_past : (r : Row) → only_if (live u (keep t m a b r)) (f (keep t m a b r).entry) ≡ only_if (live u r) (f r.entry)
    one_past r =
        go (split r.birth u) (split r.birth t) (split r.end u) (split r.end t) (ℕ_discrete r.entry.low m)
        (ℕ_discrete r.birth t)
      where
        go : (r.birth ≤ u) ⊎ (u < r.birth) → (r.birth ≤ t) ⊎ (t < r.birth) → (r.end ≤ u) ⊎ (u < r.end)
            → (r.end ≤ t) ⊎ (t < r.end) → Dec (r.entry.low ≡ m) → Dec (r.birth ≡ t)
            → only_if (live u (keep t m a b r)) (f (keep t m a b r).entry) ≡ only_if (live u r) (f r.entry)
        go x (inr x') y y' z w = simp tests
        go x (inl x') y (inl y') z w = simp tests
        go x (inl x') y (inr y') (no z) w = simp tests
        go (inl x) (inl x') y (inr y') (yes z) (yes w) = absurd (omega arith)
        go (inr x) (inl x') y (inr y') (yes z) (yes w) = simp tests
        go (inl x) (inl x') (inl y) (inr y') (yes z) (no w) = absurd (omega arith)
        go (inl x) (inl x') (inr y) (inr y') (yes z) (no w) = simp tests
        go (inr x) (inl x') y (inr y') (yes z) (no w) = simp tests

    kept_past : (rs : List Row) → sum_live u f (kept t m a b rs) ≡ sum_live u f rs
    kept_past [] = refl
    kept_past (r ∷ rs) = omega (arith, one_past r, kept_past rs)

    pub sum_live_past : (rs : List Row) → sum_live u f (replaced t m a b rs) ≡ sum_live u f rs
    sum_live_past rs = rw (sum_live_append, unborn) (omega (arith, kept_past rs))

-- Rows that are settled look the same from then on.
pub sum_live_later : (t w : ℕ) (f : Entry → ℕ) → t ≤ w → w < open_end → (rs : List Row) → Settled t rs → sum_live w f rs ≡ sum_live t f rs
sum_live_later t w f i j [] h = refl
sum_live_later t w f i j (r ∷ rs) h = go h.1 (sum_live_later t w f i j rs h.2) h.0 (omega (arith, h.0))
  where
    go : Over t r ⊎ (r.end ≡ open_end) → sum_live w f rs ≡ sum_live t f rs → r.birth ≤ t → r.birth ≤ w
        → sum_live w f (r ∷ rs) ≡ sum_live t f (r ∷ rs)
    go (inl a) e b c = let d' : r.end ≤ t = a.1 in let d : r.end ≤ w = omega arith in simp (tests, e)
    go (inr a) e b c = let d : w < r.end = omega arith in let d' : t < r.end = omega arith in simp (tests, e)

pub settled_born : (t : ℕ) (es : List Entry) → Settled t (born_all t es)
settled_born t [] = tt
settled_born t (e ∷ es) = (omega arith, inr refl, settled_born t es)

pub settled_append : (t : ℕ) (x y : List Row) → Settled t x → Settled t y → Settled t (x ++ y)
settled_append t [] y h k = k
settled_append t (r ∷ x) y h k = (h.0, h.1, settled_append t x y h.2 k)

pub settled_later : (t w : ℕ) (rs : List Row) → t ≤ w → Settled t rs → Settled w rs
settled_later t w [] i h = tt
settled_later t w (r ∷ rs) i h = (omega (arith, h.0), go h.1, settled_later t w rs i h.2)
  where
    go : Over t r ⊎ (r.end ≡ open_end) → Over w r ⊎ (r.end ≡ open_end)
    go (inl a) = inl (a.0, omega (arith, a.1))
    go (inr a) = inr a

module _ (t m : ℕ) (a : Entry → Entry) (b : Entry → List Entry) where
  settled_kept : (rs : List Row) → Settled t rs → Settled t (kept t m a b rs)
  settled_kept [] h = tt
  settled_kept (r ∷ rs) h = go (is_replaced t m r) (ℕ_discrete r.birth t) (settled_kept rs h.2)
    where
      go : (x : Bool) → Dec (r.birth ≡ t) → Settled t (kept t m a b rs)
          → Settled t
          (cond x (cond (eqb r.birth t) (record { birth = r.birth; end = r.end; entry = a r.entry })
          (record { birth = r.birth; end = t; entry = r.entry })) r ∷ kept t m a b rs)
      go false y k = (h.0, h.1, k)
      go true (yes e) k = rw (eq-eqb r.birth t e) (h.0, altered h.1, k)
        where
          altered : Over t r ⊎ (r.end ≡ open_end) → Over t (record { birth = r.birth; end = r.end; entry = a r.entry }) ⊎ (r.end ≡ open_end)
          altered (inl x) = inl x
          altered (inr x) = inr x
      go true (no e) k = rw (ne_eqb r.birth t e) (h.0, inl (omega (arith, h.0), omega arith), k)

  pub settled_replaced : (rs : List Row) → Settled t rs → Settled t (replaced t m a b rs)
  settled_replaced rs h =
      settled_append t (kept t m a b rs) (born_all t (made t m a b rs)) (settled_kept rs h) (settled_born t (made t m a b rs))

-- How many rows a replacement makes.
pub length_born : (t : ℕ) (es : List Entry) → length (born_all t es) ≡ length es
length_born t [] = refl
length_born t (e ∷ es) = rw (length_born t es)

pub sum_live_length : (t : ℕ) (rs : List Row) → sum_live t (λ e. 1) rs ≤ length rs
sum_live_length t [] = omega arith
sum_live_length t (r ∷ rs) = go (live t r) (sum_live_length t rs)
  where
    go : (b : Bool) → sum_live t (λ e. 1) rs ≤ length rs → only_if b 1 + sum_live t (λ e. 1) rs ≤ suc (length rs)
    go true h = omega arith
    go false h = omega arith

module _ (t m : ℕ) (a : Entry → Entry) (b : Entry → List Entry) where
  length_kept : (rs : List Row) → length (kept t m a b rs) ≡ length rs
  length_kept [] = refl
  length_kept (r ∷ rs) = rw (length_kept rs)

  length_made : (rs : List Row) → length (made t m a b rs) ≤ sum_live t (λ e. only_if (eqb e.low m) (suc (length (b e)))) rs
  length_made [] = omega arith
  length_made (r ∷ rs) = rw length-append (go (live t r) (eqb r.entry.low m) (eqb r.birth t) (length_made rs))
    where
      go : (x y z : Bool) → length (made t m a b rs) ≤ sum_live t (λ e. only_if (eqb e.low m) (suc (length (b e)))) rs
          → length (cond {A = List Entry} (x && y) (cond z (b r.entry) (a r.entry ∷ b r.entry)) []) + length (made t m a b rs)
          ≤ only_if x (only_if y (suc (length (b r.entry)))) + sum_live t (λ e. only_if (eqb e.low m) (suc (length (b e)))) rs
      go false y z h = omega arith
      go true false z h = omega arith
      go true true false h = omega arith
      go true true true h = omega arith

  pub length_replaced : (rs : List Row)
      → length (replaced t m a b rs) ≤ length rs + sum_live t (λ e. only_if (eqb e.low m) (suc (length (b e)))) rs
  length_replaced rs = rw (length-append, length_born, length_kept) (omega (arith, length_made rs))
