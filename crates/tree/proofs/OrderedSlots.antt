-- The slots of a page in key order are its live rows sorted by low key.
use Prim.Native.Nat.{ℕ, suc, ◌+◌, ◌≤◌, ◌<◌}
use native.Mathlib.Omega.{arith}
use native.Mathlib.Decide.{ℕ_discrete}
use mathlib.Core.Path.{◌≡◌, refl, sym, ◌∙◌, subst}
use mathlib.Core.List.{List, [], ◌∷◌, ◌++◌}
use mathlib.Core.Bool.{Bool, true, false, cond}
use lib.Dec.{eqb}
use Rattle.tree.specs.KeyOrder.{insert_by, sort_by}
use Rattle.tree.proofs.ModelPages.{only_if, Entry, Row, live, live_entries, low_key_of, sum_live, ordered_entries, sum_entries}
use Rattle.tree.proofs.ModelTrees.{Slot, sum_slots, Chain}
use Rattle.tree.proofs.ReplacedRows.{tests, sum_entries_append}

-- Low keys rise, from b on.
abbrev pub Rising : ℕ → List Entry → Type 0
Rising b [] = Unit {0}
Rising b (e ∷ es) = (b ≤ e.low) × Rising (suc e.low) es

rising_less : (b c : ℕ) (es : List Entry) → b ≤ c → Rising c es → Rising b es
rising_less b c [] i r = tt
rising_less b c (e ∷ es) i r = (omega arith, r.1)

rising_drop : (b : ℕ) (x : Entry) (xs ys : List Entry) → Rising b (xs ++ (x ∷ ys)) → Rising b (xs ++ ys)
rising_drop b x [] ys r = rising_less b (suc x.low) ys (omega arith) r.1
rising_drop b x (a ∷ xs) ys r = (r.0, rising_drop (suc a.low) x xs ys r.1)

rising_le : (b : ℕ) (x : Entry) (xs ys : List Entry) → Rising b (xs ++ (x ∷ ys)) → b ≤ x.low
rising_le b x [] ys r = r.0
rising_le b x (a ∷ xs) ys r = omega (arith, rising_le (suc a.low) x xs ys r.1)

place_back : (b : ℕ) (x : Entry) (xs ys : List Entry) → Rising b (xs ++ (x ∷ ys)) → insert_by low_key_of x (xs ++ ys) ≡ xs ++ (x ∷ ys)
unfolding insert_by
place_back b x [] [] r = refl
place_back b x [] (y ∷ ys) r = let h : x.low ≤ y.low = omega arith in simp tests
place_back b x (a ∷ xs) ys r =
    let h : a.low < x.low = omega (arith, rising_le (suc a.low) x xs ys r.1) in
    simp (tests, place_back (suc a.low) x xs ys r.1)

-- Where an entry stands in a list.
data Found (x : Entry) : List Entry → Type 0 where
  found : (xs ys : List Entry) → Found x (xs ++ (x ∷ ys))

abbrev same : Entry → Entry → ℕ
same x e =
    only_if (eqb x.low e.low)
    (only_if (eqb x.high e.high) (only_if (eqb x.amount e.amount) (only_if (eqb x.page e.page) 1)))

self : (x : Entry) → same x x ≡ 1
self x = simp tests

find : (x : Entry) (es : List Entry) → 0 < sum_entries (same x) es → Found x es
find x [] h = absurd (omega arith)
find x (e ∷ es) h =
    go (ℕ_discrete x.low e.low) (ℕ_discrete x.high e.high) (ℕ_discrete x.amount e.amount)
    (ℕ_discrete x.page e.page) (λ i. find x es i)
  where
    later : (l : List Entry) → Found x l → Found x (e ∷ l)
    later l (found xs ys) = found (e ∷ xs) ys

    here : x ≡ e → Found x (e ∷ es)
    here p = subst (λ (z : Entry). Found x (z ∷ es)) p (found [] es)

    go : Dec (x.low ≡ e.low) → Dec (x.high ≡ e.high) → Dec (x.amount ≡ e.amount) → Dec (x.page ≡ e.page)
        → (0 < sum_entries (same x) es → Found x es) → Found x (e ∷ es)
    go (no p) q r s k = later es (k (omega (arith, simp tests at h)))
    go (yes p) (no q) r s k = later es (k (omega (arith, simp tests at h)))
    go (yes p) (yes q) (no r) s k = later es (k (omega (arith, simp tests at h)))
    go (yes p) (yes q) (yes r) (no s) k = later es (k (omega (arith, simp tests at h)))
    go (yes p) (yes q) (yes r) (yes s) k = here (λ i. record { low = p i; high = q i; amount = r i; page = s i })

-- A list with the sums of a rising list is sorted to it.
sort_is : (xs : List Entry) (b : ℕ) (es : List Entry) → Rising b es → ((f : Entry → ℕ) → sum_entries f xs ≡ sum_entries f es)
    → sort_by low_key_of xs ≡ es
unfolding sort_by
sort_is [] b [] r h = refl
sort_is [] b (e ∷ es) r h = absurd (omega (arith, h (λ z. 1)))
sort_is (x ∷ xs) b es r h = go es (find x es (omega (arith, self x, h (same x)))) r h (λ l k m. sort_is xs b l k m)
  where
    go : (es : List Entry) → Found x es → Rising b es → ((f : Entry → ℕ) → f x + sum_entries f xs ≡ sum_entries f es)
        → ((l : List Entry) → Rising b l → ((f : Entry → ℕ) → sum_entries f xs ≡ sum_entries f l) → sort_by low_key_of xs ≡ l)
        → insert_by low_key_of x (sort_by low_key_of xs) ≡ es
    go es (found zs bs) r h k =
        rw
        (k (zs ++ bs) (rising_drop b x zs bs r) (λ f. simp sum_entries_append (omega (arith, simp sum_entries_append at (h f)))))
        (place_back b x zs bs r)

sum_live_entries : (t : ℕ) (f : Entry → ℕ) (rs : List Row) → sum_entries f (live_entries t rs) ≡ sum_live t f rs
sum_live_entries t f [] = refl
sum_live_entries t f (r ∷ rs) = go (live t r) refl (sum_live_entries t f rs)
  where
    go : (b : Bool) → live t r ≡ b → sum_entries f (live_entries t rs) ≡ sum_live t f rs
        → sum_entries f (cond b (r.entry ∷ live_entries t rs) (live_entries t rs)) ≡ only_if b (f r.entry) + sum_live t f rs
    go true e h = omega arith
    go false e h = omega arith

module _ {A : Type 0} where
  abbrev pub entries_of : List (Slot A) → List Entry
  entries_of [] = []
  entries_of (y ∷ ys) = y.entry ∷ entries_of ys

  pub sum_entries_of : (f : Entry → ℕ) (tr : List (Slot A)) → sum_entries f (entries_of tr) ≡ sum_slots f tr
  sum_entries_of f [] = refl
  sum_entries_of f (y ∷ ys) = rw (sum_entries_of f ys)

  chain_rising : (P : ℕ → ℕ → ℕ → A → Type 0) (lo hi : ℕ) (tr : List (Slot A)) → Chain P lo hi tr → Rising lo (entries_of tr)
  chain_rising P lo hi [] c = tt
  chain_rising P lo hi (y ∷ ys) c = (
    omega arith,
    rising_less (suc y.entry.low) y.entry.high (entries_of ys) (omega arith)
        (chain_rising P y.entry.high hi ys c.rest),
  )

  pub ordered_is : (P : ℕ → ℕ → ℕ → A → Type 0) (t lo hi : ℕ) (tr : List (Slot A)) (rs : List Row) → Chain P lo hi tr
      → ((f : Entry → ℕ) → sum_slots f tr ≡ sum_live t f rs) → ordered_entries t rs ≡ entries_of tr
  unfolding ordered_entries
  ordered_is P t lo hi tr rs c h =
      sort_is (live_entries t rs) lo (entries_of tr) (chain_rising P lo hi tr c)
      (λ f. sum_live_entries t f rs ∙ sym (h f) ∙ sym (sum_entries_of f tr))
