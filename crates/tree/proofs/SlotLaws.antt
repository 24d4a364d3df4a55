-- Laws of the slots of a page: their entries, how they are cut and joined, what lookups add in them.
use Prim.Native.Nat.{ℕ, suc, zero, ◌+◌, ◌≤◌, ◌<◌}
use native.Mathlib.Omega.{arith}
use mathlib.Core.Path.{◌≡◌, refl, ap, sym}
use mathlib.Core.List.{List, [], ◌∷◌, ◌++◌}
use lib.ListN.{length, take, drop}
use Rattle.tree.proofs.ModelPages.{◌≈◌, Page, sum_live}
use Rattle.tree.proofs.ModelTrees.{Slot, sum_slots, lookup_slots, Chain, Alike}
use Rattle.tree.proofs.ModelSteps.{put_at}
use Rattle.tree.proofs.ModelPromise.{sum_below, All}
use Rattle.tree.proofs.ReplacedRows.{tests}
use Rattle.tree.proofs.HeldTrees.{chain_le}
use Rattle.tree.proofs.GainedSlots.{more, more_first}
use Rattle.tree.proofs.OrderedSlots.{entries_of}

module _ {A : Type 0} where
  pub entries_take : (i : ℕ) (tr : List (Slot A)) → take i (entries_of tr) ≡ entries_of (take i tr)
  entries_take zero tr = refl
  entries_take (suc i) [] = refl
  entries_take (suc i) (y ∷ ys) = rw (entries_take i ys)

  pub entries_drop : (i : ℕ) (tr : List (Slot A)) → drop i (entries_of tr) ≡ entries_of (drop i tr)
  entries_drop zero tr = refl
  entries_drop (suc i) [] = refl
  entries_drop (suc i) (y ∷ ys) = entries_drop i ys

  pub entries_length : (tr : List (Slot A)) → length (entries_of tr) ≡ length tr
  entries_length [] = refl
  entries_length (y ∷ ys) = rw (entries_length ys)

  pub sum_slots_length : (tr : List (Slot A)) → sum_slots (λ e. 1) tr ≡ length tr
  sum_slots_length [] = refl
  sum_slots_length (y ∷ ys) = omega (arith, sum_slots_length ys)

  pub below_append : (R : ℕ → A → ℕ) (x y : List (Slot A)) → sum_below R (x ++ y) ≡ sum_below R x + sum_below R y
  below_append R [] y = omega arith
  below_append R (r ∷ x) y = rw (below_append R x y) (omega arith)

  pub all_split : (F : Slot A → Type 0) (x y : List (Slot A)) → All F (x ++ y) → All F x × All F y
  all_split F [] y h = (tt, h)
  all_split F (r ∷ x) y h = let k = all_split F x y h.1 in ((h.0, k.0), k.1)

  pub all_join : (F : Slot A → Type 0) (x y : List (Slot A)) → All F x → All F y → All F (x ++ y)
  all_join F [] y h k = k
  all_join F (r ∷ x) y h k = (h.0, all_join F x y h.1 k)

  pub all_more : (F : Slot A → Type 0) (v : ℕ) → ((y : Slot A) → F y → F (more v y)) → (ys : List (Slot A)) → All F ys
      → All F (more_first v ys)
  all_more F v k [] h = h
  all_more F v k (y ∷ ys) h = (k y h.0, h.1)

module _ {A : Type 0} (P : ℕ → ℕ → ℕ → A → Type 0) where
  pub chain_part : (lo hi : ℕ) (xs : List (Slot A)) (z : Slot A) (zs : List (Slot A)) → Chain P lo hi (xs ++ (z ∷ zs))
      → Chain P lo z.entry.low xs × Chain P z.entry.low hi (z ∷ zs)
  chain_part lo hi [] z zs c =
      (sym c.first, record { first = refl; some = omega arith; under = rw (← c.first) at c.under; rest = c.rest })
  chain_part lo hi (x ∷ xs) z zs c =
      let r = chain_part x.entry.high hi xs z zs c.rest in
      (record { first = c.first; some = c.some; under = c.under; rest = r.0 }, r.1)

  pub chain_lt : (lo hi : ℕ) (z : Slot A) (zs : List (Slot A)) → Chain P lo hi (z ∷ zs) → lo < hi
  chain_lt lo hi z zs c = omega (arith, chain_le P z.entry.high hi zs c.rest)

  pub chain_more : (v lo hi : ℕ) (ys : List (Slot A)) → Chain P lo hi ys → Chain P lo hi (more_first v ys)
  chain_more v lo hi [] c = c
  chain_more v lo hi (y ∷ ys) c = c

  module _ (q : ℕ) (F : A → ℕ) where
    pub lookup_above : (lo hi : ℕ) (xs : List (Slot A)) → Chain P lo hi xs → q < lo → lookup_slots q F xs ≡ 0
    lookup_above lo hi [] c h = refl
    lookup_above lo hi (e ∷ es) c h =
        let a : q < e.entry.low = omega arith in
        simp (tests, lookup_above e.entry.high hi es c.rest (omega arith))

    pub lookup_below : (lo hi : ℕ) (xs : List (Slot A)) → Chain P lo hi xs → hi ≤ q → lookup_slots q F xs ≡ sum_slots (λ e. e.amount) xs
    lookup_below lo hi [] c h = refl
    lookup_below lo hi (e ∷ es) c h =
        let l = chain_le P e.entry.high hi es c.rest in
        let a : e.entry.low ≤ q = omega arith in
        let b : e.entry.high ≤ q = omega arith in
        simp (tests, lookup_below e.entry.high hi es c.rest h) (omega arith)

    pub lookup_more : (v lo hi : ℕ) (ys : List (Slot A)) → Chain P lo hi ys → lo < hi → lo ≤ q
        → lookup_slots q F (more_first v ys) ≈ lookup_slots q F ys + v
    lookup_more v lo hi [] c h l = absurd (omega arith)
    lookup_more v lo hi (e ∷ es) c h l = let a : e.entry.low ≤ q = omega arith in simp tests (omega arith)

pub alike : (t : ℕ) {x y : Page} → x ≡ y → Alike t x y
alike t e =
    record {
      level = ap (λ (g : Page). g.level) e;
      low = ap (λ (g : Page). g.low) e;
      high = ap (λ (g : Page). g.high) e;
      birth = ap (λ (g : Page). g.birth) e;
      rows = λ f.
          ap (λ (g : Page). sum_live t f g.rows) e;
    }

pub put_other : (s : ℕ → Page) (p x : ℕ) (g : Page) → (x ≡ p → ⊥) → put_at s p g x ≡ s x
put_other s p x g h = simp tests
