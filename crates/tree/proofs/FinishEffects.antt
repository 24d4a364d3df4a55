-- Step 5 in the model leaves every other page alone, and every earlier tick.
use Prim.Native.Nat.{ℕ, suc, ◌≤◌, ◌<◌}
use native.Mathlib.Omega.{arith}
use native.Mathlib.Decide.{ℕ_discrete}
use mathlib.Core.Path.{◌≡◌, refl, ◌∙◌}
use mathlib.Core.List.{List}
use mathlib.Core.Logic.{◌⊎◌, inl, inr}
use lib.ListN.{length, take, drop}
use Rattle.tree.specs.Overflow.{lower_half}
use Rattle.tree.specs.Row.{row_limit, copy_limit}
use Rattle.tree.proofs.ModelPages.{Entry, Row, Page, sum_live, ordered_entries}
use Rattle.tree.proofs.ModelTrees.{Alike}
use Rattle.tree.proofs.ModelSteps.{relink, Parts, stay, copy, two, total_amount, plus_first, finish}
use Rattle.tree.proofs.ModelPromise.{Settled}
use Rattle.tree.proofs.ReplacedRows.{tests, split, sum_live_past, settled_born, settled_replaced}
use Rattle.tree.proofs.SlotLaws.{alike}
use Rattle.tree.proofs.TakenPages.{After, Untaken, after_less}

-- What finishing a page does to the other pages, and to the past: it writes the page itself and pages that are still to be taken.
module _ (t : ℕ) (s : ℕ → Page) (alloc : ℕ → ℕ) (m p : ℕ) (rs : List Row) where
  pub finish_more : m ≤ (finish t s alloc m p rs).made
  finish_more = go (split (length rs) row_limit) (split (length (ordered_entries t rs)) copy_limit)
    where
      go : (length rs ≤ row_limit) ⊎ (row_limit < length rs) → (length (ordered_entries t rs) ≤ copy_limit) ⊎ (copy_limit < length (ordered_entries t rs))
          → m ≤ (finish t s alloc m p rs).made
      go (inl h) r = simp tests (omega arith)
      go (inr h) (inl r) = simp tests (omega arith)
      go (inr h) (inr r) = simp tests (omega arith)

  pub finish_other : (x : ℕ) → Untaken alloc m x → (x ≡ p → ⊥) → (finish t s alloc m p rs).store x ≡ s x
  finish_other x free e =
      go (split (length rs) row_limit) (split (length (ordered_entries t rs)) copy_limit) (free m (omega arith)) (free (suc m) (omega arith))
    where
      go : (length rs ≤ row_limit) ⊎ (row_limit < length rs) → (length (ordered_entries t rs) ≤ copy_limit) ⊎ (copy_limit < length (ordered_entries t rs))
          → (x ≡ alloc m → ⊥) → (x ≡ alloc (suc m) → ⊥) → (finish t s alloc m p rs).store x ≡ s x
      go (inl h) r a b = simp tests
      go (inr h) (inl r) a b = simp tests
      go (inr h) (inr r) a b = simp tests

  pub finish_past : (w x : ℕ) → ((f : Entry → ℕ) → sum_live w f rs ≡ sum_live w f (s p).rows) → Untaken alloc m x
      → Alike w ((finish t s alloc m p rs).store x) (s x)
  finish_past w x h free =
      go (ℕ_discrete x p) (split (length rs) row_limit) (split (length (ordered_entries t rs)) copy_limit) (free m (omega arith))
      (free (suc m) (omega arith))
    where
      go : Dec (x ≡ p) → (length rs ≤ row_limit) ⊎ (row_limit < length rs)
          → (length (ordered_entries t rs) ≤ copy_limit) ⊎ (copy_limit < length (ordered_entries t rs)) → (x ≡ alloc m → ⊥) → (x ≡ alloc (suc m) → ⊥)
          → Alike w ((finish t s alloc m p rs).store x) (s x)
      go (no e) q r a b = alike w (finish_other x free e)
      go (yes e) (inl q) r a b = rw e (simp tests (record { level = refl; low = refl; high = refl; birth = refl; rows = h }))
      go (yes e) (inr q) (inl r) a b = alike w (simp tests)
      go (yes e) (inr q) (inr r) a b = alike w (simp tests)

  pub finish_settled : (In : ℕ → Type 0) → Settled t rs → ((x : ℕ) → After In alloc m x → Settled t (s x).rows) → (x : ℕ)
      → After In alloc (finish t s alloc m p rs).made x → Settled t ((finish t s alloc m p rs).store x).rows
  finish_settled In k h x =
      go (split (length rs) row_limit) (split (length (ordered_entries t rs)) copy_limit) (ℕ_discrete x p) (ℕ_discrete x (alloc m))
      (ℕ_discrete x (alloc (suc m)))
    where
      lower : List Entry
      lower = take (lower_half (length (ordered_entries t rs))) (ordered_entries t rs)

      go : (length rs ≤ row_limit) ⊎ (row_limit < length rs) → (length (ordered_entries t rs) ≤ copy_limit) ⊎ (copy_limit < length (ordered_entries t rs))
          → Dec (x ≡ p) → Dec (x ≡ alloc m) → Dec (x ≡ alloc (suc m)) → After In alloc (finish t s alloc m p rs).made x
          → Settled t ((finish t s alloc m p rs).store x).rows
      go (inl a) b (yes c) d e = simp tests (λ l. k)
      go (inl a) b (no c) d e = simp tests (λ l. h x l)
      go (inr a) (inl b) c (yes d) e = simp tests (λ l. settled_born t (ordered_entries t rs))
      go (inr a) (inl b) c (no d) e = simp tests (λ l. h x (after_less In alloc m x d l))
      go (inr a) (inr b) c d (yes e) =
          simp tests
          (λ l. settled_born t
          (plus_first (total_amount lower)
          (drop (lower_half (length (ordered_entries t rs))) (ordered_entries t rs))))
      go (inr a) (inr b) c (yes d) (no e) = simp tests (λ l. settled_born t lower)
      go (inr a) (inr b) c (no d) (no e) = simp tests (λ l. h x (after_less In alloc m x d (after_less In alloc (suc m) x e l)))

pub alike_trans : (w : ℕ) {x y z : Page} → Alike w x y → Alike w y z → Alike w x z
alike_trans w a b =
    record { level = a.level ∙ b.level; low = a.low ∙ b.low; high = a.high ∙ b.high; birth = a.birth ∙ b.birth; rows = λ f. a.rows f ∙ b.rows f }

-- The rows of a step, at an earlier tick.
pub relink_past : (w t m : ℕ) (parts : Parts) (rs : List Row) → w < t → (f : Entry → ℕ) → sum_live w f (relink t m parts rs) ≡ sum_live w f rs
relink_past w t m stay rs h f = refl
relink_past w t m (copy p) rs h f = sum_live_past t w h f m _ _ rs
relink_past w t m (two p r d) rs h f = sum_live_past t w h f m _ _ rs

pub relink_settled : (t m : ℕ) (parts : Parts) (rs : List Row) → Settled t rs → Settled t (relink t m parts rs)
relink_settled t m stay rs h = h
relink_settled t m (copy p) rs h = settled_replaced t m _ _ rs h
relink_settled t m (two p r d) rs h = settled_replaced t m _ _ rs h
