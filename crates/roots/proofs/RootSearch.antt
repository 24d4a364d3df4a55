-- The root for a tick, read from the last entry down: what one entry decides, in the terms of a loop that counts the entries left.
use Prim.Native.Nat.{ℕ, zero, suc, ◌+◌, ◌≤◌, ◌<◌, ◌-◌}
use native.Mathlib.Omega.{arith}
use native.Mathlib.Decide.{ℕ_discrete}
use native.Mathlib.Nat.{not-suc-le-zero, le_trans}
use native.Mathlib.Numerals.{sub-one}
use mathlib.Core.Path.{◌≡◌, refl, ap, sym, ◌∙◌}
use mathlib.Core.Bool.{Bool, true, false, cond}
use mathlib.Core.List.{List, [], ◌∷◌, ◌++◌}
use lib.ListN.{length, take, drop, get_or}
use lib.Seq.{take-suc, get_or-take, get_or-drop}
use lib.Dec.{leb, ltb}
use mir.Val.{bool_byte}
use lib.Bits.{bit_and, and_le_l, and_le_r}
use borrow.Author.Tests.{le-leb, lt-leb, ltb-true}
use Rattle.std.specs.Prelude.{Option, Some, None}
use Rattle.words.specs.Words.{root_birth, root_page}
use Rattle.tree.specs.Tree.{in_higher_place, root_for}

higher_none : (a : Option ℕ) → in_higher_place a None ≡ a
higher_none (Some page) = refl
higher_none None = refl

higher_assoc : (a b c : Option ℕ) → in_higher_place (in_higher_place a b) c ≡ in_higher_place a (in_higher_place b c)
higher_assoc (Some page) b c = refl
higher_assoc None b c = refl

-- What one entry is for a tick
abbrev entry_for : ℕ → ℕ → Option ℕ
entry_for t w = cond (leb (root_birth w) t) (Some (root_page w)) None

-- The last entry decides before all others
pub root_last : (t : ℕ) (ws : List ℕ) (w : ℕ) → root_for t (ws ++ (w ∷ [])) ≡ in_higher_place (entry_for t w) (root_for t ws)
unfolding root_for
root_last t [] w = sym (higher_none (entry_for t w))
root_last t (x ∷ xs) w =
    ap (λ (r : Option ℕ). in_higher_place r (entry_for t x)) (root_last t xs w) ∙ higher_assoc (entry_for t w) (root_for t xs) (entry_for t x)

-- A last entry born by the tick is the root for it
pub root_last_hit : (t : ℕ) (ws : List ℕ) (w : ℕ) → root_birth w ≤ t → root_for t (ws ++ (w ∷ [])) ≡ Some (root_page w)
root_last_hit t ws w h = root_last t ws w ∙ rw (le-leb (root_birth w) t h)

-- A last entry born later says nothing
pub root_last_miss : (t : ℕ) (ws : List ℕ) (w : ℕ) → t < root_birth w → root_for t (ws ++ (w ∷ [])) ≡ root_for t ws
root_last_miss t ws w h = root_last t ws w ∙ rw (lt-leb (root_birth w) t h)

-- and where none is left, there is no root
pub root_empty : (t : ℕ) (ws : List ℕ) → length ws ≡ 0 → root_for t ws ≡ None
unfolding root_for
root_empty t [] e = refl
root_empty t (w ∷ ws) e = absurd (omega arith)

-- An entry of a part of the list
pub block_entry : (ws : List ℕ) (from to i : ℕ) → i < to - from → get_or (take (to - from) (drop from ws)) i 0 ≡ get_or ws (from + i) 0
block_entry ws from to i h = get_or-take (to - from) (drop from ws) i 0 h ∙ get_or-drop from ws i 0

module _ (ws : List ℕ) (t : ℕ) where
  pub root_none : {left : ℕ} → left ≤ 0 → root_for t (take left ws) ≡ None
  unfolding root_for
  root_none {left = zero} h = refl
  root_none {left = suc i} h = absurd (not-suc-le-zero h)

  root_miss : {left : ℕ} → 0 < left → left ≤ length ws → t < root_birth (get_or ws (left - 1) 0)
      → root_for t (take left ws) ≡ root_for t (take (left - 1) ws)
  root_miss {left = zero} more fits later = absurd (not-suc-le-zero more)
  root_miss {left = suc i} more fits later =
      ap (root_for t) (take-suc ws i 0 fits) ∙ rw sub-one (root_last_miss t (take i ws) (get_or ws i 0) (rw sub-one at later))

  -- Entries at the end that are all born later say nothing
  pub root_skip : (from n : ℕ) → from + n ≤ length ws → ((i : ℕ) → i < n → t < root_birth (get_or ws (from + i) 0))
      → root_for t (take (from + n) ws) ≡ root_for t (take from ws)
  root_skip from zero fits later = let none : from + 0 ≡ from = omega arith in ap (λ (k : ℕ). root_for t (take k ws)) none
  root_skip from (suc n) fits later =
      let last : from + suc n - 1 ≡ from + n = omega arith in
      root_miss {left = from + suc n} (omega arith) fits (rw last (later n (omega arith)))
      ∙ ap (λ (k : ℕ). root_for t (take k ws)) last
      ∙ root_skip from n (omega arith) (λ i h. later i (omega arith))

-- A test counted as a number
pub counted_small : (b : Bool) (one : ℕ) → one ≡ bool_byte b → one ≤ 1
counted_small true one e = omega arith
counted_small false one e = omega arith

pub counted_later : (t birth one : ℕ) → one ≡ bool_byte (ltb t birth) → 1 ≤ one → t < birth
counted_later t birth one e h = go (ltb t birth) refl e
  where
    go : (b : Bool) → ltb t birth ≡ b → one ≡ bool_byte b → t < birth
    go true f e = ltb-true t birth f
    go false f e = absurd (omega arith)

-- One entry more: as many later ones as entries, and all of them are later
pub later_more : (ws : List ℕ) (t at later one : ℕ) → later ≤ at → (at ≤ later → (i : ℕ) → i < at → t < root_birth (get_or ws i 0)) → one ≤ 1
    → (1 ≤ one → t < root_birth (get_or ws at 0)) → at + 1 ≤ later + one → (i : ℕ) → i < at + 1 → t < root_birth (get_or ws i 0)
later_more ws t at later one few before small last all i h = go (ℕ_discrete i at)
  where
    go : Dec (i ≡ at) → t < root_birth (get_or ws i 0)
    go (yes e) = rw e (last (omega arith))
    go (no n) = before (omega arith) i (below n)
      where
        below : (i ≡ at → ⊥) → i < at
        below f = omega (arith, f)

-- One entry more: the bits in common are no more than its birth either
pub common_more : (ws : List ℕ) (at common birth : ℕ) → ((i : ℕ) → i < at → common ≤ root_birth (get_or ws i 0))
    → birth ≡ root_birth (get_or ws at 0) → (i : ℕ) → i < at + 1 → bit_and common birth ≤ root_birth (get_or ws i 0)
common_more ws at common birth before born i h = go (ℕ_discrete i at)
  where
    go : Dec (i ≡ at) → bit_and common birth ≤ root_birth (get_or ws i 0)
    go (yes e) = rw (e, ← born) (and_le_r common birth)
    go (no n) = le_trans (and_le_l common birth) (before i (below n))
      where
        below : (i ≡ at → ⊥) → i < at
        below f = omega (arith, f)
