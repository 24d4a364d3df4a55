-- The four lookups of a question or of bat-time as two bands, one less the other: of two trees, or of one tree at two ticks.
use Prim.Native.Nat.{ℕ, ◌+◌, ◌-◌, ◌≤◌}
use native.Mathlib.Omega.{arith}
use mathlib.Core.Path.{◌≡◌, refl, ap, ap₂, sym, ◌∙◌}
use mathlib.Core.Bool.{Bool, true, false, cond}
use lib.Dec.{eqb}
use borrow.Author.Tests.{ne_eqb}
use Rattle.std.specs.Prelude.{Option, Result, Ok, Err}
use Rattle.words.specs.declared.value.Value.{Value}
use Rattle.words.specs.Value.{zero, plus, minus, add_words, subtract_words, line_at}
use Rattle.tree.specs.declared.types.Lookup.{Lookup}
use Rattle.tree.specs.declared.types.SpoiledPage.{SpoiledPage}
use Rattle.tree.specs.Spoiled.{spoiled}
use Rattle.tree.specs.Tree.{Tree, root_at}
use Rattle.tree.specs.Taking.{rootless}
use Rattle.tree.specs.Lookup.{found, lookup_root, lookup}
use Rattle.lookup.proofs.LookupLaws.{root_found}
use Rattle.store.specs.Reading.{is_spoiled, value_of, pages_of}
use Rattle.store.proofs.LookupPages.{pages_four}
use Rattle.bands.specs.Bands.{without, in_band, nothing, band_before}
use Rattle.bands.proofs.Differences.{no_value, two_values, four_values, two_lines, four_lines}

-- The four lookups of a band, of which the last two are not made where `first` says that the band starts at key 0
module _ (first : Bool) (a b c d : Result Lookup SpoiledPage) where
  abbrev pub refusal_of4 : ℕ
  refusal_of4 = cond (is_spoiled a) 26 (cond (is_spoiled b) 26 (cond first 0 (cond (is_spoiled c) 26 (cond (is_spoiled d) 26 0))))

  abbrev pub pages_of4 : ℕ
  pages_of4 = pages_of a + (pages_of b + cond first 0 (pages_of c + (pages_of d + 0)))

  -- The value of the last two
  abbrev pub below_later : Value
  below_later = cond first zero (value_of c)

  abbrev pub below_earlier : Value
  below_earlier = cond first zero (value_of d)

  -- What each tree has in the band
  abbrev pub later_band : Result Lookup SpoiledPage
  later_band = cond first a (without a c)

  abbrev pub earlier_band : Result Lookup SpoiledPage
  earlier_band = cond first b (without b d)

  abbrev pub later_value : Value
  later_value = cond first (value_of a) (minus (value_of a) (value_of c))

  abbrev pub earlier_value : Value
  earlier_value = cond first (value_of b) (minus (value_of b) (value_of d))

  -- A spoiled page was met in one of the bands, or both were found
  pub data BandCase : Type 0 where
    later_spoiled : refusal_of4 ≡ 26 → later_band ≡ spoiled → BandCase
    earlier_spoiled : (v : Value) (m : ℕ) → refusal_of4 ≡ 26 → later_band ≡ found v m → earlier_band ≡ spoiled → BandCase
    both_found : (m n : ℕ) → refusal_of4 ≡ 0 → later_band ≡ found later_value m → earlier_band ≡ found earlier_value n → m + n ≡ pages_of4 → BandCase

pub band_case : (first : Bool) (a b c d : Result Lookup SpoiledPage) → BandCase first a b c d
band_case true (Err e) b c d = later_spoiled refl refl
band_case true (Ok a) (Err e) c d = earlier_spoiled a.value a.pages refl refl refl
band_case true (Ok a) (Ok b) c d = both_found a.pages b.pages refl refl refl (omega arith)
band_case false (Err e) b c d = later_spoiled refl refl
band_case false (Ok a) (Err e) (Err f) d = later_spoiled refl refl
band_case false (Ok a) (Err e) (Ok c) d = earlier_spoiled (minus a.value c.value) (a.pages + c.pages) refl refl refl
band_case false (Ok a) (Ok b) (Err e) d = later_spoiled refl refl
band_case false (Ok a) (Ok b) (Ok c) (Err e) = earlier_spoiled (minus a.value c.value) (a.pages + c.pages) refl refl refl
band_case false (Ok a) (Ok b) (Ok c) (Ok d) = both_found (a.pages + c.pages) (b.pages + d.pages) refl refl refl (omega arith)

-- The value of the one band less that of the other is that of the four lookups, and so it is with lines
pub band_values : (first : Bool) (a b c d : Result Lookup SpoiledPage)
    → minus (later_value first a b c d) (earlier_value first a b c d)
    ≡ plus (minus (minus (value_of a) (value_of b)) (below_later first a b c d)) (below_earlier first a b c d)
band_values true a b c d = two_values (value_of a) (value_of b)
band_values false a b c d = four_values (value_of a) (value_of b) (value_of c) (value_of d)

pub band_lines : (first : Bool) (a b c d : Result Lookup SpoiledPage) (t u : ℕ)
    → subtract_words (line_at (later_value first a b c d) t) (line_at (earlier_value first a b c d) u)
    ≡ add_words
    (subtract_words (subtract_words (line_at (value_of a) t) (line_at (value_of b) u)) (line_at (below_later first a b c d) t))
    (line_at (below_earlier first a b c d) u)
band_lines true a b c d t u = two_lines (value_of a) (value_of b) t u
band_lines false a b c d t u = four_lines (value_of a) (value_of b) (value_of c) (value_of d) t u

-- The band of a tree is made of two lookups, also where none is made because the question starts at tick 0
pub band_of_two : (early first : Bool) (b d : Result Lookup SpoiledPage)
    → cond early nothing (cond first b (without b d)) ≡ cond first (cond early nothing b) (without (cond early nothing b) (cond early nothing d))
band_of_two true true b d = refl
band_of_two true false b d = ap (λ (v : Value). found v 0) (sym no_value)
band_of_two false true b d = refl
band_of_two false false b d = refl

-- A lookup from the root that was found in the list
pub looked_up : (tree : Tree) (t k : ℕ) {root : Option ℕ} {l : Result Lookup SpoiledPage} → root ≡ root_at tree t
    → l ≡ lookup_root (rootless tree.table tree.used) t k root → l ≡ lookup tree t k
looked_up tree t k {root} at is = is ∙ root_found tree t k root at

-- With a key below the band, its own lookup and that of the key below
pub band_between : (tree : Tree) (t k1 k2 : ℕ) {high low : Result Lookup SpoiledPage} → (k1 ≡ 0 → ⊥) → high ≡ lookup tree t (k2 - 1) → low ≡ lookup tree t (k1 - 1)
    → without high low ≡ in_band tree t k1 k2
band_between tree t k1 k2 some high low = rw (ne_eqb k1 0 some) (ap₂ without high low)

-- A band opens at most 8 pages
pub few_pages : (tree : Tree) (t k : ℕ) {l : Result Lookup SpoiledPage} → l ≡ lookup tree t k → pages_of l ≤ 8
few_pages tree t k e = rw e (omega (arith, pages_four tree t k))

less_few : (a b : Result Lookup SpoiledPage) → pages_of a ≤ 4 → pages_of b ≤ 4 → pages_of (without a b) ≤ 8
less_few (Err e) b h l = omega arith
less_few (Ok a) (Err e) h l = omega arith
less_few (Ok a) (Ok b) h l = omega arith

in_band_few : (tree : Tree) (t k1 k2 : ℕ) → pages_of (in_band tree t k1 k2) ≤ 8
in_band_few tree t k1 k2 = go (eqb k1 0)
  where
    go : (b : Bool) → pages_of (cond b (lookup tree t (k2 - 1)) (without (lookup tree t (k2 - 1)) (lookup tree t (k1 - 1)))) ≤ 8
    go true = omega (arith, pages_four tree t (k2 - 1))
    go false = less_few (lookup tree t (k2 - 1)) (lookup tree t (k1 - 1)) (pages_four tree t (k2 - 1)) (pages_four tree t (k1 - 1))

pub band_few : (tree : Tree) (t k1 k2 : ℕ) {l : Result Lookup SpoiledPage} → l ≡ in_band tree t k1 k2 → pages_of l ≤ 8
band_few tree t k1 k2 e = rw e (in_band_few tree t k1 k2)

pub band_before_few : (tree : Tree) (t k1 k2 : ℕ) {l : Result Lookup SpoiledPage} → l ≡ band_before tree t k1 k2 → pages_of l ≤ 8
band_before_few tree t k1 k2 e = rw e (go (eqb t 0))
  where
    go : (early : Bool) → pages_of (cond early nothing (in_band tree (t - 1) k1 k2)) ≤ 8
    go true = omega arith
    go false = in_band_few tree (t - 1) k1 k2
