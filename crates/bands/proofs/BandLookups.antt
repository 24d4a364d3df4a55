-- The lookups of a band and an interval, in one tree before t2, in another or the same before t1: which of them are made, what they are refused for, their pages and values.
use Prim.Native.Nat.{ℕ, ◌+◌, ◌-◌}
use native.Mathlib.Omega.{arith}
use mathlib.Core.Path.{◌≡◌, refl, ap, ap₂, sym, ◌∙◌}
use mathlib.Core.Bool.{Bool, true, false, cond, ◌||◌}
use mathlib.Core.List.{List, [], ◌∷◌, ◌++◌}
use lib.Dec.{eqb}
use borrow.Author.Tests.{ne_eqb}
use Rattle.std.specs.Prelude.{Result}
use Rattle.words.specs.declared.value.Value.{Value}
use Rattle.words.specs.Value.{zero, plus, minus, add_words, subtract_words, line_at}
use Rattle.tree.specs.declared.types.Lookup.{Lookup}
use Rattle.tree.specs.declared.types.SpoiledPage.{SpoiledPage}
use Rattle.tree.specs.Spoiled.{spoiled}
use Rattle.tree.specs.Lookup.{found}
use Rattle.store.specs.declared.types.TreeName.{TreeName}
use Rattle.store.specs.Trees.{Store, tree_in}
use Rattle.store.specs.Refusals.{first_met}
use Rattle.store.specs.Reading.{PointLookup, value_of, found_in, points_before, band_lookups, lookup_grounds, pages_in, value_before}
use Rattle.store.proofs.ArgumentFacts.{Asked}
use Rattle.bands.specs.Bands.{in_band, nothing, band_before}
use Rattle.bands.proofs.BandLaws.{refusal_of4, pages_of4, below_later, below_earlier, earlier_band, later_value, earlier_value, band_case, band_values, band_lines, band_of_two}
use Rattle.bands.proofs.BandLaws as laws

module _ (s : Store) (later earlier : TreeName) (k1 k2 t1 t2 : ℕ) (ask : Asked k1 k2 t1 t2) where
  abbrev lookups : List PointLookup
  lookups = band_lookups later earlier k1 k2 t1 t2

  -- No key is below the band, no tick before t1
  abbrev first : Bool
  first = eqb k1 0

  abbrev early : Bool
  early = eqb t1 0

  -- What the four lookups find, those before t1 nothing where none is made
  abbrev before_t1 : Bool → ℕ → Result Lookup SpoiledPage
  before_t1 none k = cond none nothing (found_in s (points_before earlier t1 k))

  abbrev a : Result Lookup SpoiledPage
  a = found_in s (points_before later t2 k2)

  abbrev b : Result Lookup SpoiledPage
  b = before_t1 early k2

  abbrev c : Result Lookup SpoiledPage
  c = found_in s (points_before later t2 k1)

  abbrev d : Result Lookup SpoiledPage
  d = before_t1 early k1

  some_tick : eqb t2 0 ≡ false
  some_tick = ne_eqb t2 0 (λ e. omega (arith, e, ask.ticks))

  some_key : eqb k2 0 ≡ false
  some_key = ne_eqb k2 0 (λ e. omega (arith, e, ask.band))

  -- The lookups that are made, by which of the ticks and keys are 0
  abbrev made : (t2_is t1_is k2_is k1_is : Bool) → List PointLookup
  made t2_is t1_is k2_is k1_is =
      cond (t2_is || k2_is) [] (points_before later t2 k2 ∷ [])
      ++ (cond (t1_is || k2_is) [] (points_before earlier t1 k2 ∷ [])
      ++ (cond (t2_is || k1_is) [] (points_before later t2 k1 ∷ []) ++ cond (t1_is || k1_is) [] (points_before earlier t1 k1 ∷ [])))

  lookups_are : lookups ≡ made false early false first
  lookups_are = ap₂ (λ (t k : Bool). made t early k first) some_tick some_key

  grounds_are : first_met (lookup_grounds s lookups ++ []) ≡ refusal_of4 first a b c d
  unfolding first_met
  grounds_are = ap (λ (ls : List PointLookup). first_met (lookup_grounds s ls ++ [])) lookups_are ∙ go early first
    where
      go : (early first : Bool) → first_met (lookup_grounds s (made false early false first) ++ []) ≡ refusal_of4 first a (before_t1 early k2) c (before_t1 early k1)
      go true true = refl
      go true false = refl
      go false true = refl
      go false false = refl

  pages_are : pages_in s lookups ≡ pages_of4 first a b c d
  pages_are = ap (pages_in s) lookups_are ∙ go early first
    where
      go : (early first : Bool) → pages_in s (made false early false first) ≡ pages_of4 first a (before_t1 early k2) c (before_t1 early k1)
      go true true = omega arith
      go true false = omega arith
      go false true = omega arith
      go false false = omega arith

  -- What each is worth
  value_later : value_before s later t2 k2 ≡ value_of a
  value_later = ap₂ (λ (t k : Bool). cond (t || k) zero (value_of a)) some_tick some_key

  value_earlier : value_before s earlier t1 k2 ≡ value_of b
  value_earlier = ap (λ (k : Bool). cond (early || k) zero (value_of (found_in s (points_before earlier t1 k2)))) some_key ∙ go early
    where
      go : (early : Bool) → cond (early || false) zero (value_of (found_in s (points_before earlier t1 k2))) ≡ value_of (before_t1 early k2)
      go true = refl
      go false = refl

  below_later_lem : value_before s later t2 k1 ≡ below_later first a b c d
  below_later_lem = ap (λ (t : Bool). cond (t || first) zero (value_of c)) some_tick

  below_earlier_lem : value_before s earlier t1 k1 ≡ below_earlier first a b c d
  below_earlier_lem = go early first
    where
      go : (early first : Bool) → cond (early || first) zero (value_of (found_in s (points_before earlier t1 k1))) ≡ cond first zero (value_of (before_t1 early k1))
      go true true = refl
      go true false = refl
      go false true = refl
      go false false = refl

  -- The later band is that of its two lookups by definition, and so is the earlier one, also where none is made
  earlier_is : band_before (tree_in s earlier) t1 k1 k2 ≡ earlier_band first a b c d
  earlier_is = band_of_two early first (found_in s (points_before earlier t1 k2)) (found_in s (points_before earlier t1 k1))

  abbrev later_band_lem : Result Lookup SpoiledPage
  later_band_lem = in_band (tree_in s later) (t2 - 1) k1 k2

  abbrev earlier_band_lem : Result Lookup SpoiledPage
  earlier_band_lem = band_before (tree_in s earlier) t1 k1 k2

  abbrev refusal : ℕ
  refusal = first_met (lookup_grounds s lookups ++ [])

  -- The two bands beside the refusal of the lookups: a spoiled page was met, or both were found, with their pages, and their values and lines, the one less the other
  pub data Bands : Type 0 where
    later_spoiled : 26 ≡ refusal → later_band_lem ≡ spoiled → Bands
    earlier_spoiled : (v : Value) (m : ℕ) → 26 ≡ refusal → later_band_lem ≡ found v m → earlier_band_lem ≡ spoiled → Bands
    both_found : (v w : Value) (m n : ℕ) → 0 ≡ refusal → later_band_lem ≡ found v m → earlier_band_lem ≡ found w n → m + n ≡ pages_in s lookups
        → minus v w
        ≡ plus (minus (minus (value_before s later t2 k2) (value_before s earlier t1 k2)) (value_before s later t2 k1)) (value_before s earlier t1 k1)
        → ((t u : ℕ)
        → subtract_words (line_at v t) (line_at w u)
        ≡ add_words
        (subtract_words (subtract_words (line_at (value_before s later t2 k2) t) (line_at (value_before s earlier t1 k2) u)) (line_at (value_before s later t2 k1) t))
        (line_at (value_before s earlier t1 k1) u))
        → Bands

  pub bands : Bands
  bands = go (band_case first a b c d)
    where
      refused : {n : ℕ} → refusal_of4 first a b c d ≡ n → n ≡ refusal
      refused e = sym (grounds_are ∙ e)

      go : laws.BandCase first a b c d → Bands
      go (laws.later_spoiled met later_is) = later_spoiled (refused met) later_is
      go (laws.earlier_spoiled v m met later_is other) = earlier_spoiled v m (refused met) later_is (earlier_is ∙ other)
      go (laws.both_found m n met later_is other pages) =
          both_found (later_value first a b c d) (earlier_value first a b c d) m n (refused met) later_is (earlier_is ∙ other) (pages ∙ sym pages_are)
          (rw (value_later, value_earlier, below_later_lem, below_earlier_lem) (band_values first a b c d))
          (λ t u. rw (value_later, value_earlier, below_later_lem, below_earlier_lem) (band_lines first a b c d t u))
