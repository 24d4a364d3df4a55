-- The lookups of a band and an interval, of a question and of bat-time alike: at most four, each in bounds.
use Prim.Native.Nat.{ℕ, ◌≤◌}
use native.Mathlib.Omega.{arith}
use mathlib.Core.Bool.{Bool, true, false, cond}
use mathlib.Core.List.{[], ◌∷◌, ◌++◌}
use lib.ListN.{length, length-append}
use Rattle.words.specs.Lists.{All}
use Rattle.words.specs.Words.{open_end}
use Rattle.tree.proofs.Lists.{all_append}
use Rattle.store.specs.declared.types.TreeName.{TreeName}
use Rattle.store.specs.Reading.{PointLookup, points_before, none_precede, lookup_before, band_lookups}
use Rattle.store.proofs.ArgumentFacts.{InBounds, Asked}

abbrev pub LookupInBounds : PointLookup → Type 0
LookupInBounds l = InBounds l.tick l.key

-- Each of the four is one lookup at most
pub one_most : (tree : TreeName) (t k : ℕ) → length (lookup_before tree t k) ≤ 1
one_most tree t k = go (none_precede t k)
  where
    go : (none : Bool) → length (cond none [] (points_before tree t k ∷ [])) ≤ 1
    go true = omega arith
    go false = omega arith

pub four_most : (later earlier : TreeName) (k1 k2 t1 t2 : ℕ) → length (band_lookups later earlier k1 k2 t1 t2) ≤ 4
four_most later earlier k1 k2 t1 t2 =
    omega (
      arith,
      length-append (lookup_before later t2 k2) (lookup_before earlier t1 k2 ++ (lookup_before later t2 k1 ++ lookup_before earlier t1 k1)),
      length-append (lookup_before earlier t1 k2) (lookup_before later t2 k1 ++ lookup_before earlier t1 k1),
      length-append (lookup_before later t2 k1) (lookup_before earlier t1 k1),
      one_most later t2 k2,
      one_most earlier t1 k2,
      one_most later t2 k1,
      one_most earlier t1 k1,
    )

module _ (k1 k2 t1 t2 : ℕ) (wide : t2 ≤ open_end) (ask : Asked k1 k2 t1 t2) where
  -- A lookup with a tick and a key up to the highest ones
  pub before_in : (tree : TreeName) (t k : ℕ) → t ≤ t2 → k ≤ k2 → InBounds (points_before tree t k).tick (points_before tree t k).key
  before_in tree t k early low = record { tick = omega (arith, ask.ticks); key = omega (arith, ask.high, ask.band) }

  one_in : (tree : TreeName) (t k : ℕ) → t ≤ t2 → k ≤ k2 → All LookupInBounds (lookup_before tree t k)
  one_in tree t k early low = go (none_precede t k)
    where
      go : (none : Bool) → All LookupInBounds (cond none [] (points_before tree t k ∷ []))
      go true = tt
      go false = (before_in tree t k early low, tt)

  pub in_bounds : (later earlier : TreeName) → All LookupInBounds (band_lookups later earlier k1 k2 t1 t2)
  in_bounds later earlier =
      let sooner : t1 ≤ t2 = omega (arith, ask.ticks) in
      let lower : k1 ≤ k2 = omega (arith, ask.band) in
      all_append LookupInBounds (lookup_before later t2 k2) _ (one_in later t2 k2 (omega arith) (omega arith))
      (all_append LookupInBounds (lookup_before earlier t1 k2) _ (one_in earlier t1 k2 sooner (omega arith))
      (all_append LookupInBounds (lookup_before later t2 k1) (lookup_before earlier t1 k1) (one_in later t2 k1 (omega arith) lower) (one_in earlier t1 k1 sooner lower)))
