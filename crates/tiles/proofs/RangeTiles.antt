-- What the tile test decides, of key ranges in any order: each key of the range low to high lies in exactly one of them, and none is empty.
-- Where the lowest key is held and each key at which a range stops is held again, every key is held; and where the ranges together have as many
-- keys as the range, none is held twice.
use Prim.Native.Nat.{ℕ, zero, suc, ◌+◌, ◌-◌, ◌≤◌, ◌<◌}
use native.Mathlib.Omega.{arith}
use native.Mathlib.Decide.{dec_le}
use mathlib.Core.Path.{◌≡◌, refl, sym, ap, ap₂, ◌∙◌}
use mathlib.Core.Bool.{Bool, true, false, cond, and-eq-true_iff}
use mathlib.Core.List.{List, [], ◌∷◌}
use lib.Dec.{leb, ltb}
use lib.ListN.{length, get_or}
use borrow.Author.Tests.{leb-true, leb-false, ltb-true, ltb-false, eqb-true, le-leb, lt-leb, lt-ltb, eq-eqb}
use Rattle.words.specs.Sums.{sum_by, count}
use Rattle.ranges.specs.KeyRanges.{range_low, range_high, holds_key}
use Rattle.tiles.specs.TileTest.{larger, is_empty, clipped, goes_on, stops_well, every, tiles}
use Rattle.tree.proofs.Lists.{All, all_at, count_at}
use Rattle.tree.proofs.Walk.{holds_one, below_none, above_none}
use Rattle.ranges.proofs.LesserLaws.{lesser_first, lesser_second}

-- A number added up over the first n keys from 0 on
unfoldable sum_up_to : (ℕ → ℕ) → ℕ → ℕ
sum_up_to f zero = 0
sum_up_to f (suc n) = f n + sum_up_to f n

sum_both : (f g : ℕ → ℕ) (n : ℕ) → sum_up_to (λ (i : ℕ). f i + g i) n ≡ sum_up_to f n + sum_up_to g n
unfolding sum_up_to
sum_both f g zero = refl
sum_both f g (suc n) = omega (arith, sum_both f g n)

sum_none : (n : ℕ) → sum_up_to (λ (i : ℕ). 0) n ≡ 0
unfolding sum_up_to
sum_none zero = refl
sum_none (suc n) = omega (arith, sum_none n)

sum_least : (f : ℕ → ℕ) (n : ℕ) → ((i : ℕ) → i < n → 1 ≤ f i) → n ≤ sum_up_to f n
unfolding sum_up_to
sum_least f zero h = omega arith
sum_least f (suc n) h = omega (arith, h n (omega arith), sum_least f n (λ i p. h i (omega arith)))

-- Numbers of at least 1 each that add up to how many they are: each is 1
sum_ones : (f : ℕ → ℕ) (n : ℕ) → ((i : ℕ) → i < n → 1 ≤ f i) → sum_up_to f n ≡ n → (i : ℕ) → i < n → f i ≡ 1
unfolding sum_up_to
sum_ones f zero h e i p = absurd (omega arith)
sum_ones f (suc n) h e i p = go (dec_le n i) (λ q. sum_ones f n (λ j r. h j (omega arith)) (omega (arith, h n (omega arith), rest)) i (omega arith))
  where
    rest : n ≤ sum_up_to f n
    rest = sum_least f n (λ j q. h j (omega arith))

    go : Dec (n ≤ i) → (i < n → f i ≡ 1) → f i ≡ 1
    go (yes q) ih =
        let same : i ≡ n = omega arith in
        ap f same ∙ omega (arith, h n (omega arith), rest)
    go (no q) ih = ih (omega arith)

ones_sum : (f : ℕ → ℕ) (n : ℕ) → ((i : ℕ) → i < n → f i ≡ 1) → sum_up_to f n ≡ n
unfolding sum_up_to
ones_sum f zero h = refl
ones_sum f (suc n) h = omega (arith, h n (omega arith), ones_sum f n (λ i p. h i (omega arith)))

-- 1 where a range holds a key
abbrev held : ℕ → ℕ → ℕ
held q e = cond (holds_key q e) 1 0

-- The larger of two numbers
larger_left : (a b : ℕ) → a ≤ larger a b
larger_left a b = go (ltb a b) refl
  where
    go : (c : Bool) → ltb a b ≡ c → a ≤ cond c b a
    go true e = omega (arith, ltb-true a b e)
    go false e = omega arith

larger_right : (a b : ℕ) → b ≤ larger a b
larger_right a b = go (ltb a b) refl
  where
    go : (c : Bool) → ltb a b ≡ c → b ≤ cond c b a
    go true e = omega arith
    go false e = omega (arith, ltb-false a b e)

larger_most : (a b n : ℕ) → a ≤ n → b ≤ n → larger a b ≤ n
larger_most a b n p q = go (ltb a b)
  where
    go : (c : Bool) → cond c b a ≤ n
    go true = q
    go false = p

module _ (low : ℕ) where
  -- The keys of the first n from `low` on that a range has
  clipped_sum : (e n : ℕ) → sum_up_to (λ (i : ℕ). held (low + i) e) n ≡ clipped low (low + n) e
  unfolding sum_up_to
  clipped_sum e zero = go (dec_le (range_high e) (low + 0))
    where
      go : Dec (range_high e ≤ low + 0) → 0 ≡ clipped low (low + 0) e
      go (yes h) = rw (lesser_first (range_high e) (low + 0) h) (omega (arith, larger_right (range_low e) low))
      go (no h) = rw (lesser_second (range_high e) (low + 0) (omega arith)) (omega (arith, larger_right (range_low e) low))
  clipped_sum e (suc n) = ap (◌+◌ (held (low + n) e)) (clipped_sum e n) ∙ go (dec_le (range_high e) (low + n)) (dec_le (range_low e) (low + n))
    where
      go : Dec (range_high e ≤ low + n) → Dec (range_low e ≤ low + n) → held (low + n) e + clipped low (low + n) e ≡ clipped low (low + suc n) e
      go (yes h) d =
          rw (above_none range_low range_high (low + n) e h, lesser_first (range_high e) (low + n) h, lesser_first (range_high e) (low + suc n) (omega arith)) (omega arith)
      go (no h) (yes l) =
          rw (holds_one range_low range_high (low + n) e l (omega arith), lesser_second (range_high e) (low + n) (omega arith), lesser_second (range_high e) (low + suc n) (omega arith))
          (omega (arith, larger_most (range_low e) low (low + n) l (omega arith)))
      go (no h) (no l) =
          rw (below_none range_low range_high (low + n) e (omega arith), lesser_second (range_high e) (low + n) (omega arith), lesser_second (range_high e) (low + suc n) (omega arith))
          (omega (arith, larger_left (range_low e) low))

  -- Over all keys, how often each is held; over all ranges, how many keys each has: the same sum
  cover_sum : (ranges : List ℕ) (n : ℕ) → sum_up_to (λ (i : ℕ). count (holds_key (low + i)) ranges) n ≡ sum_by (clipped low (low + n)) ranges
  cover_sum [] n = sum_none n
  cover_sum (e ∷ es) n =
      sum_both (λ (i : ℕ). held (low + i) e) (λ (i : ℕ). count (holds_key (low + i)) es) n
      ∙ ap₂ ◌+◌ (clipped_sum e n) (cover_sum es n)

-- A test that some item passes: which one
record Passing (test : ℕ → Bool) (xs : List ℕ) : Type 0 where
  index : ℕ
  inside : index < length xs
  passes : test (get_or xs index 0) ≡ true

passing : (test : ℕ → Bool) (xs : List ℕ) → 1 ≤ count test xs → Passing test xs
passing test [] h = absurd (omega arith)
passing test (x ∷ xs) h = go (test x) refl h (λ p. passing test xs p)
  where
    go : (b : Bool) → test x ≡ b → 1 ≤ cond b 1 0 + count test xs → (1 ≤ count test xs → Passing test xs) → Passing test (x ∷ xs)
    go true e p ih = record { index = 0; inside = omega arith; passes = e }
    go false e p ih =
        let r = ih (omega arith) in
        record { index = suc r.index; inside = omega (arith, r.inside); passes = r.passes }

every_all : (test : ℕ → Bool) (xs : List ℕ) → every test xs ≡ true → All (λ (x : ℕ). test x ≡ true) xs
unfolding every
every_all test [] e = tt
every_all test (x ∷ xs) e = let b = (and-eq-true_iff _ _).0 e in (b.0, every_all test xs b.1)

all_every : (test : ℕ → Bool) (xs : List ℕ) → ((x : ℕ) → test x ≡ true) → every test xs ≡ true
unfolding every
all_every test [] h = refl
all_every test (x ∷ xs) h = rw (h x) (all_every test xs h)

full_none : (xs : List ℕ) → count is_empty xs ≡ 0 → All (λ (e : ℕ). range_low e < range_high e) xs
full_none [] h = tt
full_none (x ∷ xs) h = go (leb (range_high x) (range_low x)) refl h (λ p. full_none xs p)
  where
    go : (b : Bool) → leb (range_high x) (range_low x) ≡ b → cond b 1 0 + count is_empty xs ≡ 0 →
        (count is_empty xs ≡ 0 → All (λ (e : ℕ). range_low e < range_high e) xs) → All (λ (e : ℕ). range_low e < range_high e) (x ∷ xs)
    go true e p ih = absurd (omega arith)
    go false e p ih = (leb-false (range_high x) (range_low x) e, ih (omega arith))

none_full : (xs : List ℕ) → All (λ (e : ℕ). range_low e < range_high e) xs → count is_empty xs ≡ 0
none_full [] h = refl
none_full (x ∷ xs) h = rw (lt-leb (range_high x) (range_low x) h.0) (omega (arith, none_full xs h.1))

-- Each key of the range once, and no range empty
pub record Once (low high : ℕ) (ranges : List ℕ) : Type 0 where
  pub once : (q : ℕ) → low ≤ q → q < high → count (holds_key q) ranges ≡ 1
  pub full : All (λ (e : ℕ). range_low e < range_high e) ranges

module _ (low high : ℕ) (some : low < high) (ranges : List ℕ) where
  -- The keys as `low` and how far from it
  upto : low + (high - low) ≡ high
  upto = omega arith

  sums : sum_up_to (λ (i : ℕ). count (holds_key (low + i)) ranges) (high - low) ≡ sum_by (clipped low high) ranges
  sums = cover_sum low ranges (high - low) ∙ ap (λ (h : ℕ). sum_by (clipped low h) ranges) upto

  -- Every key is held: the lowest is, and from one key to the next the same range goes on or another does
  next_held : All (λ (e : ℕ). stops_well low high ranges e ≡ true) ranges → (q : ℕ) → low ≤ q → q + 1 < high → Passing (holds_key q) ranges →
      1 ≤ count (holds_key (q + 1)) ranges
  next_held all q l h p = go (get_or ranges p.index 0) p.passes (all_at (λ (e : ℕ). stops_well low high ranges e ≡ true) ranges p.index 0 all p.inside) refl
    where
      go : (e : ℕ) → holds_key q e ≡ true → stops_well low high ranges e ≡ true → get_or ranges p.index 0 ≡ e → 1 ≤ count (holds_key (q + 1)) ranges
      go e f w same = on (dec_le (range_high e) (q + 1))
        where
          starts : range_low e ≤ q
          starts = leb-true (range_low e) q ((and-eq-true_iff (leb (range_low e) q) (ltb q (range_high e))).0 f).0

          stops : q < range_high e
          stops = ltb-true q (range_high e) ((and-eq-true_iff (leb (range_low e) q) (ltb q (range_high e))).0 f).1

          on : Dec (range_high e ≤ q + 1) → 1 ≤ count (holds_key (q + 1)) ranges
          on (yes r) =
              let at : range_high e ≡ q + 1 = omega (arith, stops) in
              let again : goes_on low high ranges (q + 1) ≡ true = rw at at w in
              ltb-true 0 _ (rw (lt-leb (q + 1) low (omega arith), lt-leb high (q + 1) (omega arith)) at again)
          on (no r) =
              count_at (holds_key (q + 1)) ranges p.index 0 p.inside
              (rw (same, le-leb (range_low e) (q + 1) (omega (arith, starts)), lt-ltb (q + 1) (range_high e) (omega arith)))

  covered : 1 ≤ count (holds_key low) ranges → All (λ (e : ℕ). stops_well low high ranges e ≡ true) ranges →
      (i : ℕ) → low + i < high → 1 ≤ count (holds_key (low + i)) ranges
  covered first all zero h = let same : low + 0 ≡ low = omega arith in rw same first
  covered first all (suc i) h =
      let same : low + suc i ≡ low + i + 1 = omega arith in
      rw same
      (next_held all (low + i) (omega arith) (omega arith) (passing (holds_key (low + i)) ranges (covered first all i (omega arith))))

  fits : (i : ℕ) → i < high - low → low + i < high
  fits i p = omega arith

  once_from : ((i : ℕ) → i < high - low → 1 ≤ count (holds_key (low + i)) ranges) →
      sum_up_to (λ (i : ℕ). count (holds_key (low + i)) ranges) (high - low) ≡ high - low →
      (q : ℕ) → low ≤ q → q < high → count (holds_key q) ranges ≡ 1
  once_from h e q l p =
      let same : low + (q - low) ≡ q = omega arith in
      let i : q - low < high - low = omega arith in
      rw same at (sum_ones (λ (i : ℕ). count (holds_key (low + i)) ranges) (high - low) h e (q - low) i)

  pub tiles_once : tiles low high ranges ≡ true → Once low high ranges
  unfolding tiles
  tiles_once t =
      let a = (and-eq-true_iff _ _).0 t in
      let b = (and-eq-true_iff _ _).0 a.1 in
      let c = (and-eq-true_iff _ _).0 b.1 in
      let every_held : (i : ℕ) → i < high - low → 1 ≤ count (holds_key (low + i)) ranges =
      λ i p.
      covered (ltb-true 0 (count (holds_key low) ranges) c.0) (every_all (stops_well low high ranges) ranges c.1) i (fits i p) in
      let total : sum_up_to (λ (i : ℕ). count (holds_key (low + i)) ranges) (high - low) ≡ high - low = sums ∙ eqb-true (sum_by (clipped low high) ranges) (high - low) b.0 in
      record {
        once = once_from every_held total;
        full = full_none ranges (eqb-true (count is_empty ranges) 0 a.0);
      }

  well : Once low high ranges → (q : ℕ) → goes_on low high ranges q ≡ true
  well o q = go (dec_le q low) (dec_le high q)
    where
      go : Dec (q ≤ low) → Dec (high ≤ q) → goes_on low high ranges q ≡ true
      go (yes p) d = simp (le-leb q low p)
      go (no p) (yes r) = simp (lt-leb q low (omega arith), le-leb high q r)
      go (no p) (no r) = rw (lt-leb q low (omega arith), lt-leb high q (omega arith), o.once q (omega arith) (omega arith))

  pub once_tiles : Once low high ranges → tiles low high ranges ≡ true
  unfolding tiles
  once_tiles o =
      let total : sum_by (clipped low high) ranges ≡ high - low =
      sym sums ∙ ones_sum (λ (i : ℕ). count (holds_key (low + i)) ranges) (high - low) (λ i p. o.once (low + i) (omega arith) (omega arith)) in
      rw (
        none_full ranges o.full,
        eq-eqb _ _ total,
        o.once low (omega arith) some,
        all_every (stops_well low high ranges) ranges (λ e. well o (range_high e)),
      )
