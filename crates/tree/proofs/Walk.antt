-- What the walk of the page test decides, of items of any kind. It accepts items in the order of their low keys just where none is empty,
-- each key from `low` up to `high` that the walk has not passed yet lies in exactly one of them, and each that it has passed in none.
use Prim.Native.Nat.{ℕ, ◌+◌, ◌≤◌, ◌<◌}
use native.Mathlib.Nat.{le_refl}
use native.Mathlib.Decide.{dec_le}
use native.Mathlib.Omega.{arith}
use mathlib.Core.Path.{◌≡◌, refl, sym, ap, ◌∙◌}
use mathlib.Core.Bool.{Bool, true, false, cond, ◌&&◌, ◌||◌, and-eq-true_iff}
use mathlib.Core.Logic.{◌⊎◌, inl, inr}
use mathlib.Core.List.{List, [], ◌∷◌}
use lib.Dec.{leb, ltb, eqb}
use borrow.Author.Tests.{leb-true, ltb-true, eqb-true, le-leb, lt-leb, lt-ltb, le-ltb, eq-eqb}
use Rattle.tree.specs.PageTest.{outside, clipped_low, fits_next, next_key, each_key_once}
use Rattle.tree.proofs.Lists.{All, all_map, one_if, count}
use Rattle.tree.proofs.Sorted.{Sorted}

-- How many items hold a key where the walk has passed the keys below `next`
abbrev pub due : ℕ → ℕ → ℕ
due next q = cond (ltb q next) 0 1

pub due_none : (next q : ℕ) → q < next → due next q ≡ 0
due_none next q h = simp (lt-ltb q next h)

pub due_one : (next q : ℕ) → next ≤ q → due next q ≡ 1
due_one next q h = simp (le-ltb q next h)

module _ {A : Type 0} (low_of high_of : A → ℕ) where
  -- The item holds the key
  abbrev pub holds_key : ℕ → A → Bool
  holds_key q x = leb (low_of x) q && ltb q (high_of x)

  abbrev pub NotEmpty : A → Type 0
  NotEmpty x = low_of x < high_of x

  pub holds_one : (q : ℕ) (x : A) → low_of x ≤ q → q < high_of x → one_if (holds_key q) x ≡ 1
  holds_one q x p r = simp (le-leb (low_of x) q p, lt-ltb q (high_of x) r)

  pub below_none : (q : ℕ) (x : A) → q < low_of x → one_if (holds_key q) x ≡ 0
  below_none q x p = simp (lt-leb (low_of x) q p)

  pub above_none : (q : ℕ) (x : A) → high_of x ≤ q → one_if (holds_key q) x ≡ 0
  above_none q x p = go (leb (low_of x) q)
    where
      go : (b : Bool) → ◌≡◌ {A = ℕ} (cond (b && ltb q (high_of x)) 1 0) 0
      go true = simp (le-ltb q (high_of x) p)
      go false = refl

  -- No item holds a key below the low keys of all
  below_all : (q : ℕ) (xs : List A) → All (λ (x : A). q < low_of x) xs → count (holds_key q) xs ≡ 0
  below_all q [] h = refl
  below_all q (x ∷ xs) h = omega (arith, below_none q x h.0, below_all q xs h.1)

  module _ (low high : ℕ) where
    -- Of the keys from `low` up to `high`, those below `next` lie in no item and the others in exactly one
    abbrev pub OnceFrom : ℕ → List A → Type 0
    OnceFrom next xs = (q : ℕ) → low ≤ q → q < high → count (holds_key q) xs ≡ due next q

    -- The walk accepts the items from `next` on
    abbrev pub Accepts : ℕ → List A → Type 0
    Accepts next xs = each_key_once low_of high_of low high next xs ≡ true

    -- Of an item outside the range: it holds no key of the range
    record Outside (x : A) : Type 0 where
      is_outside : outside low_of high_of low high x ≡ true
      no_key : (q : ℕ) → low ≤ q → q < high → one_if (holds_key q) x ≡ 0

    -- Of any other item: `start` is the lowest key from `low` on that is not below the item
    record Inside (x : A) : Type 0 where
      is_inside : outside low_of high_of low high x ≡ false
      start : ℕ
      start_is : clipped_low low_of high_of low high x ≡ start
      start_low : low ≤ start
      start_item : low_of x ≤ start
      least : (q : ℕ) → low ≤ q → q < start → q < low_of x
      ends_above : low < high_of x
      start_high : low < high → start < high
      start_held : NotEmpty x → start < high_of x

    where_is : (x : A) → Outside x ⊎ Inside x
    where_is x = go (dec_le (high_of x) low) (dec_le high (low_of x)) (dec_le low (low_of x))
      where
        go : Dec (high_of x ≤ low) → Dec (high ≤ low_of x) → Dec (low ≤ low_of x) → Outside x ⊎ Inside x
        go (yes h) d e = inl (record { is_outside = simp (le-leb (high_of x) low h); no_key = λ q p r. above_none q x (omega arith) })
        go (no h) (yes l) e =
            inl
            (record {
              is_outside = simp (lt-leb (high_of x) low (omega arith), le-leb high (low_of x) l);
              no_key = λ q p r. below_none q x (omega arith);
            })
        go (no h) (no l) (yes s) =
            inr
            (record {
              is_inside = simp (lt-leb (high_of x) low (omega arith), lt-leb high (low_of x) (omega arith));
              start = low_of x;
              start_is = simp (le-ltb (low_of x) low s);
              start_low = s;
              start_item = le_refl _;
              least = λ q p r. r;
              ends_above = omega arith;
              start_high = λ k. omega arith;
              start_held = λ k. omega arith;
            })
        go (no h) (no l) (no s) =
            inr
            (record {
              is_inside = simp (lt-leb (high_of x) low (omega arith), lt-leb high (low_of x) (omega arith));
              start = low;
              start_is = simp (lt-ltb (low_of x) low (omega arith));
              start_low = le_refl _;
              start_item = omega arith;
              least = λ q p r. absurd (omega arith);
              ends_above = omega arith;
              start_high = λ k. omega arith;
              start_held = λ k. omega arith;
            })

    -- An item that starts where the walk stands, and the walk from its high key on
    inside_step : (x : A) (i : Inside x) → NotEmpty x → (q : ℕ) → low ≤ q → one_if (holds_key q) x + due (high_of x) q ≡ due i.start q
    inside_step x i n q p = go (dec_le i.start q) (dec_le (high_of x) q)
      where
        go : Dec (i.start ≤ q) → Dec (high_of x ≤ q) → one_if (holds_key q) x + due (high_of x) q ≡ due i.start q
        go (no s) d =
            let below : q < low_of x = i.least q p (omega arith) in
            omega (arith, below_none q x below, due_none (high_of x) q (omega arith), due_none i.start q (omega arith))
        go (yes s) (no h) =
            let held : one_if (holds_key q) x ≡ 1 = holds_one q x (omega (arith, i.start_item)) (omega arith) in
            omega (arith, held, due_none (high_of x) q (omega arith), due_one i.start q s)
        go (yes s) (yes h) = omega (arith, above_none q x h, due_one (high_of x) q h, due_one i.start q s)

    -- What the walk accepts has each key once; the order of the items does not matter here
    pub walk_once : (next : ℕ) (xs : List A) → low ≤ next → Accepts next xs → OnceFrom next xs
    unfolding each_key_once
    walk_once next [] l e q p r = sym (due_none next q (omega (arith, leb-true high next e)))
    walk_once next (x ∷ xs) l e q p r = go (where_is x) (λ n m f. walk_once n xs m f q p r)
      where
        both : (fits_next low_of high_of low high next x ≡ true) × Accepts (next_key low_of high_of low high next x) xs
        both = (and-eq-true_iff _ _).0 e

        fits : (ltb (low_of x) (high_of x) ≡ true)
            × ((outside low_of high_of low high x || eqb (clipped_low low_of high_of low high x) next) ≡ true)
        fits = (and-eq-true_iff _ _).0 both.0

        go : Outside x ⊎ Inside x → ((n : ℕ) → low ≤ n → Accepts n xs → count (holds_key q) xs ≡ due n q)
            → one_if (holds_key q) x + count (holds_key q) xs ≡ due next q
        go (inl o) ih = omega (arith, o.no_key q p r, ih next l (rw o.is_outside at both.1))
        go (inr i) ih =
            let n : low_of x < high_of x = ltb-true _ _ fits.0 in
            let s : clipped_low low_of high_of low high x ≡ next = eqb-true _ _ (rw i.is_inside at fits.1) in
            let at : due i.start q ≡ due next q = ap (λ (m : ℕ). due m q) (sym i.start_is ∙ s) in
            omega (arith, at, inside_step x i n q p, ih (high_of x) (omega (arith, i.ends_above)) (rw i.is_inside at both.1))

    pub walk_full : (next : ℕ) (xs : List A) → Accepts next xs → All NotEmpty xs
    unfolding each_key_once
    walk_full next [] e = tt
    walk_full next (x ∷ xs) e =
        let both = (and-eq-true_iff _ _).0 e in
        (ltb-true _ _ ((and-eq-true_iff _ _).0 both.0).0, walk_full (next_key low_of high_of low high next x) xs both.1)

    -- Where each key is held as the walk expects, the first item starts where the walk stands
    stands : low < high → (next : ℕ) (x : A) (xs : List A) (i : Inside x) → low ≤ next → NotEmpty x
        → All (λ (y : A). low_of x ≤ low_of y) xs → OnceFrom next (x ∷ xs) → i.start ≡ next
    stands k next x xs i l n s h = go (dec_le next i.start) (dec_le i.start next)
      where
        go : Dec (next ≤ i.start) → Dec (i.start ≤ next) → i.start ≡ next
        go (yes a) (yes b) = omega arith
        go (no a) d =
            let held : one_if (holds_key i.start) x ≡ 1 = holds_one i.start x i.start_item (i.start_held n) in
            absurd (omega (arith, held, h i.start i.start_low (i.start_high k), due_none next i.start (omega arith)))
        go (yes a) (no b) =
            let before : next < low_of x = i.least next l (omega arith) in
            let later : All (λ (y : A). next < low_of y) xs = all_map (λ (y : A). low_of x ≤ low_of y) _ (λ y r. omega arith) xs s in
            let missing : count (holds_key next) (x ∷ xs) ≡ 0 = omega (arith, below_none next x before, below_all next xs later) in
            absurd (omega (arith, missing, h next l (omega (arith, i.start_high k)), due_one next next (le_refl next)))

    -- And the other way, for items in order and a range that has a key
    pub walk_accepts : low < high → (next : ℕ) (xs : List A) → low ≤ next → Sorted low_of xs → All NotEmpty xs → OnceFrom next xs
        → Accepts next xs
    unfolding each_key_once
    walk_accepts k next [] l s n h = go (dec_le high next)
      where
        go : Dec (high ≤ next) → leb high next ≡ true
        go (yes d) = le-leb high next d
        go (no d) = absurd (omega (arith, h next l (omega arith), due_one next next (le_refl next)))
    walk_accepts k next (x ∷ xs) l s n h = go (where_is x) (λ m b g. walk_accepts k m xs b s.1 n.1 g)
      where
        full : low_of x < high_of x
        full = n.0

        go : Outside x ⊎ Inside x → ((m : ℕ) → low ≤ m → OnceFrom m xs → Accepts m xs) → Accepts next (x ∷ xs)
        go (inl o) ih =
            simp (lt-ltb (low_of x) (high_of x) full, o.is_outside) (ih next l (λ q p r. omega (arith, h q p r, o.no_key q p r)))
        go (inr i) ih =
            let same : i.start ≡ next = stands k next x xs i l full s.0 h in
            let after : OnceFrom (high_of x) xs = λ q p r. omega (arith, ap (λ (m : ℕ). due m q) same, h q p r, inside_step x i full q p) in
            simp (lt-ltb (low_of x) (high_of x) full, i.is_inside, eq-eqb _ next (i.start_is ∙ same))
            (ih (high_of x) (omega (arith, i.ends_above)) after)
