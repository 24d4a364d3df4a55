-- The least number of all ranges that fit belongs to the first row in key order that fits.
use Prim.Native.Nat.{ℕ, suc, ◌+◌, ◌*◌, ◌%◌, ◌≤◌, ◌<◌}
use native.Mathlib.Omega.{arith}
use native.Mathlib.Numerals.{add-one}
use mathlib.Core.Path.{◌≡◌, refl, ap, sym, ◌∙◌}
use mathlib.Core.Bool.{Bool, true, false, cond, ◌&&◌}
use mathlib.Core.List.{List, [], ◌∷◌, map}
use lib.Dec.{leb, ltb}
use lib.ListN.{length, get_or, drop}
use borrow.Author.Tests.{leb-true, leb-false, ltb-false, le-leb, lt-leb}
use Rattle.tree.specs.KeyOrder.{Placed, placed_low, placed_high, insert_by, sort_by}
use Rattle.tree.specs.TrueValue.{Search, none, one, first}
use Rattle.std.specs.declared.option.Option.TheVariants.{Some}
use Rattle.ranges.specs.KeyRanges.{range_of, range_low, range_high, place_in, lesser}
use Rattle.ranges.specs.Nearest.{no_range, fits, candidate, least, place_at, place_found}
use Rattle.tree.proofs.Lists.{All}
use Rattle.tree.proofs.Sorted.{Sorted, sort_by_sorted}
use Rattle.words.proofs.LoopLaws.{drop_here, drop_none}
use Rattle.tree.proofs.Searches.{first_has}
use Rattle.ranges.proofs.LesserLaws.{lesser_first, lesser_second, lesser_most, lesser_assoc}

module _ (from below above : ℕ) where
  pub least_most : (at : ℕ) (es : List ℕ) → least from below above at es ≤ no_range
  unfolding least
  least_most at [] = omega arith
  least_most at (e ∷ es) = lesser_most (candidate from below above at e) _ no_range (least_most (suc at) es)

  -- The position that a number below that of no range has is one of the list
  pub least_inside : (at : ℕ) (es : List ℕ) → at + length es ≤ 256 → least from below above at es < no_range →
      least from below above at es % 256 < at + length es
  unfolding least
  least_inside at [] h p = absurd (omega arith)
  least_inside at (e ∷ es) h p =
      go (fits from below above e) (least from below above (suc at) es) p (λ q. least_inside (suc at) es (omega arith) q)
    where
      chosen : (b x : Bool) (n : ℕ) → cond x (cond b (256 * range_low e + at) no_range) n < no_range → (n < no_range → n % 256 < suc at + length es) →
          cond x (cond b (256 * range_low e + at) no_range) n % 256 < at + suc (length es)
      chosen true true n q ih = omega arith
      chosen false true n q ih = absurd (omega arith)
      chosen b false n q ih = omega (arith, ih q)

      go : (b : Bool) (n : ℕ) → lesser (cond b (256 * range_low e + at) no_range) n < no_range → (n < no_range → n % 256 < suc at + length es) →
          lesser (cond b (256 * range_low e + at) no_range) n % 256 < at + suc (length es)
      go b n q ih = chosen b (ltb (cond b (256 * range_low e + at) no_range) n) n q ih

  -- the loop, in its own terms
  module _ (l : List ℕ) (at : ℕ) where
    pub least_on : (best total : ℕ) → at < length l → lesser best (least from below above at (drop at l)) ≡ total →
        lesser (lesser best (candidate from below above at (get_or l at 0))) (least from below above (at + 1) (drop (at + 1) l)) ≡ total
    unfolding least
    least_on best total h e =
        lesser_assoc best (candidate from below above at (get_or l at 0)) _
        ∙ ap (λ (n : ℕ). lesser best (lesser (candidate from below above at (get_or l at 0)) (least from below above n (drop (at + 1) l)))) (add-one at)
        ∙ ap (λ (m : List ℕ). lesser best (least from below above at m)) (sym (drop_here l at h)) ∙ e

    pub least_done : (best total : ℕ) → best ≤ no_range → length l ≤ at → lesser best (least from below above at (drop at l)) ≡ total → best ≡ total
    unfolding least
    least_done best total b h e = go (ltb best no_range) refl ∙ ap (λ (m : List ℕ). lesser best (least from below above at m)) (sym (drop_none l at h)) ∙ e
      where
        go : (x : Bool) → ltb best no_range ≡ x → best ≡ cond x best no_range
        go true f = refl
        go false f = omega (arith, ltb-false best no_range f)

-- The first item in key order that passes a test, with one put in: the new one, where it passes and none with a lower low key does
module _ (test : Placed → Bool) where
  abbrev nearer : Bool → Placed → Search Placed → Search Placed
  nearer false x s = s
  nearer true x none = one x
  nearer true x (one y) = cond (leb (placed_low x) (placed_low y)) (one x) (one y)

  first_insert : (x : Placed) (ys : List Placed) → Sorted placed_low ys → first test (insert_by placed_low x ys) ≡ nearer (test x) x (first test ys)
  unfolding first insert_by
  first_insert x [] s = go (test x)
    where
      go : (b : Bool) → cond b (one x) none ≡ nearer b x none
      go true = refl
      go false = refl
  first_insert x (y ∷ ys) s = go (leb (placed_low x) (placed_low y)) refl (first_insert x ys s.1)
    where
      front : leb (placed_low x) (placed_low y) ≡ true → (r : Search Placed) → first test (y ∷ ys) ≡ r → (b : Bool) → cond b (one x) r ≡ nearer b x r
      front e r f false = refl
      front e none f true = refl
      front e (one z) f true =
          let low : placed_low x ≤ placed_low y = leb-true (placed_low x) (placed_low y) e in
          let above : placed_low y ≤ placed_low z =
          first_has (λ (w : Placed). placed_low y ≤ placed_low w) test (y ∷ ys) (omega arith, s.0) f in
          rw (le-leb (placed_low x) (placed_low z) (omega arith))

      behind : leb (placed_low x) (placed_low y) ≡ false → (b c : Bool) →
          first test (insert_by placed_low x ys) ≡ nearer c x (first test ys) →
          cond b (one y) (first test (insert_by placed_low x ys)) ≡ nearer c x (cond b (one y) (first test ys))
      behind e true true ih = rw e
      behind e true false ih = refl
      behind e false c ih = ih

      go : (b : Bool) → leb (placed_low x) (placed_low y) ≡ b → first test (insert_by placed_low x ys) ≡ nearer (test x) x (first test ys) →
          first test (cond b (x ∷ (y ∷ ys)) (y ∷ insert_by placed_low x ys)) ≡ nearer (test x) x (first test (y ∷ ys))
      go true e ih = front e (first test (y ∷ ys)) refl (test x)
      go false e ih = behind e (test y) (test x) ih

-- A row whose keys have 16 bits each
pub record Short (x : Placed) : Type 0 where
  pub low_short : placed_low x < 65536
  pub high_short : placed_high x < 65536

pub range_low_is : (x : Placed) → Short x → range_low (range_of x) ≡ placed_low x
range_low_is x s = omega (arith, s.low_short)

pub range_high_is : (x : Placed) → Short x → range_high (range_of x) ≡ placed_high x
range_high_is x s = omega (arith, s.low_short)

module _ (from below above : ℕ) where
  abbrev pub row_fits : Placed → Bool
  row_fits x = leb from (placed_low x) && (ltb (placed_low x) below && leb above (placed_high x))

  fits_same : (x : Placed) → Short x → fits from below above (range_of x) ≡ row_fits x
  fits_same x s = rw (range_low_is x s, range_high_is x s)

  -- A number is that of the item which a search found, or of none
  record At-item (at : ℕ) (xs : List Placed) (y : Placed) (n : ℕ) : Type 0 where
    index : ℕ
    inside : index < length xs
    place_is : get_or (map place_in xs) index 0 ≡ y.place
    number_is : n ≡ 256 * placed_low y + (at + index)
    low_short : placed_low y < 65536

  abbrev Finds : ℕ → List Placed → Search Placed → ℕ → Type 0
  Finds at xs none n = n ≡ no_range
  Finds at xs (one y) n = At-item at xs y n

  shifted : (at : ℕ) (x : Placed) (xs : List Placed) (s : Search Placed) (n : ℕ) → Finds (suc at) xs s n → Finds at (x ∷ xs) s n
  shifted at x xs none n f = f
  shifted at x xs (one y) n f =
      record {
        index = suc f.index;
        inside = omega (arith, f.inside);
        place_is = f.place_is;
        number_is = omega (arith, f.number_is);
        low_short = f.low_short;
      }

  here : (at : ℕ) (x : Placed) (xs : List Placed) → Short x → At-item at (x ∷ xs) x (256 * placed_low x + at)
  here at x xs s = record { index = 0; inside = omega arith; place_is = refl; number_is = omega arith; low_short = s.low_short }

  least_finds : (at : ℕ) (xs : List Placed) → All Short xs → at + length xs ≤ 256 →
      Finds at xs (first row_fits (sort_by placed_low xs)) (least from below above at (map range_of xs))
  unfolding least sort_by first
  least_finds at [] s h = refl
  least_finds at (x ∷ xs) s h =
      rw (fits_same x s.0, range_low_is x s.0, first_insert row_fits x (sort_by placed_low xs) (sort_by_sorted placed_low xs))
      (go (row_fits x) (first row_fits (sort_by placed_low xs)) (least from below above (suc at) (map range_of xs))
      (least_most from below above (suc at) (map range_of xs)) (least_finds (suc at) xs s.1 (omega arith)))
    where
      nearest : (y : Placed) (n : ℕ) → At-item (suc at) xs y n → (b : Bool) → leb (placed_low x) (placed_low y) ≡ b →
          Finds at (x ∷ xs) (cond b (one x) (one y)) (lesser (256 * placed_low x + at) n)
      nearest y n f true e =
          let lower : placed_low x ≤ placed_low y = leb-true (placed_low x) (placed_low y) e in
          rw (lesser_first (256 * placed_low x + at) n (omega (arith, f.number_is))) (here at x xs s.0)
      nearest y n f false e =
          let higher : placed_low y < placed_low x = leb-false (placed_low x) (placed_low y) e in
          rw (lesser_second (256 * placed_low x + at) n (omega (arith, f.number_is, f.inside))) (shifted at x xs (one y) n f)

      go : (b : Bool) (r : Search Placed) (n : ℕ) → n ≤ no_range → Finds (suc at) xs r n →
          Finds at (x ∷ xs) (nearer row_fits b x r) (lesser (cond b (256 * placed_low x + at) no_range) n)
      go false r n m f = rw (lesser_second no_range n m) (shifted at x xs r n f)
      go true none n m f =
          rw (lesser_first (256 * placed_low x + at) n (omega (arith, f, s.0.low_short))) (here at x xs s.0)
      go true (one y) n m f = nearest y n f (leb (placed_low x) (placed_low y)) refl

  pub place_is_first : (xs : List Placed) → All Short xs → length xs ≤ 256 →
      place_at (map place_in xs) (least from below above 0 (map range_of xs)) ≡ place_found (first row_fits (sort_by placed_low xs))
  place_is_first xs s h =
      go (first row_fits (sort_by placed_low xs)) (least from below above 0 (map range_of xs)) (least_finds 0 xs s (omega arith))
    where
      go : (r : Search Placed) (n : ℕ) → Finds 0 xs r n → place_at (map place_in xs) n ≡ place_found r
      go none n f = rw (le-leb no_range n (omega arith))
      go (one y) n f =
          let i : n % 256 ≡ f.index = omega (arith, f.number_is, f.inside) in
          rw (lt-leb no_range n (omega (arith, f.number_is, f.inside, f.low_short)), i) (ap Some f.place_is)
