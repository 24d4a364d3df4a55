-- The head's list of open passes is that of the book's open passes, each with its number.
use Prim.Native.Nat.{ℕ, zero, suc, ◌+◌, ◌≤◌, ◌<◌}
use native.Mathlib.Omega.{arith}
use mathlib.Core.Path.{◌≡◌, refl, ap, ap₂, sym, ◌∙◌}
use mathlib.Core.Bool.{Bool, true, false, cond, false≢true}
use mathlib.Core.List.{List, [], ◌∷◌, ◌++◌}
use lib.ListN.{length, get_or, take, drop}
use borrow.Author.Tests.{le-leb, lt-ltb, eq-eqb, ne_eqb}
use Rattle.std.specs.Prelude.{None}
use Rattle.words.specs.Lists.{All}
use Rattle.words.specs.Words.{key_limit}
use Rattle.store.specs.declared.types.OpenPass.{OpenPass}
use Rattle.store.specs.Head.{weight_limit, found_at, find_pass, passes_fit, rises_to, numbers_rise}
use Rattle.store.specs.Passes.{End, still_open, ended_at, Pass, sum_where, count_where}
use Rattle.store.specs.Book.{end_pass_at, not_ended, is_open, never_started}
use Rattle.store.proofs.BookPasses.{PassKept}

-- A pass of the book as the head has it
abbrev pub open_pass : ℕ → Pass → OpenPass
open_pass n p = record { number = n; key = p.key; weight = p.weight; start = p.start }

abbrev keep_open : End → OpenPass → List OpenPass → List OpenPass
keep_open still_open o os = o ∷ os
keep_open (ended_at e) o os = os

-- The open passes among passes of which the first has the number n
unfoldable pub open_of : ℕ → List Pass → List OpenPass
open_of n [] = []
open_of n (p ∷ ps) = keep_open p.end (open_pass n p) (open_of (suc n) ps)

pub open_count_lem : (n : ℕ) (ps : List Pass) → length (open_of n ps) ≡ count_where is_open ps
unfolding open_of sum_where
open_count_lem n [] = refl
open_count_lem n (p ∷ ps) = go p.end (open_count_lem (suc n) ps)
  where
    go : (e : End) → length (open_of (suc n) ps) ≡ count_where is_open ps
        → length (keep_open e (open_pass n p) (open_of (suc n) ps)) ≡ cond (not_ended e) 1 0 + count_where is_open ps
    go still_open ih = omega arith
    go (ended_at e) ih = omega arith

-- A pass that starts comes last
pub open_more : (n : ℕ) (ps : List Pass) (p : Pass) → p.end ≡ still_open → open_of n (ps ++ (p ∷ [])) ≡ open_of n ps ++ (open_pass (n + length ps) p ∷ [])
unfolding open_of
open_more n [] p e =
    ap (λ (x : End). keep_open x (open_pass n p) []) e ∙ ap (λ (m : ℕ). open_pass m p ∷ []) (omega arith)
open_more n (q ∷ ps) p e = go q.end (open_more (suc n) ps p e ∙ ap (λ (m : ℕ). open_of (suc n) ps ++ (open_pass m p ∷ [])) (omega arith))
  where
    go : (x : End) → open_of (suc n) (ps ++ (p ∷ [])) ≡ open_of (suc n) ps ++ (open_pass (n + length (q ∷ ps)) p ∷ [])
        → keep_open x (open_pass n q) (open_of (suc n) (ps ++ (p ∷ [])))
        ≡ keep_open x (open_pass n q) (open_of (suc n) ps) ++ (open_pass (n + length (q ∷ ps)) p ∷ [])
    go still_open ih = ap (◌∷◌ (open_pass n q)) ih
    go (ended_at y) ih = ih

-- Numbers below the first are not found
find_below : (number place n : ℕ) (ps : List Pass) → number < n → find_pass number place (open_of n ps) ≡ None
unfolding open_of find_pass
find_below number place n [] h = refl
find_below number place n (p ∷ ps) h = go p.end (λ place'. find_below number place' (suc n) ps (omega arith))
  where
    go : (e : End) → ((place' : ℕ) → find_pass number place' (open_of (suc n) ps) ≡ None)
        → find_pass number place (keep_open e (open_pass n p) (open_of (suc n) ps)) ≡ None
    go still_open next = rw (ne_eqb n number (λ e. omega arith)) (next (place + 1))
    go (ended_at e) next = next place

-- A pass that is not open is not found
pub find_ended : (d place n : ℕ) (ps : List Pass) → is_open (get_or ps d never_started) ≡ false → find_pass (n + d) place (open_of n ps) ≡ None
unfolding open_of find_pass
find_ended d place n [] c = refl
find_ended zero place n (p ∷ ps) c = go p.end c
  where
    go : (e : End) → not_ended e ≡ false → find_pass (n + 0) place (keep_open e (open_pass n p) (open_of (suc n) ps)) ≡ None
    go still_open c = absurd (false≢true (sym c))
    go (ended_at e) c = find_below (n + 0) place (suc n) ps (omega arith)
find_ended (suc d) place n (p ∷ ps) c =
    let number : n + suc d ≡ suc n + d = omega arith in
    go p.end (λ place'. ap (λ (m : ℕ). find_pass m place' (open_of (suc n) ps)) number ∙ find_ended d place' (suc n) ps c)
  where
    go : (e : End) → ((place' : ℕ) → find_pass (n + suc d) place' (open_of (suc n) ps) ≡ None)
        → find_pass (n + suc d) place (keep_open e (open_pass n p) (open_of (suc n) ps)) ≡ None
    go still_open next = rw (ne_eqb n (n + suc d) (λ e. omega arith)) (next (place + 1))
    go (ended_at e) next = next place

-- An open pass is found, and ending it takes it out of the list
pub record FoundAt (d tick place n : ℕ) (ps : List Pass) : Type 0 where
  pub at : ℕ
  pub found : find_pass (n + d) place (open_of n ps) ≡ found_at (place + at) (open_pass (n + d) (get_or ps d never_started))
  pub inside : at < length (open_of n ps)
  pub closes : open_of n (end_pass_at d tick ps) ≡ take at (open_of n ps) ++ drop (suc at) (open_of n ps)

pub find_open : (d tick place n : ℕ) (ps : List Pass) → is_open (get_or ps d never_started) ≡ true → FoundAt d tick place n ps
unfolding open_of find_pass end_pass_at
find_open d tick place n [] o = absurd (false≢true o)
find_open zero tick place n (p ∷ ps) o = go p.end refl o
  where
    go : (e : End) → p.end ≡ e → not_ended e ≡ true → FoundAt zero tick place n (p ∷ ps)
    go still_open is o =
        let here : keep_open p.end (open_pass n p) (open_of (suc n) ps) ≡ open_pass n p ∷ open_of (suc n) ps =
        ap (λ (x : End). keep_open x (open_pass n p) (open_of (suc n) ps)) is in
        let same : n ≡ n + 0 = omega arith in
        record {
          at = 0;
          found =
              ap (find_pass (n + 0) place) here
              ∙ ap (λ (b : Bool). cond b (found_at place (open_pass n p)) (find_pass (n + 0) (place + 1) (open_of (suc n) ps))) (eq-eqb n (n + 0) same)
              ∙ ap₂ (λ (x m : ℕ). found_at x (open_pass m p)) (omega arith) same;
          inside = rw here (omega arith);
          closes = sym (ap (drop 1) here);
        }
    go (ended_at e) is o = absurd (false≢true o)
find_open (suc d) tick place n (p ∷ ps) o = go p.end refl (λ place'. find_open d tick place' (suc n) ps o)
  where
    number : n + suc d ≡ suc n + d
    number = omega arith

    go : (e : End) → p.end ≡ e → ((place' : ℕ) → FoundAt d tick place' (suc n) ps) → FoundAt (suc d) tick place n (p ∷ ps)
    go still_open is next =
        let ih = next (place + 1) in
        let here : (qs : List Pass) → keep_open p.end (open_pass n p) (open_of (suc n) qs) ≡ open_pass n p ∷ open_of (suc n) qs =
        λ qs. ap (λ (x : End). keep_open x (open_pass n p) (open_of (suc n) qs)) is in
        record {
          at = suc ih.at;
          found =
              ap (find_pass (n + suc d) place) (here ps)
              ∙ ap (λ (b : Bool). cond b (found_at place (open_pass n p)) (find_pass (n + suc d) (place + 1) (open_of (suc n) ps)))
              (ne_eqb n (n + suc d) (λ e. omega arith))
              ∙ ap (λ (m : ℕ). find_pass m (place + 1) (open_of (suc n) ps)) number
              ∙ ih.found
              ∙ ap₂ (λ (x m : ℕ). found_at x (open_pass m (get_or ps d never_started))) (omega arith) (sym number);
          inside = rw (here ps) (omega (arith, ih.inside));
          closes = here (end_pass_at d tick ps) ∙ ap (◌∷◌ (open_pass n p)) ih.closes
              ∙ sym (ap (λ (l : List OpenPass). take (suc ih.at) l ++ drop (suc (suc ih.at)) l) (here ps));
        }
    go (ended_at y) is next =
        let ih = next place in
        let here : (qs : List Pass) → keep_open p.end (open_pass n p) (open_of (suc n) qs) ≡ open_of (suc n) qs =
        λ qs. ap (λ (x : End). keep_open x (open_pass n p) (open_of (suc n) qs)) is in
        record {
          at = ih.at;
          found =
              ap (find_pass (n + suc d) place) (here ps)
              ∙ ap (λ (m : ℕ). find_pass m place (open_of (suc n) ps)) number
              ∙ ih.found
              ∙ ap (λ (m : ℕ). found_at (place + ih.at) (open_pass m (get_or ps d never_started))) (sym number);
          inside = rw (here ps) ih.inside;
          closes = here (end_pass_at d tick ps) ∙ ih.closes
              ∙ sym (ap (λ (l : List OpenPass). take ih.at l ++ drop (suc ih.at) l) (here ps));
        }

-- No ground for 20 in the open passes
pub open_fit : (started last n : ℕ) (ps : List Pass) → n + length ps ≤ started → All (PassKept last) ps → passes_fit started last (open_of n ps) ≡ true
unfolding open_of passes_fit
open_fit started last n [] h k = refl
open_fit started last n (p ∷ ps) h k = go p.end (open_fit started last (suc n) ps (omega arith) k.1)
  where
    go : (e : End) → passes_fit started last (open_of (suc n) ps) ≡ true → passes_fit started last (keep_open e (open_pass n p) (open_of (suc n) ps)) ≡ true
    go still_open ih =
        rw (
          lt-ltb p.key key_limit k.0.key,
          le-leb 1 p.weight k.0.some,
          le-leb p.weight weight_limit k.0.weight,
          lt-ltb n started (omega arith),
          le-leb p.start last k.0.start,
        ) ih
    go (ended_at e) ih = ih

rises : (m n : ℕ) (ps : List Pass) → m < n → rises_to m (open_of n ps) ≡ true
unfolding open_of
rises m n [] h = refl
rises m n (p ∷ ps) h = go p.end (rises m (suc n) ps (omega arith))
  where
    go : (e : End) → rises_to m (open_of (suc n) ps) ≡ true → rises_to m (keep_open e (open_pass n p) (open_of (suc n) ps)) ≡ true
    go still_open ih = lt-ltb m n h
    go (ended_at e) ih = ih

pub open_rise : (n : ℕ) (ps : List Pass) → numbers_rise (open_of n ps) ≡ true
unfolding open_of numbers_rise
open_rise n [] = refl
open_rise n (p ∷ ps) = go p.end (open_rise (suc n) ps)
  where
    go : (e : End) → numbers_rise (open_of (suc n) ps) ≡ true → numbers_rise (keep_open e (open_pass n p) (open_of (suc n) ps)) ≡ true
    go still_open ih = rw (rises n (suc n) ps (omega arith)) ih
    go (ended_at e) ih = ih
