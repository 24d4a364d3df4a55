-- Laws of writing words over others.
use Rattle.std.proofs.Common.{◌≡◌, ℕ, ◌+◌, ◌-◌, ◌<◌, ◌≤◌, List, [], ◌∷◌, ◌++◌, length, get_or, take, drop, set, sym, ap, ◌∙◌, ap₂, append_assoc, append-nil, add-zero, arith, length-append, length-drop, take-append-drop, drop_of_length-le, length-take, length-take-le, get_or-drop, get_or-take, drop-drop, take_at, get_or-append-add}
use lib.ListN.{get_or-append}
use lib.Seq.{sets, sets-eq, drop-append-add}
use borrow.Rule.Slice.PartMut.{put_mid, Post-is}
use Rattle.words.specs.Overwrite.{overwrite}

module _ (l : List ℕ) (at : ℕ) where
  -- nothing written
  pub overwrite_none : overwrite l at [] ≡ l
  unfolding overwrite
  overwrite_none = ap (λ (n : ℕ). take at l ++ [] ++ drop n l) (add-zero at) ∙ ap (λ (f : List ℕ). f ++ drop at l) (append-nil (take at l)) ∙ take-append-drop at l

  -- one word stored
  pub overwrite_one : (a : ℕ) → at < length l → set l at a ≡ overwrite l at (a ∷ [])
  unfolding overwrite
  overwrite_one a h = sets-eq (a ∷ []) l at (omega arith)

  -- words stored one behind the other
  pub overwrite_sets : (new : List ℕ) → at + length new ≤ length l → sets l at new ≡ overwrite l at new
  unfolding overwrite
  overwrite_sets new h = sets-eq new l at h

  module _ (new : List ℕ) (fits : at + length new ≤ length l) where
    front_length : length (take at l ++ new) ≡ at + length new
    front_length = simp (length-append, length-take) (omega arith)

    pub overwrite_length : length (overwrite l at new) ≡ length l
    unfolding overwrite
    overwrite_length = length-append (take at l ++ new) (drop (at + length new) l) ∙ rw (front_length, length-drop) (omega arith)

    -- more words written behind those
    pub overwrite_more : (i : ℕ) (more : List ℕ) → i ≡ at + length new →
        overwrite (overwrite l at new) i more ≡ overwrite l at (new ++ more)
    unfolding overwrite
    overwrite_more i more e =
        let front : take i (take at l ++ new ++ drop (at + length new) l) ≡ take at l ++ new =
        take_at (take at l ++ new) (drop (at + length new) l) i (front_length ∙ sym e) in
        let here : i + length more ≡ length (take at l ++ new) + length more = omega (arith, front_length) in
        let behind : at + length new + length more ≡ at + length (new ++ more) = omega (arith, length-append new more) in
        let back : drop (i + length more) (take at l ++ new ++ drop (at + length new) l) ≡ drop (at + length (new ++ more)) l =
        ap (λ (n : ℕ). drop n (take at l ++ new ++ drop (at + length new) l)) here
        ∙ drop-append-add (take at l ++ new) (drop (at + length new) l) (length more)
        ∙ drop-drop (length more) (at + length new) l
        ∙ ap (λ (n : ℕ). drop n l) behind in
        ap₂ (λ (f b : List ℕ). f ++ more ++ b) front back ∙ ap (λ (f : List ℕ). f ++ drop (at + length (new ++ more)) l) (append_assoc (take at l) new more)

    -- a word that was written, and one that was not
    pub word_inside : (i : ℕ) → i < length new → get_or (overwrite l at new) (at + i) 0 ≡ get_or new i 0
    unfolding overwrite
    word_inside i h =
        let from : length (take at l) ≡ at = length-take-le at l (omega arith) in
        ap (λ (x : List ℕ). get_or x (at + i) 0) (append_assoc (take at l) new (drop (at + length new) l))
        ∙ ap (λ (n : ℕ). get_or (take at l ++ (new ++ drop (at + length new) l)) (n + i) 0) (sym from)
        ∙ get_or-append-add (take at l) (new ++ drop (at + length new) l) i 0
        ∙ get_or-append new (drop (at + length new) l) 0 i h

    pub word_before : (i : ℕ) → i < at → get_or (overwrite l at new) i 0 ≡ get_or l i 0
    unfolding overwrite
    word_before i h =
        get_or-append (take at l ++ new) (drop (at + length new) l) 0 i (omega (arith, front_length))
        ∙ get_or-append (take at l) new 0 i (omega (arith, length-take-le at l (omega arith)))
        ∙ get_or-take at l i 0 h

    pub word_behind : (i : ℕ) → at + length new ≤ i → get_or (overwrite l at new) i 0 ≡ get_or l i 0
    unfolding overwrite
    word_behind i h =
        let e : i ≡ length (take at l ++ new) + (i - (at + length new)) = omega (arith, front_length) in
        let f : at + length new + (i - (at + length new)) ≡ i = omega arith in
        ap (λ (n : ℕ). get_or (take at l ++ new ++ drop (at + length new) l) n 0) e
        ∙ get_or-append-add (take at l ++ new) (drop (at + length new) l) (i - (at + length new)) 0
        ∙ get_or-drop (at + length new) l (i - (at + length new)) 0
        ∙ ap (λ (n : ℕ). get_or l n 0) f

-- every word written
pub overwrite_all : (l new : List ℕ) → length new ≡ length l → overwrite l 0 new ≡ new
unfolding overwrite
overwrite_all l new e =
    let rest : drop (0 + length new) l ≡ [] = drop_of_length-le l {i = 0 + length new} (omega arith) in
    ap (λ (b : List ℕ). new ++ b) rest ∙ append-nil new

-- A part of the words that was lent comes back with others, as many as before: they were written over it
pub put_part : (xs : List ℕ) (a e : ℕ) {back : List ℕ} (new : List ℕ) → a ≤ e → a + length new ≡ e → back ≡ new →
    put_mid a (e - a) xs back ≡ overwrite xs a new
unfolding overwrite
put_part xs a e {back} new h long same =
    ap₂ (λ (ys zs : List ℕ). take a xs ++ (ys ++ zs)) same (Post-is a e xs h ∙ ap (λ (n : ℕ). drop n xs) (sym long))
    ∙ sym (append_assoc (take a xs) new (drop (a + length new) xs))
