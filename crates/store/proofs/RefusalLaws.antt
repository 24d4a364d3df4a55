-- Lists of grounds: the first ground that is met.
use Prim.Native.Nat.{ℕ, zero, suc, ◌≤◌}
use native.Mathlib.Omega.{arith}
use mathlib.Core.Path.{◌≡◌, refl, ap, sym, subst, ◌∙◌}
use mathlib.Core.Bool.{Bool, true, false, cond, ◌||◌}
use mathlib.Core.List.{List, [], ◌∷◌, ◌++◌, map}
use mathlib.Core.Logic.{◌⊎◌, inl, inr}
use Rattle.words.specs.Lists.{All}
use Rattle.store.specs.Refusals.{Ground, ◌gives◌, first_met}
use Rattle.store.specs.Demand.{Some}

pub or_false : (a b : Bool) → a || b ≡ false → (a ≡ false) × (b ≡ false)
or_false true b e = (e, absurd_bool e)
  where
    absurd_bool : true ≡ false → b ≡ false
    absurd_bool f = sym (ap (λ (x : Bool). cond x false b) f)
or_false false b e = (refl, e)

-- 0 is the number of no refusal
abbrev pub Numbered : List Ground → Type 0
Numbered gs = All (λ (g : Ground). 1 ≤ g.number) gs

-- What all numbers of the grounds have, the number of the first that is met has
pub first_has : (P : ℕ → Type 0) (gs : List Ground) → All (λ (g : Ground). P g.number) gs → (n : ℕ) → first_met gs ≡ suc n → P (suc n)
unfolding first_met
first_has P [] h n e = let z : 0 ≡ suc n = e in absurd (omega arith)
first_has P (g ∷ gs) h n e = go g.met e (first_has P gs h.1 n)
  where
    go : (b : Bool) → cond b g.number (first_met gs) ≡ suc n → (first_met gs ≡ suc n → P (suc n)) → P (suc n)
    go true e next = subst P e h.0
    go false e next = next e

-- A ground of the first list comes first
pub first_refuses : (gs hs : List Ground) (n : ℕ) → first_met gs ≡ suc n → first_met (gs ++ hs) ≡ suc n
unfolding first_met
first_refuses [] hs n e = let z : 0 ≡ suc n = e in absurd (omega arith)
first_refuses (g ∷ gs) hs n e = go g.met e (first_refuses gs hs n)
  where
    go : (b : Bool) → cond b g.number (first_met gs) ≡ suc n → (first_met gs ≡ suc n → first_met (gs ++ hs) ≡ suc n)
        → cond b g.number (first_met (gs ++ hs)) ≡ suc n
    go true e next = e
    go false e next = next e

-- Where none of them is met, the second list decides
pub first_passes : (gs hs : List Ground) → Numbered gs → first_met gs ≡ 0 → first_met (gs ++ hs) ≡ first_met hs
unfolding first_met
first_passes [] hs some e = refl
first_passes (g ∷ gs) hs some e = go g.met e (first_passes gs hs some.1)
  where
    go : (b : Bool) → cond b g.number (first_met gs) ≡ 0 → (first_met gs ≡ 0 → first_met (gs ++ hs) ≡ first_met hs)
        → cond b g.number (first_met (gs ++ hs)) ≡ first_met hs
    go true e next = absurd (omega (arith, some.0))
    go false e next = next e

-- Where no ground of both lists is met, none of either is
pub first_both : (gs hs : List Ground) → Numbered gs → first_met (gs ++ hs) ≡ 0 → (first_met gs ≡ 0) × (first_met hs ≡ 0)
first_both gs hs some e = go (first_met gs) refl
  where
    go : (n : ℕ) → first_met gs ≡ n → (first_met gs ≡ 0) × (first_met hs ≡ 0)
    go zero f = (f, sym (first_passes gs hs some f) ∙ e)
    go (suc n) f = absurd (omega (arith, first_refuses gs hs n f, e))

-- A ground that is not met may be left out
pub first_skips : (gs hs : List Ground) (g : Ground) → g.met ≡ false → first_met (gs ++ (g ∷ hs)) ≡ first_met (gs ++ hs)
unfolding first_met
first_skips [] hs g e = ap (λ (b : Bool). cond b g.number (first_met hs)) e
first_skips (x ∷ gs) hs g e = ap (cond x.met x.number) (first_skips gs hs g e)

-- and none of them holds
abbrev pub NoneMet : List Ground → Type 0
NoneMet gs = All (λ (g : Ground). g.met ≡ false) gs

pub none_met : (gs : List Ground) → Numbered gs → first_met gs ≡ 0 → NoneMet gs
unfolding first_met
none_met [] some e = tt
none_met (g ∷ gs) some e = go g.met refl e (none_met gs some.1)
  where
    go : (b : Bool) → g.met ≡ b → cond b g.number (first_met gs) ≡ 0 → (first_met gs ≡ 0 → NoneMet gs) → NoneMet (g ∷ gs)
    go true is e next = absurd (omega (arith, some.0))
    go false is e next = (is, next e)

-- One ground for each item of a list, all of one number
module _ {A : Type 0} (test : A → Bool) (n : ℕ) where
  abbrev pub each : List A → List Ground
  each xs = map (λ (x : A). test x gives n) xs

  pub each_none : (xs : List A) (hs : List Ground) → All (λ (x : A). test x ≡ false) xs → first_met (each xs ++ hs) ≡ first_met hs
  unfolding first_met
  each_none [] hs h = refl
  each_none (x ∷ xs) hs h =
      ap (λ (b : Bool). cond b n (first_met (each xs ++ hs))) h.0 ∙ each_none xs hs h.1

  abbrev pub EachCase : List A → List Ground → Type 0
  EachCase xs hs =
      ((first_met (each xs ++ hs) ≡ n) × Some (λ (x : A). test x ≡ true) xs)
      ⊎ ((first_met (each xs ++ hs) ≡ first_met hs) × All (λ (x : A). test x ≡ false) xs)

  pub each_case : (xs : List A) (hs : List Ground) → EachCase xs hs
  unfolding first_met
  each_case [] hs = inr (refl, tt)
  each_case (x ∷ xs) hs = go (test x) refl (each_case xs hs)
    where
      rest : ℕ
      rest = first_met (each xs ++ hs)

      go : (b : Bool) → test x ≡ b → EachCase xs hs → EachCase (x ∷ xs) hs
      go true e next = inl (ap (λ (c : Bool). cond c n rest) e, inl e)
      go false e (inl next) = inl (ap (λ (c : Bool). cond c n rest) e ∙ next.0, inr next.1)
      go false e (inr next) = inr (ap (λ (c : Bool). cond c n rest) e ∙ next.0, (e, next.1))

-- What one item has, and what none has
module _ {A : Type 0} where
  pub some_map : (P Q : A → Type 0) → ((x : A) → P x → Q x) → (xs : List A) → Some P xs → Some Q xs
  some_map P Q f [] h = absurd h
  some_map P Q f (x ∷ xs) (inl h) = inl (f x h)
  some_map P Q f (x ∷ xs) (inr h) = inr (some_map P Q f xs h)

  pub none_some : (P : A → Type 0) (xs : List A) → All (λ (x : A). P x → ⊥) xs → Some P xs → ⊥
  none_some P [] h s = s
  none_some P (x ∷ xs) h (inl s) = h.0 s
  none_some P (x ∷ xs) h (inr s) = none_some P xs h.1 s
