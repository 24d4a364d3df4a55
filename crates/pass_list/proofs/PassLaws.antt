-- The passes of the lent list: how many they are, and one ended.
use Rattle.std.proofs.Common.{◌≡◌, ℕ, zero, suc, ◌<◌, ◌≤◌, Bool, true, false, cond, eqb, List, [], ◌∷◌, map, take, length, get_or, set, sym, refl, ap, ◌∙◌, arith, ne_eqb}
use Rattle.std.proofs.lemmas.List.{length-map, length-take-le, get_or-take}
use Rattle.std.proofs.Math.Seq.{take-set-lt}
use Rattle.words.specs.Words.{open_end}
use Rattle.store.specs.Passes.{still_open, ended_at, Pass}
use Rattle.store.specs.Book.{not_ended, end_pass_at}
use Rattle.pass_list.specs.declared.types.ListedPass.{ListedPass}
use Rattle.pass_list.specs.PassList.{end_from, pass_of, passes_in}

-- Open is the highest number
pub end_open : (e : ℕ) → not_ended (end_from e) ≡ eqb e open_end
end_open e = go (eqb e open_end)
  where
    go : (b : Bool) → not_ended (cond b still_open (ended_at e)) ≡ b
    go true = refl
    go false = refl

pub passes_length : (ps : List ListedPass) (n : ℕ) → n ≤ length ps → length (passes_in ps n) ≡ n
passes_length ps n room = length-map (take n ps) pass_of ∙ length-take-le n ps room

-- One pass ended
abbrev pub ended_pass : ℕ → ListedPass → ListedPass
ended_pass tick p = record { key = p.key; weight = p.weight; start = p.start; end = tick }

module _ (tick : ℕ) (early : tick < open_end) where
  end_given : end_from tick ≡ ended_at tick
  end_given = rw (ne_eqb tick open_end (λ f. absurd (omega arith))) refl

  ended_in : (ps : List ListedPass) (i : ℕ) (d : ListedPass) → i < length ps → map pass_of (set ps i (ended_pass tick (get_or ps i d))) ≡ end_pass_at i tick (map pass_of ps)
  unfolding end_pass_at
  ended_in [] i d below = absurd (omega arith)
  ended_in (p ∷ ps) zero d below = rw end_given refl
  ended_in (p ∷ ps) (suc i) d below = ap (λ (qs : List Pass). pass_of p ∷ qs) (ended_in ps i d (omega arith))

  pub passes_ended : (ps : List ListedPass) (i n : ℕ) (d : ListedPass) → i < n → n ≤ length ps
      → passes_in (set ps i (ended_pass tick (get_or ps i d))) n ≡ end_pass_at i tick (passes_in ps n)
  passes_ended ps i n d below room =
      ap (map pass_of) (take-set-lt n ps i (ended_pass tick (get_or ps i d)) below)
      ∙ ap (λ (p : ListedPass). map pass_of (set (take n ps) i (ended_pass tick p))) (sym (get_or-take n ps i d below))
      ∙ ended_in (take n ps) i d (omega (arith, length-take-le n ps room))
