-- A loop over a list, in its own terms: `drop at l` is what is still to be seen.
use Rattle.std.proofs.Common.{◌≡◌, ℕ, ◌+◌, ◌<◌, ◌≤◌, List, [], ◌∷◌, length, get_or, drop, sym, ap, ◌∙◌, add-one, drop_of_length-le, drop-cons}
use Rattle.words.specs.Lists.{All}

module _ (l : List ℕ) (at : ℕ) where
  pub drop_here : at < length l → drop at l ≡ get_or l at 0 ∷ drop (at + 1) l
  drop_here h = drop-cons l at 0 h ∙ ap (λ (n : ℕ). get_or l at 0 ∷ drop n l) (sym (add-one at))

  pub drop_none : length l ≤ at → drop at l ≡ []
  drop_none h = drop_of_length-le l h

  -- what holds of all entries still to be seen holds of the next one, and of those behind it
  pub all_here : (Q : ℕ → Type 0) → at < length l → All Q (drop at l) → Q (get_or l at 0) × All Q (drop (at + 1) l)
  all_here Q h a = let b : All Q (get_or l at 0 ∷ drop (at + 1) l) = rw (drop_here h) at a in (b.0, b.1)
