-- What the header of a page says.
use Prim.Native.Nat.{ℕ, ◌≤◌}
use mathlib.Core.Path.{◌≡◌}
use mathlib.Core.Bool.{true, and-eq-true_iff}
use mathlib.Core.List.{List}
use borrow.Author.Tests.{leb-true, eqb-true}
use Rattle.words.specs.Words.{key_range}
use Rattle.tree.specs.Row.{word, row_limit}
use Rattle.tree.specs.PageTest.{header_fits, sound_at}

-- What a header that fits says
pub record HeaderFacts (level low high : ℕ) (page : List ℕ) : Type 0 where
  pub level_is : word page 0 ≡ level
  pub some_rows : 1 ≤ word page 1
  pub few_rows : word page 1 ≤ row_limit
  pub range_is : word page 2 ≡ key_range low high

pub header_facts : (level low high : ℕ) (page : List ℕ) → header_fits level low high page ≡ true → HeaderFacts level low high page
header_facts level low high page e =
    let a = (and-eq-true_iff _ _).0 e in
    let b = (and-eq-true_iff _ _).0 a.1 in
    let c = (and-eq-true_iff _ _).0 b.1 in
    record {
      level_is = eqb-true _ _ a.0;
      some_rows = leb-true _ _ b.0;
      few_rows = leb-true _ _ c.0;
      range_is = eqb-true _ _
          c.1;
    }

pub sound_few : (t level low high : ℕ) (page : List ℕ) → sound_at t level low high page ≡ true → word page 1 ≤ row_limit
sound_few t level low high page e = (header_facts level low high page ((and-eq-true_iff _ _).0 e).0).few_rows
