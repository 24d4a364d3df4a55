-- Refusals as data: "Input refusals come first, then state ones, each list in number order". "A condition that holds is always refused; nothing else is."
use Rattle.std.specs.Prelude.{ℕ, List, [], ◌∷◌, Bool, cond}

-- A condition, and the number of the refusal that it calls for
pub record Ground : Type 0 where
  pub met : Bool
  pub number : ℕ

infix 70 ◌gives◌
abbrev pub ◌gives◌ : Bool → ℕ → Ground
b gives n = record { met = b; number = n }

-- The number of the first ground that is met; 0 where none is
unfoldable pub first_met : List Ground → ℕ
first_met [] = 0
first_met (g ∷ gs) = cond g.met g.number (first_met gs)
