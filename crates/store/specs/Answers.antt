-- Answers in document 01's numbers and values: "each call ends with a result or a numbered refusal"; "A refusal returns its number and no other field".
use Rattle.std.specs.Prelude.{ℕ, zero, suc, List, [], ◌∷◌}
use Rattle.store.specs.declared.types.Answer.{Answer}
use Rattle.store.specs.declared.types.Answer.TheVariants.{Refused, Opened, Started, Ended, Totals, BatTime}
use Rattle.store.specs.Trees.{Store}

-- The refusal's number, or 0
abbrev pub refusal_of : Answer → ℕ
refusal_of (Refused n) = n
refusal_of Opened = 0
refusal_of (Started n) = 0
refusal_of Ended = 0
refusal_of (Totals count sum pages) = 0
refusal_of (BatTime total pages) = 0

-- The values that are returned beside it
abbrev pub values_of : Answer → List ℕ
values_of (Refused n) = []
values_of Opened = []
values_of (Started n) = n ∷ []
values_of Ended = []
values_of (Totals count sum pages) = count ∷ (sum ∷ (pages ∷ []))
values_of (BatTime total pages) = total ∷ (pages ∷ [])

-- Of these the pages opened, and the others
abbrev pub pages_said : Answer → ℕ
pages_said (Refused n) = 0
pages_said Opened = 0
pages_said (Started n) = 0
pages_said Ended = 0
pages_said (Totals count sum pages) = pages
pages_said (BatTime total pages) = pages

abbrev pub values_beside_pages : Answer → List ℕ
values_beside_pages (Refused n) = []
values_beside_pages Opened = []
values_beside_pages (Started n) = n ∷ []
values_beside_pages Ended = []
values_beside_pages (Totals count sum pages) = count ∷ (sum ∷ [])
values_beside_pages (BatTime total pages) = total ∷ []

-- What a call answers and leaves
pub record Answered : Type 0 where
  pub answer : Answer
  pub store : Store

-- "A refusal returns its number and no other field", "every lent word and the head are as before"
abbrev pub refused_with : ℕ → Store → Answered
refused_with n s = record { answer = Refused n; store = s }

-- Refused, or else as the call does; 0 is no refusal
abbrev pub unless_refused : ℕ → Store → Answered → Answered
unless_refused zero s done = done
unless_refused (suc n) s done = refused_with (suc n) s
