-- The book: "It holds a last tick and a list of passes, each with key, weight, start, and its end or open." "The book sees neither head nor slices."
use Rattle.std.specs.Prelude.{ℕ, zero, suc, List, [], ◌∷◌, ◌++◌, Bool, true, false, cond, length, get_or, eqb}
use Rattle.store.specs.declared.types.Answer.{Answer}
use Rattle.store.specs.Refusals.{first_met}
use Rattle.store.specs.Grounds.{Known, sought_by, argument_grounds, state_grounds}
use Rattle.store.specs.Calls.{Call, opening, start, end, question, bat_time, lookup_in}
use Rattle.store.specs.Answers.{refusal_of, values_beside_pages}
use Rattle.store.specs.Passes.{End, still_open, ended_at, Pass, count_where, question_count, question_sum}
use Rattle.store.specs.BatTime.{bat_time_of}
use Rattle.store.specs.Points.{points_of, lookup_count, lookup_sum, answered_by}

pub record Book : Type 0 where
  pub last : ℕ
  pub passes : List Pass

-- What the book answers: a refusal's number, 0 for none, and the values beside it
pub record BookAnswer : Type 0 where
  pub refusal : ℕ
  pub values : List ℕ

abbrev pub refused : ℕ → BookAnswer
refused n = record { refusal = n; values = [] }

abbrev pub says : List ℕ → BookAnswer
says values = record { refusal = 0; values = values }

-- "The calls answer the same pass numbers, counts, sums and refusals": all but the pages opened
abbrev pub book_part : Answer → BookAnswer
book_part a = record { refusal = refusal_of a; values = values_beside_pages a }

-- "of the answers only whether one was 27 or 28"
pub data Fed : Type 0 where
  neither : Fed
  pages_lacked : Fed
  root_lacked : Fed

abbrev pub fed_by : ℕ → Fed
fed_by refusal = cond (eqb refusal 27) pages_lacked (cond (eqb refusal 28) root_lacked neither)

-- "Opening: last tick 0, no passes."
abbrev pub empty_book : Book
empty_book = record { last = 0; passes = [] }

abbrev pub not_ended : End → Bool
not_ended still_open = true
not_ended (ended_at e) = false

abbrev pub is_open : Pass → Bool
is_open p = not_ended p.end

-- The pass of a number, which is "how many passes stood before it"
abbrev pub never_started : Pass
never_started = record { key = 0; weight = 0; start = 0; end = ended_at 0 }

abbrev pub pass_numbered : Book → ℕ → Pass
pass_numbered b number = get_or b.passes number never_started

-- What the book knows
abbrev pub book_knows : Book → Call → Known
book_knows b c =
    record {
      last = b.last;
      count = count_where is_open b.passes;
      started = length b.passes;
      found = sought_by c (λ (number : ℕ). is_open (pass_numbered b number));
    }

-- "Any other call gets the first refusal of these papers, in their order, 20 and 26 to 28 left out, that its arguments and the book meet."
unfoldable pub book_refusal : Book → Call → ℕ
book_refusal b c = first_met (argument_grounds c ++ state_grounds (book_knows b c) c)

-- The passes with the one of a number ended
unfoldable pub end_pass_at : (number tick : ℕ) → List Pass → List Pass
end_pass_at number tick [] = []
end_pass_at zero tick (p ∷ ps) = record { key = p.key; weight = p.weight; start = p.start; end = ended_at tick } ∷ ps
end_pass_at (suc n) tick (p ∷ ps) = p ∷ end_pass_at n tick ps

-- What the book holds after a call that it does not refuse
abbrev pub book_does : Book → Call → Book
book_does b opening = empty_book
book_does b (start tick key weight) =
    record { last = tick; passes = b.passes ++ (record { key = key; weight = weight; start = tick; end = still_open } ∷ []) }
book_does b (end tick number) = record { last = tick; passes = end_pass_at number tick b.passes }
book_does b (question k1 k2 t1 t2) = b
book_does b (bat_time k1 k2 t1 t2) = b
book_does b (lookup_in tree t k) = b

abbrev pub book_says : Book → Call → BookAnswer
book_says b opening = says []
book_says b (start tick key weight) = says (length b.passes ∷ [])
book_says b (end tick number) = says []
book_says b (question k1 k2 t1 t2) = says (question_count k1 k2 t1 t2 b.passes ∷ (question_sum k1 k2 t1 t2 b.passes ∷ []))
book_says b (bat_time k1 k2 t1 t2) = says (bat_time_of k1 k2 t1 t2 b.passes ∷ [])
book_says b (lookup_in tree t k) =
    says
    (answered_by tree (lookup_count t k (points_of tree b.passes))
    ∷ (answered_by tree (lookup_sum t k (points_of tree b.passes)) ∷ []))

pub record BookTurn : Type 0 where
  pub book : Book
  pub answer : BookAnswer

-- "Then, and at 27 or 28, the book stays as it is; else it does as follows."
abbrev pub unless_fed : Book → BookTurn → Fed → BookTurn
unless_fed b does neither = does
unless_fed b does pages_lacked = record { book = b; answer = refused 27 }
unless_fed b does root_lacked = record { book = b; answer = refused 28 }

abbrev pub unless_met : Book → BookTurn → ℕ → BookTurn
unless_met b does zero = does
unless_met b does (suc n) = record { book = b; answer = refused (suc n) }

abbrev pub book_done : Book → Call → BookTurn
book_done b c = record { book = book_does b c; answer = book_says b c }

unfoldable pub book_turn : Book → Call → Fed → BookTurn
book_turn b c fed = unless_met b (unless_fed b (book_done b c) fed) (book_refusal b c)

-- The answers to a whole list of calls, each fed with what the store's answer was
unfoldable pub book_answers : Book → List Call → List ℕ → List BookAnswer
book_answers b [] refusals = []
book_answers b (c ∷ cs) [] = []
book_answers b (c ∷ cs) (r ∷ rs) = (book_turn b c (fed_by r)).answer ∷ book_answers (book_turn b c (fed_by r)).book cs rs
