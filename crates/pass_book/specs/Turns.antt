-- The code's answers and what it leaves, as a turn of the book.
use Rattle.std.specs.Prelude.{ℕ, ◌%◌, ◌^◌, ◌≡◌, List, map}
use Rattle.store.specs.Calls.{Call, opening, start, end, question, bat_time, lookup_in}
use Rattle.words.specs.declared.value.Value.{Value}
use Rattle.store.specs.declared.types.Answer.{Answer}
use Rattle.store.specs.declared.types.Answer.TheVariants.{BatTime}
use Rattle.store.specs.Performing.{totals}
use Rattle.store.specs.Book.{Book, BookAnswer, BookTurn, Fed, neither, pages_lacked, root_lacked, book_part, book_says}
use Rattle.pass_list.specs.declared.types.Asked.{Asked}
use Rattle.pass_list.specs.declared.types.Asked.TheVariants as ask
use Rattle.pass_book.specs.declared.types.Turn.{Turn}
use Rattle.pass_list.specs.declared.types.ListedPass.{ListedPass}
use Rattle.pass_list.specs.PassList.{book_in}

-- 27 or 28, or 0
abbrev pub lacked : Fed → ℕ
lacked neither = 0
lacked pages_lacked = 27
lacked root_lacked = 28

-- A total as the answer to what was asked, with no page opened
abbrev pub answer_of : Asked → Value → Answer
answer_of (ask.Question w) v = totals v 0
answer_of (ask.BatTime w) v = BatTime v.sum 0
answer_of (ask.Lookup tree t k) v = totals v 0

-- The book's total of bat-time is a number of any size. The code has a word for it, and gives it modulo 2^64; every other value of the book fits its word
abbrev pub in_words : Call → BookAnswer → BookAnswer
in_words opening a = a
in_words (start tick key weight) a = a
in_words (end tick number) a = a
in_words (question k1 k2 t1 t2) a = a
in_words (bat_time k1 k2 t1 t2) a = record { refusal = a.refusal; values = map (λ (n : ℕ). n % 2 ^ 64) a.values }
in_words (lookup_in tree t k) a = a

-- The answer is the book's
abbrev pub SaysAs : Answer → Book → Call → Type 0
SaysAs answer b c = book_part answer ≡ in_words c (book_says b c)

-- Answer and book are those of a turn at a call; the passes are in the list as the code leaves it
pub record TurnsAs (c : Call) (t : BookTurn) (r : Turn) (ps : List ListedPass) : Type 0 where
  pub answer : book_part r.answer ≡ in_words c t.answer
  pub book : book_in ps r.book ≡ t.book
