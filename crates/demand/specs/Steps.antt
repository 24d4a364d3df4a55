-- A list in which bursts and accesses to the register block stand among the calls: what the store answers to it, and what the pass book does.
use Rattle.std.specs.Prelude.{ℕ, zero, suc, ◌-◌, ◌≤◌, cond, List, [], ◌∷◌, ◌++◌, map, set, replicate, eqb}
use Rattle.words.specs.Lists.{All}
use Rattle.store.specs.Calls.{Call, Sent}
use Rattle.store.specs.Answers.{refusal_of}
use Rattle.store.specs.Book.{Book, BookAnswer, BookTurn, refused, book_part, Fed, fed_by, book_turn}
use Rattle.command.specs.Stream.{kind_of}
use Rattle.register_block.specs.Block.{command_at, operands_at, operand_count, operands_of, is_operand, reset_mask}
use Rattle.register_block.specs.Access.{Device, Access, reset, read, write, accessed}
use Rattle.demand.specs.Bursts.{Asked, unknown_kind, asked, asked_by, events_of, burst_refusal, Entered, unless_refused_whole}

-- A call of document 01, a burst of such bytes with so many words for its results, or an access to the register block
pub data Step : Type 0 where
  single : Call → Step
  burst : (bytes : List ℕ) (words : ℕ) → Step
  access : Access → Step

-- What is handed over: ticks are numbers of 32 bits, bytes of 8
abbrev pub SentAccess : Access → Type 0
SentAccess reset = Unit {0}
SentAccess (read offset) = Unit {0}
SentAccess (write offset value) = value ≤ 255

abbrev pub SentStep : Step → Type 0
SentStep (single c) = Sent c
SentStep (burst bytes words) = All (λ (byte : ℕ). byte ≤ 255) bytes
SentStep (access a) = SentAccess a

-- A burst may be refused as a whole
abbrev pub refusal_of_step : Step → ℕ
refusal_of_step (single c) = 0
refusal_of_step (burst bytes words) = burst_refusal bytes words
refusal_of_step (access a) = 0

-- A write to byte 0 runs the start, end, question or bat-time that the operands spell, or a command that is none; no other access runs one
abbrev pub asked_through : (operands : List ℕ) → Access → List Asked
asked_through operands reset = []
asked_through operands (read offset) = []
asked_through operands (write offset value) = cond (eqb offset command_at) (asked_by (kind_of value) operands ∷ []) []

-- "these stand in the list as such": each event of a burst as the start or end that it asks for, and each command through the block
abbrev pub asked_in : (operands : List ℕ) → Step → List Asked
asked_in operands (single c) = asked c ∷ []
asked_in operands (burst bytes words) = events_of bytes
asked_in operands (access a) = asked_through operands a

-- The operands that a step leaves in the block: as last written
abbrev pub operands_after_access : (operands : List ℕ) → Access → List ℕ
operands_after_access operands reset = replicate operand_count 0
operands_after_access operands (read offset) = operands
operands_after_access operands (write offset value) = cond (is_operand offset) (set operands (offset - operands_at) value) operands

abbrev pub operands_after : (operands : List ℕ) → Step → List ℕ
operands_after operands (single c) = operands
operands_after operands (burst bytes words) = operands
operands_after operands (access a) = operands_after_access operands a

-- What the store answers, as a whole and event by event
abbrev pub perform_step : Device → Step → Entered
perform_step d step = unless_refused_whole (refusal_of_step step) d.store (asked_in (operands_of d.block) step)

-- What is left: an access leaves what the definitions of the block say, a call and a burst leave the block as it was
abbrev pub device_after : Device → Step → Device
device_after d (single c) = record { store = (perform_step d (single c)).store; block = d.block }
device_after d (burst bytes words) = record { store = (perform_step d (burst bytes words)).store; block = d.block }
device_after d (access a) = accessed reset_mask d a

unfoldable pub perform_steps : Device → List Step → List Entered
perform_steps d [] = []
perform_steps d (step ∷ steps) = perform_step d step ∷ perform_steps (device_after d step) steps

unfoldable pub device_after_steps : Device → List Step → Device
device_after_steps d [] = d
device_after_steps d (step ∷ steps) = device_after_steps (device_after d step) steps

-- The calls that stand in a list
unfoldable pub calls_asked : List Asked → List Call
calls_asked [] = []
calls_asked (unknown_kind ∷ es) = calls_asked es
calls_asked (asked c ∷ es) = c ∷ calls_asked es

abbrev pub calls_tried : (refusal : ℕ) → List Asked → List Call
calls_tried zero es = calls_asked es
calls_tried (suc n) es = []

unfoldable pub calls_of : (operands : List ℕ) → List Step → List Call
calls_of operands [] = []
calls_of operands (step ∷ steps) = calls_tried (refusal_of_step step) (asked_in operands step) ++ calls_of (operands_after operands step) steps

-- The book's answers: as a whole, and event by event
pub record BookSaid : Type 0 where
  pub refusal : ℕ
  pub answers : List BookAnswer

abbrev pub book_parts : Entered → BookSaid
book_parts e = record { refusal = e.refusal; answers = map book_part e.answers }

abbrev pub refusals_in : Entered → List ℕ
refusals_in e = map refusal_of e.answers

abbrev pub book_turn_at : Book → Asked → Fed → BookTurn
book_turn_at b unknown_kind fed = record { book = b; answer = refused 6 }
book_turn_at b (asked c) fed = book_turn b c fed

-- Each event is fed with whether the store's answer to it was 27 or 28
unfoldable pub book_answers_to : Book → List Asked → (refusals : List ℕ) → List BookAnswer
book_answers_to b [] refusals = []
book_answers_to b (e ∷ es) [] = []
book_answers_to b (e ∷ es) (r ∷ rs) = (book_turn_at b e (fed_by r)).answer ∷ book_answers_to (book_turn_at b e (fed_by r)).book es rs

unfoldable pub book_behind : Book → List Asked → (refusals : List ℕ) → Book
book_behind b [] refusals = b
book_behind b (e ∷ es) [] = b
book_behind b (e ∷ es) (r ∷ rs) = book_behind (book_turn_at b e (fed_by r)).book es rs

pub record BookStep : Type 0 where
  pub said : BookSaid
  pub book : Book

-- The book too answers a refused burst as a whole, and every other one event by event
abbrev pub unless_book_refuses : ℕ → Book → List Asked → (refusals : List ℕ) → BookStep
unless_book_refuses zero b es rs = record { said = record { refusal = 0; answers = book_answers_to b es rs }; book = book_behind b es rs }
unless_book_refuses (suc n) b es rs = record { said = record { refusal = suc n; answers = [] }; book = b }

abbrev pub book_step : Book → (operands : List ℕ) → Step → (refusals : List ℕ) → BookStep
book_step b operands step rs = unless_book_refuses (refusal_of_step step) b (asked_in operands step) rs

-- Of the block the book sees the operands alone, as last written
unfoldable pub book_steps : Book → (operands : List ℕ) → List Step → (refusals : List (List ℕ)) → List BookSaid
book_steps b operands [] refusals = []
book_steps b operands (step ∷ steps) [] = []
book_steps b operands (step ∷ steps) (rs ∷ more) =
    (book_step b operands step rs).said ∷ book_steps (book_step b operands step rs).book (operands_after operands step) steps more
