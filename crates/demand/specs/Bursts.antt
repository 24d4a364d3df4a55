-- A burst of starts and ends from the ear's buffer: document 02, Paper 1.
use Rattle.std.specs.Prelude.{ℕ, zero, suc, ◌*◌, ◌/◌, ◌%◌, List, [], ◌∷◌, length, get_or, take, drop, ltb}
use Rattle.store.specs.declared.types.Answer.{Answer}
use Rattle.store.specs.declared.types.Answer.TheVariants.{Refused, Opened, Started, Ended, Totals, BatTime}
use Rattle.store.specs.Trees.{Store}
use Rattle.store.specs.Refusals.{Ground, ◌gives◌, first_met}
use Rattle.store.specs.Calls.{Call}
use Rattle.store.specs.Answers.{refusal_of, Answered, refused_with}
use Rattle.store.specs.Performing.{perform}
use Rattle.command.specs.Stream.{Kind, unknown, command, event_kind}

-- "firmware hands over up to 256 of them together, each as the 9 bytes of its command"
abbrev pub most_events : ℕ
most_events = 256

abbrev pub event_bytes : ℕ
event_bytes = 9

abbrev pub event_count : (bytes : List ℕ) → ℕ
event_count bytes = length bytes / event_bytes

-- "Results go to a lent list, two 64-bit words per event"
abbrev pub event_words : ℕ
event_words = 2

-- "It refuses (31, after the other input refusals) a longer burst, one that ends inside an event, or a result list too short for it"
abbrev pub too_many_events : (bytes : List ℕ) → Ground
too_many_events bytes = ltb (most_events * event_bytes) (length bytes) gives 31

abbrev pub ends_inside_event : (bytes : List ℕ) → Ground
ends_inside_event bytes = ltb 0 (length bytes % event_bytes) gives 31

abbrev pub too_few_words : (bytes : List ℕ) (words : ℕ) → Ground
too_few_words bytes words = ltb words (event_words * event_count bytes) gives 31

unfoldable pub burst_refusal : (bytes : List ℕ) (words : ℕ) → ℕ
burst_refusal bytes words = first_met (too_many_events bytes ∷ (ends_inside_event bytes ∷ (too_few_words bytes words ∷ [])))

-- What an event asks for: "An event's kind, its first byte, is 1 start or 2 end; another gets 6."
pub data Asked : Type 0 where
  unknown_kind : Asked
  asked : Call → Asked

abbrev pub asked_by : Kind → (operands : List ℕ) → Asked
asked_by unknown operands = unknown_kind
asked_by (command n call) operands = asked (call operands)

abbrev pub first_event : (bytes : List ℕ) → Asked
first_event bytes = asked_by (event_kind (get_or bytes 0 0)) (take 8 (drop 1 bytes))

unfoldable pub events_from : (count : ℕ) (bytes : List ℕ) → List Asked
events_from zero bytes = []
events_from (suc n) bytes = first_event bytes ∷ events_from n (drop event_bytes bytes)

abbrev pub events_of : (bytes : List ℕ) → List Asked
events_of bytes = events_from (event_count bytes) bytes

abbrev pub answer_to : Store → Asked → Answered
answer_to s unknown_kind = refused_with 6 s
answer_to s (asked c) = perform s c

-- "The outcome equals entering them one by one in order: a refused event writes its number and the next is tried."
unfoldable pub answers_to : Store → List Asked → List Answer
answers_to s [] = []
answers_to s (e ∷ es) = (answer_to s e).answer ∷ answers_to (answer_to s e).store es

unfoldable pub store_behind : Store → List Asked → Store
store_behind s [] = s
store_behind s (e ∷ es) = store_behind (answer_to s e).store es

-- "the refusal number or 0, and the new pass number or 0"
abbrev pub new_number : Answer → ℕ
new_number (Refused n) = 0
new_number Opened = 0
new_number (Started number) = number
new_number Ended = 0
new_number (Totals count sum pages) = 0
new_number (BatTime total pages) = 0

unfoldable pub result_words : List Answer → List ℕ
result_words [] = []
result_words (a ∷ answers) = refusal_of a ∷ (new_number a ∷ result_words answers)

-- What is answered, as a whole and event by event, and what is left
pub record Entered : Type 0 where
  pub refusal : ℕ
  pub answers : List Answer
  pub store : Store

-- Refused "before any event is tried"; 0 is no refusal
abbrev pub unless_refused_whole : ℕ → Store → List Asked → Entered
unless_refused_whole zero s es = record { refusal = 0; answers = answers_to s es; store = store_behind s es }
unless_refused_whole (suc n) s es = record { refusal = suc n; answers = []; store = s }

-- The bytes of a burst, and how many words its result list has
abbrev pub enter_burst : Store → (bytes : List ℕ) (words : ℕ) → Entered
enter_burst s bytes words = unless_refused_whole (burst_refusal bytes words) s (events_of bytes)
