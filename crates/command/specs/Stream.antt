-- The command program, from its whole input to its whole output: document 01, "Commands".
use Rattle.std.specs.Prelude.{ℕ, zero, suc, ◌*◌, List, [], ◌∷◌, ◌++◌, Bool, false, cond, ◌||◌, not, length, drop, replicate, ltb, eqb}
use Rattle.tree.specs.Row.{page_words}
use Rattle.store.specs.declared.types.Answer.{Answer}
use Rattle.store.specs.declared.types.Answer.TheVariants.{Refused, Opened, Started, Ended, Totals, BatTime}
use Rattle.store.specs.Trees.{LentTree, Lent, Store}
use Rattle.store.specs.Head.{opened_head}
use Rattle.store.specs.Answers.{refusal_of, values_of, Answered, refused_with}
use Rattle.store.specs.Calls.{Call, opening, start, end, question, bat_time}
use Rattle.store.specs.Performing.{perform}
use Rattle.codec.specs.Bytes.{bytes_of, operand}

-- A command byte and how many operand bytes follow it
pub data Kind : Type 0 where
  unknown : Kind
  command : ℕ → (List ℕ → Call) → Kind

-- "01h start: tick 4 bytes, key 2, weight 2."
abbrev pub start_command : List ℕ → Call
start_command b = start (operand b 0 4) (operand b 4 2) (operand b 6 2)

-- "02h end: tick 4, pass number 4."
abbrev pub end_command : List ℕ → Call
end_command b = end (operand b 0 4) (operand b 4 4)

-- "03h question: k1 2, k2 2, t1 4, t2 4.": these operands, for the call of a query
abbrev pub query_command : ((k1 k2 t1 t2 : ℕ) → Call) → List ℕ → Call
query_command call b = call (operand b 0 2) (operand b 2 2) (operand b 4 4) (operand b 8 4)

abbrev pub question_command : List ℕ → Call
question_command b = query_command question b

-- "Command 04h takes a question" (document 02, Paper 4)
abbrev pub bat_time_command : List ℕ → Call
bat_time_command b = query_command bat_time b

-- The commands that enter a point, "01h start" and "02h end"
abbrev pub event_kind : ℕ → Kind
event_kind byte = cond (eqb byte 1) (command 8 start_command) (cond (eqb byte 2) (command 8 end_command) unknown)

-- The queries, which only read: "03h question", and 04h, bat-time
abbrev pub is_query : ℕ → Bool
is_query byte = eqb byte 3 || eqb byte 4

abbrev pub query_kind : ℕ → Kind
query_kind byte = command 12 (cond (eqb byte 4) bat_time_command question_command)

abbrev pub kind_of : ℕ → Kind
kind_of byte = cond (is_query byte) (query_kind byte) (event_kind byte)

-- The bytes of each value of an answer: "Writes 00h, pass number 4."; "Writes 00h."; "Writes 00h, count 8, sum 8, pages opened 1."; 04h "writes 00h, total 8, pages 1"
-- (Paper 4)
abbrev pub widths_of : Answer → List ℕ
widths_of (Refused n) = []
widths_of Opened = []
widths_of (Started n) = 4 ∷ []
widths_of Ended = []
widths_of (Totals count sum pages) = 8 ∷ (8 ∷ (1 ∷ []))
widths_of (BatTime total pages) = 8 ∷ (1 ∷ [])

abbrev pub spelled : (widths values : List ℕ) → List ℕ
spelled [] values = []
spelled (w ∷ widths) [] = []
spelled (w ∷ widths) (v ∷ values) = bytes_of w v ++ spelled widths values

-- What a command writes. "A refusal writes its number as one byte."
abbrev pub written : Answer → List ℕ
written a = bytes_of 1 (refusal_of a) ++ spelled (widths_of a) (values_of a)

-- No command writes more bytes than a question
abbrev pub longest_answer : ℕ
longest_answer = 18

-- What a command answers and leaves, from the bytes that follow its byte: the operands, and more. "6 unknown command byte.", "7 command cut short."
abbrev pub answered : Store → List ℕ → Kind → Answered
answered s bytes unknown = refused_with 6 s
answered s bytes (command n call) = cond (ltb (length bytes) n) (refused_with 7 s) (perform s (call bytes))

-- "After 6 or 7 nothing more is read."
abbrev pub goes_on : List ℕ → Kind → Bool
goes_on bytes unknown = false
goes_on bytes (command n call) = not (ltb (length bytes) n)

-- What one command writes, what it leaves, and whether the run goes on
pub record Ran : Type 0 where
  pub output : List ℕ
  pub store : Store
  pub on : Bool

abbrev pub run_kind : Store → List ℕ → Kind → Ran
run_kind s bytes kind =
    record { output = written (answered s bytes kind).answer; store = (answered s bytes kind).store; on = goes_on bytes kind }

abbrev pub run_one : Store → ℕ → List ℕ → Ran
run_one s byte bytes = run_kind s bytes (kind_of byte)

abbrev pub operand_bytes : Kind → ℕ
operand_bytes unknown = 0
operand_bytes (command n call) = n

-- The output of one command, then that of the rest of the input, where the run goes on
abbrev pub then_rest : (Store → List ℕ → List ℕ) → List ℕ → Ran → List ℕ
then_rest onward rest r = r.output ++ cond r.on (onward r.store rest) []

-- "Input that ends between commands ends the run, with nothing written."
-- The first number bounds the commands; an input has no more of them than bytes (StreamLaws).
unfoldable pub run_for : ℕ → Store → List ℕ → List ℕ
run_for zero s bytes = []
run_for (suc n) s [] = []
run_for (suc n) s (b ∷ bytes) =
    then_rest (λ (s' : Store) (rest : List ℕ). run_for n s' rest) (drop (operand_bytes (kind_of b)) bytes) (run_one s b bytes)

-- A whole input, from a store on
abbrev pub run_all : Store → List ℕ → List ℕ
run_all s bytes = run_for (length bytes) s bytes

-- "the program's tables shrink to 10 pages and 10 roots a tree" (document 02, Paper 4): all zero, and opened
abbrev pub program_pages : ℕ
program_pages = 10

abbrev pub program_tree : LentTree
program_tree = record { table = replicate (program_pages * page_words) 0; roots = replicate program_pages 0 }

unfoldable pub program_lent : Lent
program_lent = record { starts = program_tree; ends = program_tree; time = program_tree }

unfoldable pub program_store : Store
program_store = (perform (record { head = opened_head; lent = program_lent }) opening).store

-- The whole input to the whole output
unfoldable pub output : List ℕ → List ℕ
output input = run_all program_store input
