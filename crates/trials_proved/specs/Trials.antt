-- Document 01, "Table of trials (P: proved)": P1 to P8, of the definitions. "Trials P1, P6 and P7 are reworked" (document 02, Paper 2): the end tick is part of a pass.
-- Behind them stands what Paper 4 says of a pass. `proofs/Table` proves it.
use Rattle.std.specs.Prelude.{ℕ, ◌<◌, ◌≡◌, List, [], ◌∷◌, ◌++◌, replicate}
use Rattle.words.specs.Words.{key_limit, open_end}
use Rattle.tree.specs.Row.{word, row_start, row_at}
use Rattle.tree.specs.Fresh.{new_row}
use Rattle.store.specs.declared.types.Answer.{Answer}
use Rattle.store.specs.declared.types.Answer.TheVariants.{Refused, Opened, Started, Ended, Totals, BatTime}
use Rattle.store.specs.declared.types.TreeName.{TreeName}
use Rattle.store.specs.declared.types.TreeName.TheVariants.{Starts}
use Rattle.store.specs.Trees.{Store}
use Rattle.store.specs.Head.{opened_head}
use Rattle.store.specs.Calls.{Call, opening, start, end, question, bat_time, lookup_in}
use Rattle.store.specs.Passes.{Pass, ended_at}
use Rattle.store.specs.BatTime.{bat_time_of}
use Rattle.store.specs.Performing.{perform, perform_all, store_after}
use Rattle.command.specs.Stream.{program_lent, program_store, output}

-- "01 0A000000 9411 6400; 01 14000000 9808 3200; 02 1E000000 00000000;
-- 03 A00F 8813 1E000000 28000000; 03 0000 3075 19000000 1A000000; 02 1E000000 00000000"
abbrev pub p1_input : List ℕ
p1_input =
    (0x01 ∷ 0x0A ∷ 0x00 ∷ 0x00 ∷ 0x00 ∷ 0x94 ∷ 0x11 ∷ 0x64 ∷ 0x00 ∷ [])
    ++ (0x01 ∷ 0x14 ∷ 0x00 ∷ 0x00 ∷ 0x00 ∷ 0x98 ∷ 0x08 ∷ 0x32 ∷ 0x00 ∷ [])
    ++ (0x02 ∷ 0x1E ∷ 0x00 ∷ 0x00 ∷ 0x00 ∷ 0x00 ∷ 0x00 ∷ 0x00 ∷ 0x00 ∷ [])
    ++ (0x03 ∷ 0xA0 ∷ 0x0F ∷ 0x88 ∷ 0x13 ∷ 0x1E ∷ 0x00 ∷ 0x00 ∷ 0x00 ∷ 0x28 ∷ 0x00 ∷ 0x00 ∷ 0x00 ∷ [])
    ++ (0x03 ∷ 0x00 ∷ 0x00 ∷ 0x30 ∷ 0x75 ∷ 0x19 ∷ 0x00 ∷ 0x00 ∷ 0x00 ∷ 0x1A ∷ 0x00 ∷ 0x00 ∷ 0x00 ∷ [])
    ++ (0x02 ∷ 0x1E ∷ 0x00 ∷ 0x00 ∷ 0x00 ∷ 0x00 ∷ 0x00 ∷ 0x00 ∷ 0x00 ∷ [])

-- "00 00000000; 00 01000000; 00;", then to the question of ticks 30 to 40 the pass of ticks 10 to 30, which "is now counted in 30 to 40" (Paper 2): 00 01 seven 00,
-- 64 seven 00, 04; "00 02 seven 00, 96 seven 00, 02; 16"
abbrev pub p1_output : List ℕ
p1_output =
    (0x00 ∷ 0x00 ∷ 0x00 ∷ 0x00 ∷ 0x00 ∷ [])
    ++ (0x00 ∷ 0x01 ∷ 0x00 ∷ 0x00 ∷ 0x00 ∷ [])
    ++ (0x00 ∷ [])
    ++ (0x00 ∷ 0x01 ∷ replicate 7 0x00 ++ (0x64 ∷ replicate 7 0x00) ++ (0x04 ∷ []))
    ++ (0x00 ∷ 0x02 ∷ replicate 7 0x00 ++ (0x96 ∷ replicate 7 0x00) ++ (0x02 ∷ []))
    ++ (0x16 ∷ [])

-- The pass of Paper 4, and bat-time of its band in ticks 20 to 25 and 28 to 40 (hexadecimal): 01 0A000000 9411 6400; 02 1D000000 00000000;
-- 04 9411 9511 14000000 19000000; 04 9411 9511 1C000000 28000000
abbrev pub bat_time_input : List ℕ
bat_time_input =
    (0x01 ∷ 0x0A ∷ 0x00 ∷ 0x00 ∷ 0x00 ∷ 0x94 ∷ 0x11 ∷ 0x64 ∷ 0x00 ∷ [])
    ++ (0x02 ∷ 0x1D ∷ 0x00 ∷ 0x00 ∷ 0x00 ∷ 0x00 ∷ 0x00 ∷ 0x00 ∷ 0x00 ∷ [])
    ++ (0x04 ∷ 0x94 ∷ 0x11 ∷ 0x95 ∷ 0x11 ∷ 0x14 ∷ 0x00 ∷ 0x00 ∷ 0x00 ∷ 0x19 ∷ 0x00 ∷ 0x00 ∷ 0x00 ∷ [])
    ++ (0x04 ∷ 0x94 ∷ 0x11 ∷ 0x95 ∷ 0x11 ∷ 0x1C ∷ 0x00 ∷ 0x00 ∷ 0x00 ∷ 0x28 ∷ 0x00 ∷ 0x00 ∷ 0x00 ∷ [])

-- 00 00000000; 00; then "00h, total 8, pages 1" (Paper 4), twice: 00 F401 six 00, 04; 00 C8 seven 00, 04
abbrev pub bat_time_output : List ℕ
bat_time_output =
    (0x00 ∷ 0x00 ∷ 0x00 ∷ 0x00 ∷ 0x00 ∷ [])
    ++ (0x00 ∷ [])
    ++ (0x00 ∷ 0xF4 ∷ 0x01 ∷ replicate 6 0x00 ++ (0x04 ∷ []))
    ++ (0x00 ∷ 0xC8 ∷ replicate 7 0x00 ++ (0x04 ∷ []))

-- "A pass of ticks 10 to 29, weight 100" (Paper 4)
abbrev pub heard_pass : Pass
heard_pass = record { key = 4500; weight = 100; start = 10; end = ended_at 29 }

-- What the program opens its store over
abbrev pub program_memory : Store
program_memory = record { head = opened_head; lent = program_lent }

-- What the program's store, just opened, answers to calls one after the other, and what it then is
abbrev pub answers : List Call → List Answer
answers calls = perform_all program_store calls

abbrev pub after : List Call → Store
after calls = store_after program_store calls

-- One row for each trial, under its words
pub record Table : Type 0 where
  -- P1. "Whole input (hexadecimal): .. Whole output: .."
  pub p1 : output p1_input ≡ p1_output
  -- P2. "Lookup in an opened store: 0, 0, one page." Over any memory that opening takes, at any tick and key, in each tree
  pub p2 : ((perform program_memory opening).answer ≡ Opened)
      × ((s : Store) → (perform s opening).answer ≡ Opened → (tree : TreeName) (t k : ℕ) → t < open_end → k < key_limit
      → (perform (perform s opening).store (lookup_in tree t k)).answer ≡ Totals 0 0 1)
  -- P3. "Key 29,999 accepted, 30,000 gives 1." The refusal in any store, whatever the tick and the weight
  pub p3 : ((perform program_store (start 0 29999 100)).answer ≡ Started 0)
      × ((s : Store) (tick weight : ℕ) → (perform s (start tick 30000 weight)).answer ≡ Refused 1)
  -- P4. "Weight 1 and 10,000 accepted; 0 and 10,001 give 3." The refusals in any store, whatever the tick and the key below 30,000
  pub p4 : ((perform program_store (start 0 4500 1)).answer ≡ Started 0)
      × ((perform program_store (start 0 4500 10000)).answer ≡ Started 0)
      × ((s : Store) (tick key : ℕ) → key < key_limit → (perform s (start tick key 0)).answer ≡ Refused 3)
      × ((s : Store) (tick key : ℕ) → key < key_limit → (perform s (start tick key 10001)).answer ≡ Refused 3)
  -- P5. "A tick equal to the last accepted; one less gives 21." In a start and in an end
  pub p5 : answers (start 10 4500 100 ∷ start 20 2200 50 ∷ start 20 2200 50 ∷ start 19 2200 50 ∷ end 19 0 ∷ end 20 0 ∷ [])
      ≡ Started 0 ∷ Started 1 ∷ Started 2 ∷ Refused 21 ∷ Refused 21 ∷ Ended ∷ []
  -- P6. "A pass of ticks 10 to 30 is counted in 29 to 30", and "is now counted in 30 to 40" (Paper 2); not in 31 to 40, nor in 0 to 10, which opens no page of the ends
  pub p6 : answers (start 10 4500 100 ∷ end 30 0 ∷ question 4500 4501 29 30 ∷ question 4500 4501 30 40 ∷ question 4500 4501 31 40 ∷ question 4500 4501 0 10 ∷ [])
      ≡ Started 0 ∷ Ended ∷ Totals 1 100 4 ∷ Totals 1 100 4 ∷ Totals 0 0 4 ∷ Totals 0 0 2 ∷ []
  -- P7. "single clicks that start and end on one tick are passes too" (Paper 2): an end at the start tick is accepted, and the pass is counted at that tick alone
  pub p7 : answers (start 10 4500 100 ∷ end 10 0 ∷ question 4500 4501 9 10 ∷ question 4500 4501 10 11 ∷ question 4500 4501 11 12 ∷ [])
      ≡ Started 0 ∷ Ended ∷ Totals 0 0 4 ∷ Totals 1 100 4 ∷ Totals 0 0 4 ∷ []
  -- P8. "Two starts at tick 0, key 0: still one row, count 2." Word 1 of page 0 of the starts, its one row, and what a lookup says
  pub p8 : (word (after (start 0 0 100 ∷ start 0 0 50 ∷ [])).lent.starts.table 1 ≡ 1)
      × (row_at (after (start 0 0 100 ∷ start 0 0 50 ∷ [])).lent.starts.table (row_start 0)
      ≡ new_row 0 0 key_limit 0 (record { count = 2; sum = 150 }))
      × (answers (start 0 0 100 ∷ start 0 0 50 ∷ lookup_in Starts 0 0 ∷ []) ≡ Started 0 ∷ Started 1 ∷ Totals 2 150 1 ∷ [])
  -- Paper 4. "A pass of ticks 10 to 29, weight 100, gives 500 in 20 to 25." In 28 to 40 it gives 200, as its end tick is part of it (Paper 2). By the definition over passes,
  -- by the calls of a store, and as the bytes of command 04h
  pub paper4 : (bat_time_of 4500 4501 20 25 (heard_pass ∷ []) ≡ 500)
      × (bat_time_of 4500 4501 28 40 (heard_pass ∷ []) ≡ 200)
      × (answers (start 10 4500 100 ∷ end 29 0 ∷ bat_time 4500 4501 20 25 ∷ bat_time 4500 4501 28 40 ∷ [])
      ≡ Started 0 ∷ Ended ∷ BatTime 500 4 ∷ BatTime 200 4 ∷ [])
      × (output bat_time_input ≡ bat_time_output)
