-- Demand 3 with bursts and accesses to the register block in the list. `proofs/Main` proves it.
use Rattle.std.specs.Prelude.{ℕ, ◌≤◌, ◌≡◌, List, [], ◌∷◌, map, length}
use Rattle.words.specs.Lists.{All}
use Rattle.store.specs.declared.types.Head.{Head}
use Rattle.store.specs.Trees.{Lent, Store}
use Rattle.store.specs.Calls.{opening}
use Rattle.store.specs.Passes.{count_where}
use Rattle.store.specs.Performing.{refusal, perform, store_after}
use Rattle.store.specs.Book.{Book, is_open, empty_book}
use Rattle.store.specs.Demand.{Along}
use Rattle.command.specs.Stream.{kind_of, written}
use Rattle.register_block.specs.Block.{Block, block_bytes, command_at, operands_of, showing}
use Rattle.register_block.specs.Access.{Device, Access, reset, read, write}
use Rattle.demand.specs.Bursts.{asked_by, answer_to}
use Rattle.demand.specs.Steps.{Step, single, burst, access, SentStep, perform_step, device_after, perform_steps, device_after_steps, calls_of, book_parts, refusals_in, book_step, book_steps}

-- A write to byte 0 shows the answer that stands in the list, and flag 2 whether the book has 64 passes open after it
abbrev pub ShownBy : Device → Access → Book → Type 0
ShownBy d reset after = Unit {0}
ShownBy d (read offset) after = Unit {0}
ShownBy d (write offset value) after =
    offset ≡ command_at
    → (device_after d (access (write offset value))).block
    ≡ showing d.block value (written (answer_to d.store (asked_by (kind_of value) (operands_of d.block))).answer) (count_where is_open after.passes)

abbrev pub ShownIn : Device → Step → Book → Type 0
ShownIn d (single c) after = Unit {0}
ShownIn d (burst bytes words) after = Unit {0}
ShownIn d (access a) after = ShownBy d a after

abbrev pub book_after : Device → Book → Step → Book
book_after d b step = (book_step b (operands_of d.block) step (refusals_in (perform_step d step))).book

unfoldable pub ShownAlong : Device → Book → List Step → Type 0
ShownAlong d b [] = Unit {0}
ShownAlong d b (step ∷ steps) = ShownIn d step (book_after d b step) × ShownAlong (device_after d step) (book_after d b step) steps

-- The claim about one list
pub record StepsAsTheBook (d : Device) (steps : List Step) : Type 0 where
  -- Each call, each event of a burst and each command through the block answers what the pass book answers; so does a burst as a whole
  pub answers : map book_parts (perform_steps d steps) ≡ book_steps empty_book (operands_of d.block) steps (map refusals_in (perform_steps d steps))
  -- Each event and each command through the block stands in the list as the start, end, question or bat-time that it is
  pub stands : (device_after_steps d steps).store ≡ store_after d.store (calls_of (operands_of d.block) steps)
  -- The block shows these answers
  pub shown : ShownAlong d empty_book steps
  -- What is claimed of these calls, one after the other: 27 and 28 exactly, 20 and 26 never, pages opened, height and width
  pub along : Along d.store empty_book (calls_of (operands_of d.block) steps)

-- Whatever the head and the words that opening is handed, the memory of any length that it takes, and the 40 bytes of the block
abbrev pub Demand3OfSteps : Type 0
Demand3OfSteps =
    (head : Head) (lent : Lent) (block : Block) → length block ≡ block_bytes → All (λ (byte : ℕ). byte ≤ 255) block
    → let memory : Store = record { head = head; lent = lent } in
    refusal memory opening ≡ 0 → (steps : List Step) → All SentStep steps
    → StepsAsTheBook (record { store = (perform memory opening).store; block = block }) steps
