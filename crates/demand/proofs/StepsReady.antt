-- What holds of a device and a book at each place of a list, and after each step.
use Prim.Native.Nat.{ℕ, zero, suc, ◌-◌}
use native.Mathlib.Omega.{arith}
use mathlib.Core.Path.{◌≡◌, refl, sym, subst, ◌∙◌}
use mathlib.Core.Bool.{Bool, true, false, cond}
use mathlib.Core.List.{List, [], ◌∷◌}
use lib.ListN.{length, set, replicate}
use lib.Dec.{eqb}
use Rattle.words.specs.Lists.{All}
use Rattle.tree.proofs.Lists.{all_set}
use Rattle.store.specs.Trees.{Store}
use Rattle.store.specs.Passes.{count_where}
use Rattle.store.specs.Book.{Book, is_open}
use Rattle.store.proofs.Agreement.{Agrees}
use Rattle.store.proofs.OpenPasses.{open_count_lem}
use Rattle.command.specs.Stream.{kind_of}
use Rattle.register_block.specs.Block.{block_bytes, command_at, operands_at, operand_count, operands_of, is_operand, reset_mask, register_written}
use Rattle.register_block.specs.Access.{Device, run_from_block, reset, read, write}
use Rattle.register_block.proofs.BlockLengths.{accessed_length}
use Rattle.demand.specs.Bursts.{asked_by, event_count, store_behind}
use Rattle.demand.specs.Steps.{Step, single, burst, access, SentStep, refusal_of_step, asked_in, operands_after, perform_step, device_after, refusals_in, book_step}
use Rattle.demand.specs.Demand.{book_after}
use Rattle.demand.proofs.SentEvents.{IsByte, SentAsked, sent_events, sent_command}
use Rattle.demand.proofs.StepsAlike.{StepAlike, step_alike}
use Rattle.demand.proofs.BlockSteps.{operands_follow, runs_the_call}

-- The book agrees with the store, the block is one, and its operands are bytes
pub record Ready (d : Device) (b : Book) : Type 0 where
  pub agrees : Agrees d.store b
  pub long : length d.block ≡ block_bytes
  pub bytes : All IsByte (operands_of d.block)

-- What an access leaves of the store is what the call leaves that it runs, and else nothing changes
pub store_after_lem : (d : Device) (step : Step) → length d.block ≡ block_bytes → (device_after d step).store ≡ (perform_step d step).store
unfolding store_behind
store_after_lem d (single c) long = refl
store_after_lem d (burst bytes words) long = refl
store_after_lem d (access reset) long = refl
store_after_lem d (access (read offset)) long = refl
store_after_lem d (access (write offset value)) long = go (eqb offset command_at)
  where
    go : (x : Bool) → (cond x (run_from_block d value) (record { store = d.store; block = register_written d.block offset value })).store
        ≡ store_behind d.store (cond x (asked_by (kind_of value) (operands_of d.block) ∷ []) [])
    go true = runs_the_call d value long
    go false = refl

pub long_after : (d : Device) (step : Step) → length d.block ≡ block_bytes → length (device_after d step).block ≡ block_bytes
long_after d (single c) long = long
long_after d (burst bytes words) long = long
long_after d (access a) long = accessed_length reset_mask d a long

zero_bytes : (n : ℕ) → All IsByte (replicate n 0)
zero_bytes zero = tt
zero_bytes (suc n) = (omega arith, zero_bytes n)

pub bytes_after : (operands : List ℕ) (step : Step) → SentStep step → All IsByte operands → All IsByte (operands_after operands step)
bytes_after operands (single c) sent h = h
bytes_after operands (burst bytes words) sent h = h
bytes_after operands (access reset) sent h = zero_bytes operand_count
bytes_after operands (access (read offset)) sent h = h
bytes_after operands (access (write offset value)) sent h = go (is_operand offset)
  where
    go : (x : Bool) → All IsByte (cond x (set operands (offset - operands_at) value) operands)
    go true = all_set IsByte operands (offset - operands_at) value sent h
    go false = h

-- Ticks of 32 bits
pub sent_step : (operands : List ℕ) (step : Step) → SentStep step → All IsByte operands → All SentAsked (asked_in operands step)
sent_step operands (single c) sent h = (sent, tt)
sent_step operands (burst bytes words) sent h = sent_events (event_count bytes) bytes sent
sent_step operands (access reset) sent h = tt
sent_step operands (access (read offset)) sent h = tt
sent_step operands (access (write offset value)) sent h = go (eqb offset command_at)
  where
    go : (x : Bool) → All SentAsked (cond x (asked_by (kind_of value) operands ∷ []) [])
    go true = (sent_command value operands h, tt)
    go false = tt

module _ (d : Device) (b : Book) (step : Step) (sent : SentStep step) (ready : Ready d b) where
  pub alike : StepAlike (perform_step d step) (book_step b (operands_of d.block) step (refusals_in (perform_step d step)))
  alike = step_alike (refusal_of_step step) d.store b (asked_in (operands_of d.block) step) (sent_step (operands_of d.block) step sent ready.bytes) ready.agrees

  pub ready_after : Ready (device_after d step) (book_after d b step)
  ready_after =
      record {
        agrees = subst (λ (s : Store). Agrees s (book_after d b step)) (sym (store_after_lem d step ready.long)) alike.next;
        long = long_after d step ready.long;
        bytes =
            subst (All IsByte) (sym (operands_follow d step ready.long))
            (bytes_after (operands_of d.block) step sent ready.bytes);
      }

-- The store has as many passes open as the book
pub open_as_the_book : {s : Store} {b : Book} → Agrees s b → s.head.count ≡ count_where is_open b.passes
open_as_the_book {b = b} a = a.count ∙ open_count_lem 0 b.passes
