-- Demand 3 with bursts and accesses to the register block in the list, the theorem: each call, each event of a burst and each command through the
-- block answers what document 01's pass book answers (specs/Demand has the claim). It rests on the theorem about calls (store/proofs/Main).
use Prim.Native.Nat.{ℕ}
use mathlib.Core.Path.{◌≡◌, refl, ap, ap₂, sym, ◌∙◌}
use mathlib.Core.List.{List, [], ◌∷◌, map}
use lib.ListN.{length, drop}
use Rattle.words.specs.Lists.{All}
use Rattle.tree.proofs.Lists.{all_append, all_take, all_drop}
use Rattle.store.specs.Trees.{Store}
use Rattle.store.specs.Calls.{Call, opening, Sent}
use Rattle.store.specs.Performing.{perform, store_after}
use Rattle.store.specs.Book.{Book, empty_book}
use Rattle.store.proofs.Main.{just_opened, demand_3}
use Rattle.command.specs.Stream.{kind_of, written}
use Rattle.register_block.specs.Block.{block_bytes, operands_at, operand_count, operands_of, showing}
use Rattle.register_block.specs.Access.{Device, write_device, reset, read, write}
use Rattle.demand.specs.Bursts.{asked_by, answer_to}
use Rattle.demand.specs.Steps.{Step, single, burst, access, SentStep, refusal_of_step, asked_in, operands_after, device_after, perform_steps, device_after_steps, calls_tried, calls_of, book_parts, refusals_in, book_steps}
use Rattle.demand.specs.Demand.{ShownIn, book_after, ShownAlong, Demand3OfSteps}
use Rattle.demand.proofs.SentEvents.{IsByte}
use Rattle.demand.proofs.CallsStand.{step_stands, after_both, tried_sent}
use Rattle.demand.proofs.BlockSteps.{operands_follow, runs_the_call, shows_the_call}
use Rattle.demand.proofs.StepsReady.{Ready, store_after_lem, long_after, bytes_after, sent_step, alike, ready_after, open_as_the_book}

-- Answers, one step after the other
same_answers : (d : Device) (b : Book) (steps : List Step) → All SentStep steps → Ready d b
    → map book_parts (perform_steps d steps) ≡ book_steps b (operands_of d.block) steps (map refusals_in (perform_steps d steps))
unfolding perform_steps book_steps
same_answers d b [] sent ready = refl
same_answers d b (step ∷ steps) sent ready =
    let after : Device = device_after d step in
    let rest = same_answers after (book_after d b step) steps sent.1 (ready_after d b step sent.0 ready) in
    ap₂ ◌∷◌ (alike d b step sent.0 ready).said
    (rest
    ∙ ap (λ (operands : List ℕ). book_steps (book_after d b step) operands steps (map refusals_in (perform_steps after steps)))
    (operands_follow d step ready.long))

-- Each event and each command stands in the list as the call that it is
steps_stand : (d : Device) (steps : List Step) → length d.block ≡ block_bytes
    → (device_after_steps d steps).store ≡ store_after d.store (calls_of (operands_of d.block) steps)
unfolding device_after_steps calls_of store_after
steps_stand d [] long = refl
steps_stand d (step ∷ steps) long =
    let after : Device = device_after d step in
    let operands : List ℕ = operands_of d.block in
    let calls : List Call = calls_tried (refusal_of_step step) (asked_in operands step) in
    steps_stand after steps (long_after d step long)
    ∙ ap₂ (λ (s : Store) (ops : List ℕ). store_after s (calls_of ops steps))
    (store_after_lem d step long ∙ step_stands (refusal_of_step step) d.store (asked_in operands step))
    (operands_follow d step long)
    ∙ after_both d.store calls (calls_of (operands_after operands step) steps)

-- A command through the block shows the answer of the list, and by the book whether 64 are open
shown_in : (d : Device) (b : Book) (step : Step) → SentStep step → Ready d b → ShownIn d step (book_after d b step)
shown_in d b (single c) sent ready = tt
shown_in d b (burst bytes words) sent ready = tt
shown_in d b (access reset) sent ready = tt
shown_in d b (access (read offset)) sent ready = tt
shown_in d b (access (write offset value)) sent ready = λ at.
    let after = ready_after d b (access (write offset value)) sent ready in
    let same : (answer_to d.store (asked_by (kind_of value) (operands_of d.block))).store ≡ (write_device d offset value).store =
    sym (runs_the_call d value ready.long) ∙ sym (ap (λ (i : ℕ). (write_device d i value).store) at) in
    ap (λ (i : ℕ). (write_device d i value).block) at
    ∙ shows_the_call d value ready.long
    ∙ ap (showing d.block value (written (answer_to d.store (asked_by (kind_of value) (operands_of d.block))).answer))
    (ap (λ (s : Store). s.head.count) same ∙ open_as_the_book after.agrees)

shown_along : (d : Device) (b : Book) (steps : List Step) → All SentStep steps → Ready d b → ShownAlong d b steps
unfolding ShownAlong
shown_along d b [] sent ready = tt
shown_along d b (step ∷ steps) sent ready =
    (shown_in d b step sent.0 ready, shown_along (device_after d step) (book_after d b step) steps sent.1 (ready_after d b step sent.0 ready))

-- Ticks of 32 bits
all_sent : (operands : List ℕ) (steps : List Step) → All SentStep steps → All IsByte operands → All Sent (calls_of operands steps)
unfolding calls_of
all_sent operands [] sent h = tt
all_sent operands (step ∷ steps) sent h =
    all_append Sent (calls_tried (refusal_of_step step) (asked_in operands step)) (calls_of (operands_after operands step) steps)
    (tried_sent (refusal_of_step step) (asked_in operands step) (sent_step operands step sent.0 h))
    (all_sent (operands_after operands step) steps sent.1 (bytes_after operands step sent.0 h))

pub demand_3_of_steps : Demand3OfSteps
demand_3_of_steps head lent block long bytes takes steps sent =
    let memory : Store = record { head = head; lent = lent } in
    let opened : Device = record { store = (perform memory opening).store; block = block } in
    let operands = all_take IsByte operand_count (drop operands_at block) (all_drop IsByte operands_at block bytes) in
    let ready : Ready opened empty_book = record { agrees = just_opened memory takes; long = long; bytes = operands } in
    record {
      answers = same_answers opened empty_book steps sent ready;
      stands = steps_stand opened steps long;
      shown = shown_along opened empty_book steps sent ready;
      along = (demand_3 head lent takes (calls_of (operands_of block) steps) (all_sent (operands_of block) steps sent operands)).along;
    }
