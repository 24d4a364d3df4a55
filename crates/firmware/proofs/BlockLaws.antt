-- Writes to the register block: what an exported call leaves, from what the registers, a query and the packet of one command leave.
use Prim.Native.Nat.{ℕ, suc, ◌+◌, ◌≤◌}
use native.Mathlib.Omega.{arith}
use mathlib.Core.Path.{◌≡◌, refl, ap, ap₂, sym, subst, ◌∙◌}
use mathlib.Core.Bool.{Bool, true, cond}
use mathlib.Core.List.{List, [], ◌∷◌}
use lib.ListN.{length, set, take, replicate, length-take, length-set}
use lib.Seq.{take-take}
use borrow.Author.Tests.{eq-eqb, ne_eqb}
use Rattle.words.specs.Overwrite.{overwrite}
use Rattle.store.specs.declared.types.Answer.{Answer}
use Rattle.store.specs.declared.types.Head.{Head}
use Rattle.store.specs.Trees.{Store}
use Rattle.command.specs.Stream as stream
use Rattle.command.specs.Stream.{Kind, is_query, event_kind, query_kind, kind_of, operand_bytes, longest_answer, answered, Ran, run_kind, run_one}
use Rattle.command.specs.Pieces.{Fed, run_piece}
use Rattle.command.proofs.AnswerLengths.{output_fits, output_begins}
use Rattle.command.proofs.KindLaws.{few_operands}
use Rattle.command.proofs.StreamLaws.{front_enough}
use Rattle.command.proofs.PieceSteps.{one_output, one_store}
use Rattle.register_block.specs.Block.{Block, block_bytes, command_at, operand_count, operands_of, register_written, showing}
use Rattle.register_block.specs.Access.{Device, run_from_block, write_device}
use Rattle.interpret.proofs.RunLaws.{query_stays}
use Rattle.registers.proofs.RegisterLaws.{shown_from, answer_shown}
use Rattle.c_heads.specs.Heads.{head_numbers, head_of}
use Rattle.firmware.specs.Exported.{Handed, store_in, handed_back}
use Rattle.firmware.specs.Packets.{Packet, LeavesOf}
use Rattle.firmware.specs.BlockCalls.{device_in, LeavesWrite}
use Rattle.firmware.proofs.ExportedLaws.{of_handed, handed_again}

-- The front of a block is the command that was stored, with its operands
command_front : (block : Block) (value : ℕ) → length block ≡ block_bytes
    → take (1 + operand_bytes (kind_of value)) (set block command_at value) ≡ value ∷ take (operand_bytes (kind_of value)) (operands_of block)
command_front [] value whole = absurd (omega (arith, whole))
command_front (x ∷ xs) value whole =
    let n : ℕ = operand_bytes (kind_of value) in
    let next : 1 + n ≡ suc n = omega arith in
    ap (λ (m : ℕ). take m (value ∷ xs)) next ∙ ap (◌∷◌ value) (sym (take-take n operand_count xs (few_operands value)))

-- Storing a command leaves the operands
operands_stay : (block : Block) (value : ℕ) → operands_of (set block command_at value) ≡ operands_of block
operands_stay [] value = refl
operands_stay (x ∷ xs) value = refl

-- The bytes of the answer to the query whose operands the block has
pub query_answers : (before : Handed) (block : Block) (code : ℕ) {head : Head} → head ≡ head_of before.numbers
    → {said : Answer} → said ≡ (answered (record { head = head; lent = before.lent }) (operands_of block) (query_kind code)).answer
    → {bytes : List ℕ} → bytes ≡ overwrite (replicate longest_answer 0) 0 (stream.written said)
    → bytes ≡ overwrite (replicate longest_answer 0) 0 (run_kind (store_in before) (operands_of block) (query_kind code)).output
query_answers before block code of_head {said} says put =
    put
    ∙ ap (λ (x : Answer). overwrite (replicate longest_answer 0) 0 (stream.written x))
    (of_handed (λ (s : Store). said ≡ (answered s (operands_of block) (query_kind code)).answer) before of_head says)

module _ (before : Handed) (block : Block) (offset value : ℕ) where
  abbrev d : Device
  d = device_in before block

  abbrev written : Bool → Device
  written x = cond x (run_from_block d value) (record { store = store_in before; block = register_written block offset value })

  -- Another register than the command
  pub register_leaves : (offset ≡ command_at → ⊥) → {block' : Block} → block' ≡ register_written block offset value → LeavesWrite before block offset value before block'
  register_leaves n e =
      record {
        block_is = e ∙ ap (λ (x : Bool). (written x).block) (sym (ne_eqb offset command_at n));
        left = λ at. absurd (n at);
        kept = λ other. refl;
      }

  -- A write to byte 0
  pub at_command : offset ≡ command_at → {after : Handed} {block' : Block} → LeavesWrite before block command_at value after block' → LeavesWrite before block offset value after block'
  at_command at {after} {block'} = subst (λ (o : ℕ). LeavesWrite before block o value after block') (sym at)

  abbrev ran : Ran
  ran = run_one (store_in before) value (operands_of block)

  -- A command that ran: its answer is shown, and the store that it left stands in the places
  ran_leaves : offset ≡ command_at → {stored : Block} → stored ≡ set block command_at value
      → {answer : List ℕ} → answer ≡ overwrite (replicate longest_answer 0) 0 ran.output → {after : Handed} → after ≡ handed_back ran.store
      → {count : ℕ} → count ≡ (store_in after).head.count → {block' : Block} → block' ≡ shown_from stored answer count → LeavesWrite before block offset value after block'
  ran_leaves at is answers left_is {count} counts shown =
      let operand_bytes_lem : List ℕ = operands_of block in
      let ran_it : run_from_block d value ≡ write_device d offset value = ap written (sym (eq-eqb offset command_at at)) in
      let shows =
      answer_shown block value ran.output count (output_begins (store_in before) value operand_bytes_lem) (output_fits (store_in before) value operand_bytes_lem) answers is shown in
      let shown_count : count ≡ ran.store.head.count = counts ∙ ap (λ (h : Handed). (store_in h).head.count) left_is in
      record {
        block_is = shows ∙ ap (showing block value ran.output) shown_count ∙ ap (λ (x : Device). x.block) ran_it;
        left = λ _. left_is ∙ ap (λ (x : Device). handed_back x.store) ran_it;
        kept = λ other. absurd (other at);
      }

  -- A query, which leaves head and slices
  pub query_leaves : offset ≡ command_at → is_query value ≡ true → length before.numbers ≡ head_numbers → {stored : Block} → stored ≡ set block command_at value
      → {answer : List ℕ} → answer ≡ overwrite (replicate longest_answer 0) 0 (run_kind (store_in before) (operands_of stored) (query_kind value)).output
      → {count : ℕ} → count ≡ (store_in before).head.count → {block' : Block} → block' ≡ shown_from stored answer count → LeavesWrite before block offset value before block'
  query_leaves at asks long {stored} is answers counts shown =
      let asked : kind_of value ≡ query_kind value = ap (λ (x : Bool). cond x (query_kind value) (event_kind value)) asks in
      let from_block : operands_of stored ≡ operands_of block = ap operands_of is ∙ operands_stay block value in
      let same : run_kind (store_in before) (operands_of stored) (query_kind value) ≡ ran = ap₂ (run_kind (store_in before)) from_block (sym asked) in
      let stays : ran.store ≡ store_in before =
      ap (λ (kind : Kind). (run_kind (store_in before) (operands_of block) kind).store) asked ∙ query_stays (store_in before) (operands_of block) value in
      ran_leaves at is (answers ∙ ap (λ (r : Ran). overwrite (replicate longest_answer 0) 0 r.output) same)
      (sym (ap handed_back stays ∙ handed_again before long)) counts shown

  -- Any command, run as a packet of its own: the front of the block, with room for the longest answer
  abbrev packet : List ℕ
  packet = take (1 + operand_bytes (kind_of value)) (set block command_at value)

  abbrev fed : Fed
  fed = run_piece longest_answer true (store_in before) packet

  module _ (whole : length block ≡ block_bytes) where
    abbrev operands : List ℕ
    operands = take (operand_bytes (kind_of value)) (operands_of block)

    few : length operands ≤ operand_bytes (kind_of value)
    few = omega (arith, length-take (operand_bytes (kind_of value)) (operands_of block))

    fed_store : fed.store ≡ ran.store
    fed_store =
        ap (λ (bytes : List ℕ). (run_piece longest_answer true (store_in before) bytes).store) (command_front block value whole)
        ∙ one_store (store_in before) value operands few
        ∙ ap (λ (r : Ran). r.store) (front_enough (store_in before) value (operands_of block))

    fed_output : fed.output ≡ ran.output
    fed_output =
        ap (λ (bytes : List ℕ). (run_piece longest_answer true (store_in before) bytes).output) (command_front block value whole)
        ∙ one_output (store_in before) value operands few
        ∙ ap (λ (r : Ran). r.output) (front_enough (store_in before) value (operands_of block))

  pub command_leaves : offset ≡ command_at → {stored : Block} → stored ≡ set block command_at value → length stored ≡ block_bytes
      → {size : ℕ} → size ≡ 1 + operand_bytes (kind_of value)
      → {said : Packet} {after : Handed} → LeavesOf (run_piece longest_answer true (store_in before) (take size stored)) said (replicate longest_answer 0) after
      → {count : ℕ} → count ≡ (store_in after).head.count → {block' : Block} → block' ≡ shown_from stored said.out count → LeavesWrite before block offset value after block'
  command_leaves at is long sized {said} {after} run counts shown =
      let whole : length block ≡ block_bytes = sym (length-set block command_at value) ∙ sym (ap length is) ∙ long in
      let leaves : LeavesOf fed said (replicate longest_answer 0) after =
      subst (λ (bytes : List ℕ). LeavesOf (run_piece longest_answer true (store_in before) bytes) said (replicate longest_answer 0) after) (ap₂ take sized is) run in
      ran_leaves at is (leaves.output ∙ ap (overwrite (replicate longest_answer 0) 0) (fed_output whole)) (leaves.left ∙ ap handed_back (fed_store whole)) counts shown
