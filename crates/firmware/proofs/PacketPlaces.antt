-- The places of open passes that a packet may change: each start takes the place behind the passes that are open, and its command has as many bytes as an event.
use Prim.Native.Nat.{ℕ, suc, ◌+◌, ◌-◌, ◌/◌, ◌≤◌, min}
use native.Mathlib.Omega.{arith}
use mathlib.Core.Path.{◌≡◌, refl, ap, sym, subst, ◌∙◌}
use mathlib.Core.Bool.{Bool, true, false, cond}
use mathlib.Core.List.{List}
use lib.ListN.{length, drop}
use lib.Seq.{drop-drop}
use lib.Dec.{ltb}
use borrow.Author.Tests.{ltb-false}
use Rattle.store.specs.declared.types.Head.{Head}
use Rattle.std.specs.Prelude.{Option, Some, None}
use Rattle.store.specs.declared.types.FoundPass.{FoundPass}
use Rattle.store.specs.Trees.{Store}
use Rattle.store.specs.Head.{pass_of}
use Rattle.store.specs.Answers.{Answered, refused_with}
use Rattle.store.specs.Calls.{start, end}
use Rattle.store.specs.Performing.{refusal, served, perform}
use Rattle.store.proofs.RefusedOrServed.{refused_or_served}
use Rattle.refusals.proofs.RefusalParts.{none_of}
use Rattle.refusals.proofs.FoundPasses.{found_facts}
use Rattle.codec.specs.Bytes.{operand}
use Rattle.command.specs.Stream.{Kind, unknown, command, start_command, end_command, query_kind, kind_of, operand_bytes, run_kind, run_one}
use Rattle.command.specs.Pieces.{Fed, command_length, run_piece}
use Rattle.command.proofs.KindLaws.{by_kind}
use Rattle.command.proofs.PieceSteps.{each_piece}
use Rattle.interpret.proofs.RunLaws.{query_stays}
use Rattle.demand.specs.Bursts.{event_bytes}
use Rattle.firmware.specs.Packets.{changed_places}
use Rattle.firmware.proofs.ExportedLaws.{KeepsFrom}
use Rattle.firmware.proofs.ExportedLists.{Places, places_stay}
use Rattle.firmware.proofs.KeptPlaces.{started, head_after, by_place}

-- At most n passes more are open, and no place behind these was changed
pub record Grows (n : ℕ) (a b : Head) : Type 0 where
  pub count : b.count ≤ a.count + n
  pub rest : (p : ℕ) → a.count + n ≤ p → drop p b.passes ≡ drop p a.passes

grows_none : (n : ℕ) (a : Head) → Grows n a a
grows_none n a = record { count = omega arith; rest = λ p h. refl }

grows_more : {m n : ℕ} {a b : Head} → m ≤ n → Grows m a b → Grows n a b
grows_more less g = record { count = omega (arith, less, g.count); rest = λ p h. g.rest p (omega (arith, less, h)) }

grows_on : {m n : ℕ} {a b c : Head} → Grows m a b → Grows n b c → Grows (m + n) a c
grows_on g h =
    record {
      count = omega (arith, g.count, h.count);
      rest = λ p e. h.rest p (omega (arith, g.count, e)) ∙ g.rest p (omega (arith, e));
    }

-- Heads that are the same from a place on are so from every later one
later : {m : ℕ} {a b : Head} → KeepsFrom m a b → (p : ℕ) → m ≤ p → drop p b.passes ≡ drop p a.passes
later {m} {a} {b} kept p less =
    let at : m + (p - m) ≡ p = omega (arith, less) in
    ap (λ (i : ℕ). drop i b.passes) (sym at)
    ∙ sym (drop-drop (p - m) m b.passes)
    ∙ ap (drop (p - m)) kept.rest
    ∙ drop-drop (p - m) m a.passes
    ∙ ap (λ (i : ℕ). drop i a.passes) at

module _ (s : Store) (long : Places s) where
  start_grows : (tick key weight : ℕ) → Grows 1 s.head (perform s (start tick key weight)).store.head
  unfolding served
  start_grows tick key weight =
      refused_or_served (λ (a : Answered). Grows 1 s.head a.store.head) s (start tick key weight) (λ n. grows_none 1 s.head)
      (λ e. record { count = omega arith; rest = later (started s long tick key weight e) })

  ended : (tick number : ℕ) → refusal s (end tick number) ≡ 0 → (found : Option FoundPass) → pass_of s.head number ≡ found
      → Grows 0 s.head (head_after s long tick number found)
  ended tick number e None f = record { count = omega arith; rest = λ p h. refl }
  ended tick number e (Some found) f =
      let inside = (found_facts s.head number (none_of s (end tick number) refl e).1.passes f).inside in
      record { count = omega arith; rest = λ p h. later (by_place s long tick number e (Some found) f) p (omega (arith, inside, h)) }

  end_grows : (tick number : ℕ) → Grows 0 s.head (perform s (end tick number)).store.head
  unfolding served
  end_grows tick number =
      refused_or_served (λ (a : Answered). Grows 0 s.head a.store.head) s (end tick number) (λ n. grows_none 0 s.head)
      (λ e. ended tick number e (pass_of s.head number) refl)

  module _ (bytes : List ℕ) where
    -- A command opens no more passes than whole events fit into its bytes
    abbrev OfKind : Kind → Type 0
    OfKind kind = Grows (suc (min (operand_bytes kind) (length bytes)) / event_bytes) s.head (run_kind s bytes kind).store.head

    start_kind : OfKind (command 8 start_command)
    start_kind = go (ltb (length bytes) 8) refl
      where
        go : (x : Bool) → ltb (length bytes) 8 ≡ x
            → Grows (suc (min 8 (length bytes)) / event_bytes) s.head (cond x (refused_with 7 s) (perform s (start_command bytes))).store.head
        go true e = grows_none _ s.head
        go false e = grows_more (omega (arith, ltb-false (length bytes) 8 e)) (start_grows (operand bytes 0 4) (operand bytes 4 2) (operand bytes 6 2))

    end_kind : OfKind (command 8 end_command)
    end_kind = go (ltb (length bytes) 8)
      where
        go : (x : Bool) → Grows (suc (min 8 (length bytes)) / event_bytes) s.head (cond x (refused_with 7 s) (perform s (end_command bytes))).store.head
        go true = grows_none _ s.head
        go false = grows_more (omega arith) (end_grows (operand bytes 0 4) (operand bytes 4 4))

    query_kind_lem : (code : ℕ) → OfKind (query_kind code)
    query_kind_lem code =
        subst (λ (x : Store). Grows (suc (min 12 (length bytes)) / event_bytes) s.head x.head) (sym (query_stays s bytes code)) (grows_none _ s.head)

    command_grows : (b : ℕ) → Grows (command_length b bytes / event_bytes) s.head (run_one s b bytes).store.head
    command_grows = by_kind OfKind start_kind end_kind query_kind_lem (grows_none _ s.head)

-- Every command and every packet leave a head with as many places
command_places : (s : Store) → Places s → (bytes : List ℕ) (kind : Kind) → Places (run_kind s bytes kind).store
command_places s long bytes unknown = long
command_places s long bytes (command n call) = go (ltb (length bytes) n)
  where
    go : (x : Bool) → Places (cond x (refused_with 7 s) (perform s (call bytes))).store
    go true = long
    go false = places_stay s long (call bytes)

pub packet_places : (room : ℕ) (ended : Bool) (s : Store) (bytes : List ℕ) → Places s → Places (run_piece room ended s bytes).store
packet_places =
    each_piece (λ (room : ℕ) (ended : Bool) (s : Store) (bytes : List ℕ) (f : Fed). Places s → Places f.store)
    (λ room ended s long. long)
    (λ room ended s b bytes w long. long)
    (λ room ended s b bytes w o long. command_places s long bytes (kind_of b))
    (λ room ended s b bytes f w o h long. h (command_places s long bytes (kind_of b)))

-- A packet opens no more passes than whole events fit into the bytes that it took
packet_grows : (room : ℕ) (ended : Bool) (s : Store) (bytes : List ℕ) → Places s
    → Grows ((run_piece room ended s bytes).taken / event_bytes) s.head (run_piece room ended s bytes).store.head
packet_grows =
    each_piece (λ (room : ℕ) (ended : Bool) (s : Store) (bytes : List ℕ) (f : Fed). Places s → Grows (f.taken / event_bytes) s.head f.store.head)
    (λ room ended s long. grows_none _ s.head)
    (λ room ended s b bytes w long. grows_none _ s.head)
    (λ room ended s b bytes w o long. grows_more (omega arith) (command_grows s long bytes b))
    (λ room ended s b bytes f w o h long.
    grows_more (omega arith) (grows_on (command_grows s long bytes b) (h (command_places s long bytes (kind_of b)))))

pub packet_keeps : (room : ℕ) (ended : Bool) (s : Store) (bytes : List ℕ) → Places s
    → KeepsFrom (changed_places s.head.count (run_piece room ended s bytes).taken) s.head (run_piece room ended s bytes).store.head
packet_keeps room ended s bytes long =
    let taken : ℕ = (run_piece room ended s bytes).taken in
    record {
      full = packet_places room ended s bytes long;
      rest = (packet_grows room ended s bytes long).rest (changed_places s.head.count taken) (omega arith);
    }
