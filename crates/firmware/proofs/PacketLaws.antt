-- Packets of commands: what an exported call leaves, from what running the piece hands back; and packets one after the other.
use Prim.Native.Nat.{ℕ}
use mathlib.Core.Path.{◌≡◌, refl, ap, ap₂, ◌∙◌}
use mathlib.Core.Bool.{Bool, true, false, cond}
use mir.Val.{bool_byte}
use mathlib.Core.List.{List, [], ◌∷◌, ◌++◌}
use lib.ListN.{length}
use Rattle.store.specs.declared.types.Head.{Head}
use Rattle.store.specs.Trees.{Lent, Store}
use Rattle.store.specs.Head.{open_limit}
use Rattle.command.specs.Pieces as piece
use Rattle.command.specs.Pieces.{takes_nothing, run_piece, Piece, Feed, handed_over, fed_with, feed_after, written_all}
use Rattle.pieces.specs.declared.pieces.Fed.{Fed}
use Rattle.pieces.specs.Fed.{FedAs}
use Rattle.c_heads.specs.Heads.{field_numbers, head_numbers, head_of, head_over}
use Rattle.c_heads.proofs.HeadNumbers.{passes_length}
use Rattle.firmware.specs.Exported.{Handed, store_in, handed_back}
use Rattle.firmware.specs.Packets.{changed_places, LeavesOf, handed_on, export_packets}
use Rattle.firmware.proofs.ExportedLaws.{of_handed, written_back}
use Rattle.firmware.proofs.ExportedLists.{store_back, Places}
use Rattle.firmware.proofs.PacketPlaces.{packet_places, packet_keeps}

-- A truth value as a byte
pub as_byte : (b : Bool) → bool_byte b ≡ cond b 1 0
as_byte true = refl
as_byte false = refl

module _ (room : ℕ) (ended : Bool) (before : Handed) (input : List ℕ) {head : Head} (of_head : head ≡ head_of before.numbers) {r : Fed} {out out' : List ℕ} {lent : Lent}
    (fed : FedAs (run_piece room ended (record { head = head; lent = before.lent }) input) r out out' lent) where
  pub packet_leaves : length before.numbers ≡ head_numbers → {over : ℕ} → over ≡ cond r.over 1 0 → {count : ℕ} → count ≡ (store_in before).head.count
      → {places : ℕ} → places ≡ changed_places count r.taken → {numbers : List ℕ} → numbers ≡ head_over before.numbers places r.head
      → LeavesOf (run_piece room ended (store_in before) input) (record { over = over; taken = r.taken; written = r.written; out = out' }) out
      (record { numbers = numbers; lent = lent })
  packet_leaves long e counts {places} changed put =
      let is = of_handed (λ (s : Store). FedAs (run_piece room ended s input) r out out' lent) before of_head fed in
      let f : piece.Fed = run_piece room ended (store_in before) input in
      let kept = packet_keeps room ended (store_in before) input (passes_length before.numbers field_numbers open_limit) in
      let all_changed : places ≡ changed_places (store_in before).head.count f.taken = changed ∙ ap₂ changed_places counts is.taken in
      record {
        over = e ∙ ap (λ (x : Bool). cond x 1 0) is.over;
        taken = is.taken;
        written = is.size;
        output = is.output;
        left = written_back before long f.store kept is.head is.lent_is (put ∙ ap (λ (n : ℕ). head_over before.numbers n r.head) all_changed);
      }

fed_places : (f : Feed) (p : Piece) → Places f.store → Places (feed_after f p).store
fed_places f p long = go f.over
  where
    go : (x : Bool) → Places (cond x (takes_nothing f.store true) (run_piece p.room p.ended f.store (handed_over f p))).store
    go true = long
    go false = packet_places p.room p.ended f.store (handed_over f p) long

-- Packets, each handed what the one before left, are pieces of one stream: what any-pieces says of pieces holds of them
pub exported_packets : (f : Feed) → length f.store.head.passes ≡ open_limit → (packets : List Piece) → export_packets f packets ≡ written_all f packets
unfolding export_packets written_all
exported_packets f long [] = refl
exported_packets f long (p ∷ packets) =
    let after : Feed = feed_after f p in
    let places : Places after.store = fed_places f p long in
    let back : store_in (handed_back after.store) ≡ after.store = store_back after.store places in
    let same : handed_on after ≡ after = λ i. record { store = back i; waiting = after.waiting; over = after.over } in
    ap (◌++◌ (fed_with f p).output) (ap (λ (x : Feed). export_packets x packets) same ∙ exported_packets after places packets)
