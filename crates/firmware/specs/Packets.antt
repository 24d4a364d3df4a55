-- What an exported call says of a packet of commands, and leaves.
use Rattle.std.specs.Prelude.{ℕ, ◌+◌, ◌/◌, ◌≡◌, cond, List, [], ◌∷◌, ◌++◌, length}
use Rattle.words.specs.Overwrite.{overwrite}
use Rattle.command.specs.Pieces.{Fed, Piece, Feed, fed_with, feed_after}
use Rattle.demand.specs.Bursts.{event_bytes}
use Rattle.firmware.specs.Exported.{Handed, store_in, handed_back}

-- The number returned, the lent numbers and the room for answers, afterwards
pub record Packet : Type 0 where
  pub over : ℕ
  pub taken : ℕ
  pub written : ℕ
  pub out : List ℕ

-- A packet that comes to f: 1 where the run is over, the bytes taken and written, the answers at the front of the room, and the store in its places
pub record LeavesOf (f : Fed) (said : Packet) (out : List ℕ) (after : Handed) : Type 0 where
  pub over : said.over ≡ cond f.over 1 0
  pub taken : said.taken ≡ f.taken
  pub written : said.written ≡ length f.output
  pub output : said.out ≡ overwrite out 0 f.output
  pub left : after ≡ handed_back f.store

-- Packets one after the other: each call is handed the numbers and the slices that the one before left, and the bytes that it did not take
abbrev pub handed_on : Feed → Feed
handed_on f = record { store = store_in (handed_back f.store); waiting = f.waiting; over = f.over }

unfoldable pub export_packets : Feed → List Piece → List ℕ
export_packets f [] = []
export_packets f (p ∷ packets) = (fed_with f p).output ++ export_packets (handed_on (feed_after f p)) packets

-- For an inner promise alone: how many places of open passes a packet may change, by the passes that were open and the bytes that it took. A start takes the place
-- behind the open passes, and its command has as many bytes as an event
abbrev pub changed_places : (count taken : ℕ) → ℕ
changed_places count taken = count + taken / event_bytes
