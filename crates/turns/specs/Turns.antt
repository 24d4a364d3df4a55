-- A turn of the command program: bytes are read behind those that wait, and as much as may be is run.
use Rattle.std.specs.Prelude.{ℕ, ◌-◌, ◌^◌, ◌≡◌, Bool, true, false, ◌⊎◌, List, length, take, eqb}
use Rattle.std.specs.declared.option.Option.{Option}
use Rattle.std.specs.Io.KnownBytes.{Appends, Consumes}
use Rattle.words.specs.Lists.{All}
use Rattle.store.specs.Trees.{Lent, Store}
use Rattle.command.specs.Pieces.{Piece, Feed, fed_with, feed_after, feed_all, written_all, input_of, EndsOnce}

-- What a read brings: bytes, or none where the input has ended
abbrev pub piece_read : (room : ℕ) → List ℕ → Piece
piece_read room came = record { bytes = came; room = room; ended = eqb (length came) 0 }

-- The input has ended where a read brings nothing, and not before
abbrev pub IsRead : Piece → Type 0
IsRead p = p.ended ≡ eqb (length p.bytes) 0

-- The program between two turns: so many bytes wait at the front of its buffer
abbrev pub feed_of : Store → (buffer : List ℕ) (waiting : ℕ) → Bool → Feed
feed_of s buffer waiting over = record { store = s; waiting = take waiting buffer; over = over }

-- A command that waits lacks an operand, so that it has 12 bytes at most
abbrev pub most_waiting : ℕ
most_waiting = 12

-- One turn
pub record Turned (room : ℕ) (before after : Feed) : Type 0 where
  pub came : List ℕ
  pub feeds : after ≡ feed_after before (piece_read room came)
  pub goes_on : after.over ≡ false → (piece_read room came).ended ≡ false

-- One turn on a reader and a writer. Where it is known what the one has left and what the other holds, the bytes that come are taken from the front
-- of the first, and what is said to them stands behind the second
pub record TurnedOn (room : ℕ) (before after : Feed) (unread unread_after held held_after : Option (List ℕ)) : Type 0 where
  pub turned : Turned room before after
  pub read : Consumes unread unread_after turned.came
  pub written : Appends held held_after (fed_with before (piece_read room turned.came)).output

-- A turn that an error of reading or writing ends: the tables hold what they held, or what the bytes that came make of it
abbrev pub IsCutTurn : (room : ℕ) (before : Feed) (left : Lent) → Type 0
IsCutTurn room before left = (left ≡ before.store.lent) ⊎ ((came : List ℕ) × (left ≡ (feed_after before (piece_read room came)).store.lent))

-- A proved loop has an end: so many turns, more than any run has
abbrev pub most_turns : ℕ
most_turns = 2 ^ 64 - 1

-- A whole run: turns until it is over, or so many
pub record Served (before : Feed) (left : Store) (over : Bool) : Type 0 where
  pub pieces : List Piece
  pub reads : All IsRead pieces
  pub ends : EndsOnce pieces
  pub store : left ≡ (feed_all before pieces).store
  pub over_is : over ≡ (feed_all before pieces).over
  pub finished : (over ≡ true) ⊎ (length pieces ≡ most_turns)

-- A whole run on a reader and a writer: its input is what was taken from the one, and what its pieces say stands behind what the other held
pub record ServedOn (before : Feed) (left : Store) (over : Bool) (unread unread_after held held_after : Option (List ℕ)) : Type 0 where
  pub served : Served before left over
  pub read : Consumes unread unread_after (input_of served.pieces)
  pub written : Appends held held_after (written_all before served.pieces)

-- A run that an error of reading or writing ends: the tables hold what the pieces that were run left there
pub record CutShort (before : Feed) (left : Lent) : Type 0 where
  pub pieces : List Piece
  pub reads : All IsRead pieces
  pub ends : EndsOnce pieces
  pub lent : left ≡ (feed_all before pieces).store.lent
