-- What the command program says to its input.
use Rattle.std.specs.Prelude.{ℕ, List, Option}
use Rattle.std.specs.Io.KnownBytes.{Appends, Consumes}
use Rattle.command.specs.Stream.{output}

-- Where it is known what a reader has left and what a writer holds: bytes are taken from the front of the first, and their output as a whole input of
-- the program stands behind the second
pub record Says (unread unread_after held held_after : Option (List ℕ)) : Type 0 where
  pub taken : List ℕ
  pub read : Consumes unread unread_after taken
  pub written : Appends held held_after (output taken)
