-- What running a piece of the stream hands back.
use Rattle.std.specs.Prelude.{ℕ, ◌+◌, ◌≡◌, List, Bool, true, cond, not, ◌&&◌, length, get_or, drop, ltb}
use Rattle.words.specs.Overwrite.{overwrite}
use Rattle.store.specs.Trees.{Lent}
use Rattle.command.specs.Pieces as piece
use Rattle.command.specs.Pieces.{must_wait}
use Rattle.pieces.specs.declared.pieces.Fed.{Fed}

-- The command at a place of a piece runs where the run goes on, there is one, and it does not wait
unfoldable pub runs_at : (on : Bool) (room : ℕ) (ended : Bool) → List ℕ → ℕ → Bool
runs_at on room ended input at = on && (ltb at (length input) && not (must_wait room ended (get_or input at 0) (drop (at + 1) input)))

-- Where none runs, the run is over behind a command that ends it and at the end of the input
unfoldable pub is_over : (on : Bool) (at count : ℕ) (ended : Bool) → Bool
is_over on at count ended = cond on (not (ltb at count) && ended) true

-- A piece: how many bytes are taken and written, the bytes written, whether the run is over, the head and every lent word afterwards are those that a
-- definition says
pub record FedAs (a : piece.Fed) (r : Fed) (before out : List ℕ) (lent : Lent) : Type 0 where
  pub taken : r.taken ≡ a.taken
  pub output : out ≡ overwrite before 0 a.output
  pub size : r.written ≡ length a.output
  pub over : r.over ≡ a.over
  pub head : r.head ≡ a.store.head
  pub lent_is : lent ≡ a.store.lent
