-- Words written over others: how every definition says what lent memory holds afterwards.
use Rattle.std.specs.Prelude.{ℕ, ◌+◌, List, ◌++◌, length, take, drop}

-- The words with `new` written over them from a place on; no other word changes
unfoldable pub overwrite : List ℕ → ℕ → List ℕ → List ℕ
overwrite words at new = take at words ++ new ++ drop (at + length new) words
