-- A refused reply.
use Rattle.std.specs.Prelude.{ℕ}
use Rattle.store.specs.declared.types.Head.{Head}
use Rattle.store.specs.declared.types.Answer.TheVariants.{Refused}
use Rattle.replies.specs.declared.types.Reply.{Reply}

-- "A refusal returns its number and no other field"
abbrev pub refused_reply : ℕ → Head → Reply
refused_reply number head = record { answer = Refused number; head = head }
