-- A tick that a burst's bytes spell is a number of 32 bits, so that each of its events may stand in a list of calls.
use Prim.Native.Nat.{ℕ, zero, suc, ◌≤◌}
use native.Mathlib.Omega.{arith}
use mathlib.Core.Bool.{Bool, true, false, cond}
use mathlib.Core.List.{List, [], ◌∷◌}
use lib.ListN.{get_or, take, drop}
use lib.Dec.{eqb}
use Rattle.words.specs.Lists.{All}
use Rattle.words.specs.Words.{open_end}
use Rattle.tree.proofs.Lists.{all_take, all_drop}
use Rattle.store.specs.Calls.{Sent}
use Rattle.codec.specs.Bytes.{number_of}
use Rattle.command.specs.Stream.{unknown, command, start_command, end_command, question_command, bat_time_command, event_kind, is_query, kind_of}
use Rattle.demand.specs.Bursts.{Asked, unknown_kind, asked, asked_by, event_bytes, events_from}

abbrev pub IsByte : ℕ → Type 0
IsByte byte = byte ≤ 255

abbrev pub SentAsked : Asked → Type 0
SentAsked unknown_kind = Unit {0}
SentAsked (asked c) = Sent c

four_bytes : (bytes : List ℕ) → All IsByte bytes → number_of (take 4 bytes) ≤ open_end
unfolding number_of
four_bytes [] h = omega arith
four_bytes (a ∷ []) h = omega (arith, h.0)
four_bytes (a ∷ (b ∷ [])) h = omega (arith, h.0, h.1.0)
four_bytes (a ∷ (b ∷ (c ∷ []))) h = omega (arith, h.0, h.1.0, h.1.1.0)
four_bytes (a ∷ (b ∷ (c ∷ (d ∷ rest)))) h = omega (arith, h.0, h.1.0, h.1.1.0, h.1.1.1.0)

sent_event : (byte : ℕ) (operands : List ℕ) → All IsByte operands → SentAsked (asked_by (event_kind byte) operands)
sent_event byte operands h = go (eqb byte 1) (eqb byte 2)
  where
    go : (x y : Bool) → SentAsked (asked_by (cond x (command 8 start_command) (cond y (command 8 end_command) unknown)) operands)
    go true y = four_bytes operands h
    go false true = four_bytes operands h
    go false false = tt

-- A command's, too
pub sent_command : (byte : ℕ) (operands : List ℕ) → All IsByte operands → SentAsked (asked_by (kind_of byte) operands)
sent_command byte operands h = go (is_query byte) (eqb byte 4)
  where
    go : (x y : Bool) → SentAsked (asked_by (cond x (command 12 (cond y bat_time_command question_command)) (event_kind byte)) operands)
    go true true = four_bytes (drop 8 operands) (all_drop IsByte 8 operands h)
    go true false = four_bytes (drop 8 operands) (all_drop IsByte 8 operands h)
    go false y = sent_event byte operands h

pub sent_events : (count : ℕ) (bytes : List ℕ) → All IsByte bytes → All SentAsked (events_from count bytes)
unfolding events_from
sent_events zero bytes h = tt
sent_events (suc n) bytes h = (
  sent_event (get_or bytes 0 0) (take 8 (drop 1 bytes)) (all_take IsByte 8 (drop 1 bytes) (all_drop IsByte 1 bytes h)),
  sent_events n (drop event_bytes bytes) (all_drop IsByte event_bytes bytes h),
)
