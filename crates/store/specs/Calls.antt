-- The calls of a store: "each call's kind and other arguments".
use Rattle.std.specs.Prelude.{ℕ, ◌≤◌, Bool, true, false}
use Rattle.words.specs.Words.{open_end}
use Rattle.store.specs.declared.types.TreeName.{TreeName}

pub data Call : Type 0 where
  opening : Call
  start : (tick key weight : ℕ) → Call
  end : (tick number : ℕ) → Call
  question : (k1 k2 t1 t2 : ℕ) → Call
  -- "Command 04h takes a question" (document 02, Paper 4)
  bat_time : (k1 k2 t1 t2 : ℕ) → Call
  lookup_in : (tree : TreeName) (t k : ℕ) → Call

abbrev pub is_opening : Call → Bool
is_opening opening = true
is_opening (start tick key weight) = false
is_opening (end tick number) = false
is_opening (question k1 k2 t1 t2) = false
is_opening (bat_time k1 k2 t1 t2) = false
is_opening (lookup_in tree t k) = false

-- "Tick: 10 ms, 0 to 4,294,967,294", and 4,294,967,295 beside: a tick that a call is handed is a number of 32 bits
abbrev pub Sent : Call → Type 0
Sent opening = Unit {0}
Sent (start tick key weight) = tick ≤ open_end
Sent (end tick number) = tick ≤ open_end
Sent (question k1 k2 t1 t2) = t2 ≤ open_end
Sent (bat_time k1 k2 t1 t2) = t2 ≤ open_end
Sent (lookup_in tree t k) = t ≤ open_end
