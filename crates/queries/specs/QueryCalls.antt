-- The question and bat-time, which take the same arguments.
use Rattle.std.specs.Prelude.{ℕ, Bool, true, false}
use Rattle.store.specs.Calls.{Call, question, bat_time}

-- A question, or bat-time of the same band and interval
abbrev pub query_call : (time : Bool) (k1 k2 t1 t2 : ℕ) → Call
query_call true k1 k2 t1 t2 = bat_time k1 k2 t1 t2
query_call false k1 k2 t1 t2 = question k1 k2 t1 t2
