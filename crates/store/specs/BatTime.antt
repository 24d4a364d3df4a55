-- Bat-time over passes: document 02, Paper 4. "The consultancy reports weight times ticks shared by a pass and the interval (source document 002, section 5), an open pass
-- running on."
use Rattle.std.specs.Prelude.{ℕ, ◌+◌, ◌*◌, ◌-◌, min, max, List, Bool, ◌&&◌, leb, ltb}
use Rattle.store.specs.Passes.{End, still_open, ended_at, Pass, sum_where}

-- The ticks from t1 up to but not t2 at which a pass lives: from its start to its end, both included (Paper 2). `proofs/SharedTicks` counts them one by one
abbrev pub shared_ticks : (t1 t2 start : ℕ) → End → ℕ
shared_ticks t1 t2 start still_open = t2 - max t1 start
shared_ticks t1 t2 start (ended_at e) = min t2 (e + 1) - max t1 start

-- "k1 ≤ key < k2"
abbrev pub has_key_in : (k1 k2 : ℕ) → Pass → Bool
has_key_in k1 k2 p = leb k1 p.key && ltb p.key k2

-- "The total must be exact all the same": a natural number
abbrev pub bat_time_of : (k1 k2 t1 t2 : ℕ) → List Pass → ℕ
bat_time_of k1 k2 t1 t2 passes = sum_where (λ (p : Pass). p.weight * shared_ticks t1 t2 p.start p.end) (has_key_in k1 k2) passes
