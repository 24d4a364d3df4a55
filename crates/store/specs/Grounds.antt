-- The grounds that a call's arguments give, and those that a store's head and a pass book know alike, each under its sentence.
use Rattle.std.specs.Prelude.{ℕ, List, [], ◌∷◌, Bool, false, ◌||◌, not, leb, ltb, eqb}
use Rattle.words.specs.Words.{key_limit, open_end}
use Rattle.store.specs.Head.{pass_limit, open_limit, weight_limit}
use Rattle.store.specs.Calls.{Call, opening, start, end, question, bat_time, lookup_in}
use Rattle.store.specs.Refusals.{Ground, ◌gives◌}

-- "1 key or k1 above 29,999, or k2 above 30,000."
abbrev pub key_too_high : ℕ → Ground
key_too_high key = leb key_limit key gives 1

abbrev pub band_too_high : (k1 k2 : ℕ) → Ground
band_too_high k1 k2 = (leb key_limit k1 || ltb key_limit k2) gives 1

-- "2 k1 not below k2."
abbrev pub no_band : (k1 k2 : ℕ) → Ground
no_band k1 k2 = leb k2 k1 gives 2

-- "3 weight 0 or above 10,000."
abbrev pub weight_beyond : ℕ → Ground
weight_beyond weight = (eqb weight 0 || ltb weight_limit weight) gives 3

-- "4 tick 4,294,967,295 in a start, an end or a lookup."
abbrev pub no_tick : ℕ → Ground
no_tick tick = eqb tick open_end gives 4

-- "5 t1 not below t2."
abbrev pub no_time : (t1 t2 : ℕ) → Ground
no_time t1 t2 = leb t2 t1 gives 5

-- What bat-time takes is "a question" (document 02, Paper 4)
abbrev pub question_grounds : (k1 k2 t1 t2 : ℕ) → List Ground
question_grounds k1 k2 t1 t2 = band_too_high k1 k2 ∷ (no_band k1 k2 ∷ (no_time t1 t2 ∷ []))

-- "Refused because of the input", of the arguments
abbrev pub argument_grounds : Call → List Ground
argument_grounds opening = []
argument_grounds (start tick key weight) = key_too_high key ∷ (weight_beyond weight ∷ (no_tick tick ∷ []))
argument_grounds (end tick number) = no_tick tick ∷ []
argument_grounds (question k1 k2 t1 t2) = question_grounds k1 k2 t1 t2
argument_grounds (bat_time k1 k2 t1 t2) = question_grounds k1 k2 t1 t2
argument_grounds (lookup_in tree t k) = key_too_high k ∷ (no_tick t ∷ [])

-- What a head and a book know: the last tick, how many passes are open and were started, and whether the pass that the call seeks is open
pub record Known : Type 0 where
  pub last : ℕ
  pub count : ℕ
  pub started : ℕ
  pub found : Bool

-- Only an end seeks a pass
abbrev pub sought_by : Call → (ℕ → Bool) → Bool
sought_by opening find = false
sought_by (start tick key weight) find = false
sought_by (end tick number) find = find number
sought_by (question k1 k2 t1 t2) find = false
sought_by (bat_time k1 k2 t1 t2) find = false
sought_by (lookup_in tree t k) find = false

-- "21 tick of a start or an end before the last tick."
abbrev pub before_last : (last tick : ℕ) → Ground
before_last last tick = ltb tick last gives 21

-- "22 no open pass of that number." "Refusal 23 goes; its number isn't used again." (Paper 2)
abbrev pub not_open : Bool → Ground
not_open found = not found gives 22

-- "24 a start with 64 open."
abbrev pub all_open : ℕ → Ground
all_open count = leb open_limit count gives 24

-- "25 a start with 1,000,000 started."
abbrev pub all_started : ℕ → Ground
all_started started = leb pass_limit started gives 25

-- "Refused because of the state", of what a head and a book know
abbrev pub state_grounds : Known → Call → List Ground
state_grounds known opening = []
state_grounds known (start tick key weight) = before_last known.last tick ∷ (all_open known.count ∷ (all_started known.started ∷ []))
state_grounds known (end tick number) = before_last known.last tick ∷ (not_open known.found ∷ [])
state_grounds known (question k1 k2 t1 t2) = []
state_grounds known (bat_time k1 k2 t1 t2) = []
state_grounds known (lookup_in tree t k) = []
