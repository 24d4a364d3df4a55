-- A value is one thing with a zero and a sum: a count and a weight sum. "Row counts and sums add modulo 2^64."
-- Only this file, the store and the commands look into a value; rows, pages and trees know `zero` and `plus` alone.
use Rattle.std.specs.Prelude.{ℕ, ◌+◌, ◌-◌, ◌*◌, ◌%◌, ◌^◌, List, [], ◌∷◌, slice_index}
use Rattle.words.specs.declared.value.Value.{Value}

abbrev pub zero : Value
zero = record { count = 0; sum = 0 }

-- Words, added and subtracted modulo 2^64
abbrev pub add_words : ℕ → ℕ → ℕ
add_words a b = (a + b) % 2 ^ 64

abbrev pub subtract_words : ℕ → ℕ → ℕ
subtract_words a b = (a + (2 ^ 64 - b % 2 ^ 64)) % 2 ^ 64

unfoldable pub plus : Value → Value → Value
plus a b = record { count = add_words a.count b.count; sum = add_words a.sum b.sum }

-- The difference
unfoldable pub minus : Value → Value → Value
minus a b = record { count = subtract_words a.count b.count; sum = subtract_words a.sum b.sum }

-- Row words "2 count; 3 weight sum": the words that a value takes
abbrev pub value_words : ℕ
value_words = 2

abbrev pub value_at : List ℕ → ℕ → Value
value_at words at = record { count = slice_index words at; sum = slice_index words (at + 1) }

abbrev pub encode_value : Value → List ℕ
encode_value v = v.count ∷ (v.sum ∷ [])

-- In the tree of time the two words are "the factor of t and the constant" (document 02, Paper 4): the value is a line over ticks. It is kept, added and
-- subtracted as any other value; these names say which word is which
abbrev pub line : (factor constant : ℕ) → Value
line factor constant = record { count = factor; sum = constant }

abbrev pub factor_of : Value → ℕ
factor_of v = v.count

abbrev pub constant_of : Value → ℕ
constant_of v = v.sum

-- The line at a tick: factor × t + constant, modulo 2^64
unfoldable pub line_at : Value → ℕ → ℕ
line_at v t = (factor_of v * t + constant_of v) % 2 ^ 64
