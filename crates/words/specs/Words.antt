-- The words of document 01, "Pages and rows": numbers packed into one word, and taken out of any word.
use Rattle.std.specs.Prelude.{ℕ, ◌+◌, ◌*◌, ◌/◌, ◌%◌}

-- "Key: .. 0 to 29,999": the first number that is no key, and the high key of a root
abbrev pub key_limit : ℕ
key_limit = 30000

-- "4,294,967,295 means open": the end of an open row, and the one number of 32 bits that is no tick
abbrev pub open_end : ℕ
open_end = 4294967295

-- Page word 2: "low key + 65,536 × high key"
abbrev pub key_range : ℕ → ℕ → ℕ
key_range low high = low + 65536 * high

-- Row word 0: "low key + 65,536 × high key + 2^32 × child page"
abbrev pub row_keys : (low high child : ℕ) → ℕ
row_keys low high child = low + 65536 * high + 4294967296 * child

abbrev pub low_key : ℕ → ℕ
low_key word = word % 65536

abbrev pub high_key : ℕ → ℕ
high_key word = word / 65536 % 65536

abbrev pub child_page : ℕ → ℕ
child_page word = word / 4294967296

-- Row word 1: "birth + 2^32 × end"
abbrev pub life_word : ℕ → ℕ → ℕ
life_word birth end = birth + 4294967296 * end

abbrev pub birth_of : ℕ → ℕ
birth_of word = word % 4294967296

abbrev pub end_of : ℕ → ℕ
end_of word = word / 4294967296

-- A word of the root list: "birth + 2^32 × page"
abbrev pub root_entry : ℕ → ℕ → ℕ
root_entry birth page = birth + 4294967296 * page

abbrev pub root_birth : ℕ → ℕ
root_birth word = word % 4294967296

abbrev pub root_page : ℕ → ℕ
root_page word = word / 4294967296
