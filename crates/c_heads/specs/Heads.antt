-- The head as firmware in C hands it over: one lent array of numbers, in which each field of the head has its place. "The head .. has the last tick .., the number of
-- passes started, the open passes in order of opening (number, key, weight, start; unused places zero), and for each tree the pages used and the roots used."
use Rattle.std.specs.Prelude.{ℕ, zero, suc, ◌+◌, ◌*◌, List, [], ◌∷◌, ◌++◌, get_or, take}
use Rattle.words.specs.Overwrite.{overwrite}
use Rattle.tree.specs.declared.types.TreeUse.{TreeUse}
use Rattle.store.specs.declared.types.OpenPass.{OpenPass}
use Rattle.store.specs.declared.types.Head.{Head}
use Rattle.store.specs.Head.{open_limit}

-- The last tick, the number of passes started, the number of open passes, and two numbers a tree come first: the open passes, four numbers each, stand behind them
abbrev pub field_numbers : ℕ
field_numbers = 9

abbrev pub numbers_of_pass : ℕ
numbers_of_pass = 4

abbrev pub pass_numbers : ℕ
pass_numbers = open_limit * numbers_of_pass

abbrev pub head_numbers : ℕ
head_numbers = field_numbers + pass_numbers

-- What a tree uses, from a place on
abbrev pub use_at : List ℕ → ℕ → TreeUse
use_at ns at = record { pages = get_or ns at 0; roots = get_or ns (at + 1) 0 }

abbrev pub pass_at : List ℕ → ℕ → OpenPass
pass_at ns at = record { number = get_or ns at 0; key = get_or ns (at + 1) 0; weight = get_or ns (at + 2) 0; start = get_or ns (at + 3) 0 }

-- As many passes as are asked for, the first of which starts at a place
unfoldable pub passes_from : List ℕ → ℕ → ℕ → List OpenPass
passes_from ns at zero = []
passes_from ns at (suc n) = pass_at ns at ∷ passes_from ns (at + numbers_of_pass) n

-- The head that the numbers make
abbrev pub head_of : List ℕ → Head
head_of ns =
    record {
      last = get_or ns 0 0;
      started = get_or ns 1 0;
      count = get_or ns 2 0;
      passes = passes_from ns field_numbers open_limit;
      starts = use_at ns 3;
      ends = use_at ns 5;
      time = use_at ns 7;
    }

-- and the numbers that a head makes
abbrev pub use_numbers : TreeUse → List ℕ
use_numbers used = used.pages ∷ (used.roots ∷ [])

abbrev pub fields_of : Head → List ℕ
fields_of h = h.last ∷ (h.started ∷ (h.count ∷ (use_numbers h.starts ++ (use_numbers h.ends ++ use_numbers h.time))))

abbrev pub numbers_of_one : OpenPass → List ℕ
numbers_of_one p = p.number ∷ (p.key ∷ (p.weight ∷ (p.start ∷ [])))

unfoldable pub numbers_of_passes : List OpenPass → List ℕ
numbers_of_passes [] = []
numbers_of_passes (p ∷ ps) = numbers_of_one p ++ numbers_of_passes ps

abbrev pub numbers_of : Head → List ℕ
numbers_of h = fields_of h ++ numbers_of_passes h.passes

-- A head written over the numbers of another: its fields, and the passes of its first places; the passes behind these stay
abbrev pub head_over : List ℕ → (places : ℕ) → Head → List ℕ
head_over ns places h = overwrite ns 0 (fields_of h ++ numbers_of_passes (take places h.passes))
