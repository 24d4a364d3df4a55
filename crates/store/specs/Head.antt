-- The head: its open passes, and refusal 20.
use Rattle.std.specs.Prelude.{ℕ, ◌+◌, ◌/◌, List, [], ◌∷◌, Bool, true, cond, ◌&&◌, length, take, replicate, leb, ltb, eqb, Option, Some, None}
use Rattle.words.specs.Words.{key_limit}
use Rattle.tree.specs.declared.types.TreeUse.{TreeUse}
use Rattle.tree.specs.Row.{page_words}
use Rattle.tree.specs.Use.{page_limit, opened_use}
use Rattle.tree.specs.Tree.{Tree}
use Rattle.store.specs.declared.types.OpenPass.{OpenPass}
use Rattle.store.specs.declared.types.FoundPass.{FoundPass}
use Rattle.store.specs.declared.types.TreeName.{TreeName}
use Rattle.store.specs.declared.types.Head.{Head}
use Rattle.store.specs.Trees.{Store, tree_in, each_tree}

-- "Passes are numbered 0, 1, 2 and on as starts are accepted, at most 1,000,000. At most 64 are open together."
abbrev pub pass_limit : ℕ
pass_limit = 1000000

abbrev pub open_limit : ℕ
open_limit = 64

-- "Weight: detection weight in hundredths, 1 to 10,000."
abbrev pub weight_limit : ℕ
weight_limit = 10000

-- "the open passes in order of opening (number, key, weight, start; unused places zero)"
abbrev pub open_passes : Head → List OpenPass
open_passes h = take h.count h.passes

abbrev pub no_pass : OpenPass
no_pass = record { number = 0; key = 0; weight = 0; start = 0 }

-- An open pass that was found in a place
abbrev pub found_at : ℕ → OpenPass → Option FoundPass
found_at place pass = Some (record { place = place; pass = pass })

-- The open pass of a number, among passes of which the first has a place
unfoldable pub find_pass : (number place : ℕ) → List OpenPass → Option FoundPass
find_pass number place [] = None
find_pass number place (p ∷ ps) = cond (eqb p.number number) (found_at place p) (find_pass number (place + 1) ps)

abbrev pub pass_of : Head → ℕ → Option FoundPass
pass_of h number = find_pass number 0 (open_passes h)

-- 20: "an open key or weight beyond its range", open numbers that "reach the number started", "an open start after the last tick"
abbrev pub pass_fits : (started last : ℕ) → OpenPass → Bool
pass_fits started last p =
    ltb p.key key_limit && (leb 1 p.weight && (leb p.weight weight_limit && (ltb p.number started && leb p.start last)))

unfoldable pub passes_fit : (started last : ℕ) → List OpenPass → Bool
passes_fit started last [] = true
passes_fit started last (p ∷ ps) = pass_fits started last p && passes_fit started last ps

-- 20: "open numbers that don't rise"
abbrev pub rises_to : ℕ → List OpenPass → Bool
rises_to n [] = true
rises_to n (p ∷ ps) = ltb n p.number

unfoldable pub numbers_rise : List OpenPass → Bool
numbers_rise [] = true
numbers_rise (p ∷ ps) = rises_to p.number ps && numbers_rise ps

-- 20: "no pages or roots used, over 1,000,000 pages used, more pages than the table holds, more roots than pages used or than list words"
abbrev pub use_fits_in : TreeUse → (table_words list_words : ℕ) → Bool
use_fits_in used table_words list_words =
    leb 1 used.pages
    && (leb 1 used.roots
    && (leb used.pages page_limit
    && (leb used.pages (table_words / page_words)
    && (leb used.roots used.pages
    && leb used.roots list_words))))

abbrev pub use_fits : Tree → Bool
use_fits t = use_fits_in t.used (length t.table) (length t.roots)

-- The head fits what is lent with it: no ground for 20
unfoldable pub head_fits : Store → Bool
head_fits s =
    leb s.head.count open_limit
    && (passes_fit s.head.started s.head.last (open_passes s.head)
    && (numbers_rise (open_passes s.head)
    && (leb s.head.started pass_limit
    && each_tree (λ (name : TreeName). use_fits (tree_in s name)))))

-- The head that opening returns: "the last tick (0 at opening)", no pass started, none open, page 0 and the first root entry of each tree
abbrev pub opened_head : Head
opened_head =
    record {
      last = 0;
      started = 0;
      count = 0;
      passes = replicate open_limit no_pass;
      starts = opened_use;
      ends = opened_use;
      time = opened_use;
    }
