-- What a call that only reads gives: the lookup of each tree, and the question and bat-time, which are made of lookups.
use Rattle.std.specs.Prelude.{ℕ, ◌+◌, ◌-◌, List, [], ◌∷◌, ◌++◌, map, Bool, true, false, cond, ◌||◌, eqb, Result, Ok, Err}
use Rattle.words.specs.declared.value.Value.{Value}
use Rattle.words.specs.Value.{zero, plus, minus, add_words, subtract_words, line_at}
use Rattle.tree.specs.declared.types.Lookup.{Lookup}
use Rattle.tree.specs.declared.types.SpoiledPage.{SpoiledPage}
use Rattle.tree.specs.Lookup.{lookup}
use Rattle.store.specs.declared.types.TreeName.{TreeName}
use Rattle.store.specs.declared.types.TreeName.TheVariants.{Starts, Ends, Time}
use Rattle.store.specs.Trees.{Store, tree_in}
use Rattle.store.specs.Calls.{Call, opening, start, end, question, bat_time, lookup_in}
use Rattle.store.specs.Refusals.{Ground, ◌gives◌}

-- "26 spoiled page met"
abbrev pub is_spoiled : Result Lookup SpoiledPage → Bool
is_spoiled (Err e) = true
is_spoiled (Ok found) = false

abbrev pub value_of : Result Lookup SpoiledPage → Value
value_of (Err e) = zero
value_of (Ok found) = found.value

abbrev pub pages_of : Result Lookup SpoiledPage → ℕ
pages_of (Err e) = 0
pages_of (Ok found) = found.pages

-- "Each tree has its own lookup: at (t, k)"
pub record PointLookup : Type 0 where
  pub tree : TreeName
  pub tick : ℕ
  pub key : ℕ

abbrev pub found_in : Store → PointLookup → Result Lookup SpoiledPage
found_in s l = lookup (tree_in s l.tree) l.tick l.key

-- The lookups of a question are of one kind: the points of a tree before tick t and below key k. "starts(t2 - 1, k2 - 1)", "ends are looked up at t1 - 1" (document 02,
-- Paper 2), and the same with k1
abbrev pub points_before : TreeName → (t k : ℕ) → PointLookup
points_before tree t k = record { tree = tree; tick = t - 1; key = k - 1 }

-- "With k1 = 0 the last two are zero and open no page." "t1 = 0 looks up none" (Paper 2): no key is below 0, and no tick before it
abbrev pub none_precede : (t k : ℕ) → Bool
none_precede t k = eqb t 0 || eqb k 0

abbrev pub lookup_before : TreeName → (t k : ℕ) → List PointLookup
lookup_before tree t k = cond (none_precede t k) [] (points_before tree t k ∷ [])

-- The lookups of a band and an interval: in one tree before t2, in another or the same before t1, and so with k2 and with k1
abbrev pub band_lookups : (later earlier : TreeName) (k1 k2 t1 t2 : ℕ) → List PointLookup
band_lookups later earlier k1 k2 t1 t2 = lookup_before later t2 k2 ++ (lookup_before earlier t1 k2 ++ (lookup_before later t2 k1 ++ lookup_before earlier t1 k1))

-- The lookups that a call makes. Those of bat-time "are at t2 - 1 and, with t1 above 0, at t1 - 1" (Paper 4), in the tree of time
abbrev pub lookups_of : Call → List PointLookup
lookups_of opening = []
lookups_of (start tick key weight) = []
lookups_of (end tick number) = []
lookups_of (question k1 k2 t1 t2) = band_lookups Starts Ends k1 k2 t1 t2
lookups_of (bat_time k1 k2 t1 t2) = band_lookups Time Time k1 k2 t1 t2
lookups_of (lookup_in tree t k) = record { tree = tree; tick = t; key = k } ∷ []

abbrev pub lookup_grounds : Store → List PointLookup → List Ground
lookup_grounds s ls = map (λ (l : PointLookup). is_spoiled (found_in s l) gives 26) ls

-- "A question's pages opened are the sum over its lookups, a page on two paths counted twice."
abbrev pub pages_in : Store → List PointLookup → ℕ
pages_in s [] = 0
pages_in s (l ∷ ls) = pages_of (found_in s l) + pages_in s ls

abbrev pub value_before : Store → TreeName → (t k : ℕ) → Value
value_before s tree t k = cond (none_precede t k) zero (value_of (found_in s (points_before tree t k)))

-- "starts(t2 - 1, k2 - 1) - ends(t1 - 1, k2 - 1) - starts(t2 - 1, k1 - 1) + ends(t1 - 1, k1 - 1)", by Paper 2
abbrev pub question_value : Store → (k1 k2 t1 t2 : ℕ) → Value
question_value s k1 k2 t1 t2 =
    plus
    (minus (minus (value_before s Starts t2 k2) (value_before s Ends t1 k2)) (value_before s Starts t2 k1))
    (value_before s Ends t1 k1)

-- A lookup of the tree of time stands for "the factor of t" times the tick that was looked up, with "the constant", modulo 2^64 (Paper 4); where none is made, for nothing
abbrev pub line_before : Store → (t k : ℕ) → ℕ
line_before s t k = line_at (value_before s Time t k) (t - 1)

-- The four of them, as those of a question
unfoldable pub bat_time_total : Store → (k1 k2 t1 t2 : ℕ) → ℕ
bat_time_total s k1 k2 t1 t2 =
    add_words
    (subtract_words (subtract_words (line_before s t2 k2) (line_before s t1 k2)) (line_before s t2 k1))
    (line_before s t1 k1)
