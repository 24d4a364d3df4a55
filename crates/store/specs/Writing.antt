-- What a call that writes does: opening, and the points that a start or an end enters.
use Rattle.std.specs.Prelude.{ℕ, ◌+◌, ◌*◌, ◌-◌, ◌%◌, ◌^◌, List, [], ◌∷◌, ◌++◌, map, Bool, true, false, ◌||◌, length, take, drop, set, leb, ltb, Option, Some, None, Result, Ok, Err}
use Rattle.words.specs.Value.{subtract_words, line}
use Rattle.tree.specs.Row.{page_words}
use Rattle.tree.specs.declared.types.Plan.{Plan}
use Rattle.tree.specs.declared.types.SpoiledPage.{SpoiledPage}
use Rattle.tree.specs.declared.types.RootChange.{RootChange}
use Rattle.tree.specs.declared.types.RootChange.TheVariants.{Kept, Added, Replaced}
use Rattle.tree.specs.Tree.{Tree, pages_left}
use Rattle.tree.specs.RowSteps.{Point}
use Rattle.tree.specs.Plan.{plan, enter}
use Rattle.tree.specs.Opened.{opened_tree}
use Rattle.store.specs.declared.types.OpenPass.{OpenPass}
use Rattle.store.specs.declared.types.FoundPass.{FoundPass}
use Rattle.store.specs.declared.types.TreeName.{TreeName}
use Rattle.store.specs.declared.types.TreeName.TheVariants.{Starts, Ends, Time}
use Rattle.store.specs.declared.types.Head.{Head}
use Rattle.store.specs.Trees.{LentTree, Lent, lent_to, lent_by_name, Store, tree_in, with_tree, some_tree}
use Rattle.store.specs.Head.{pass_of, no_pass, opened_head}
use Rattle.store.specs.Calls.{Call, opening, start, end, question, bat_time, lookup_in}
use Rattle.store.specs.Refusals.{Ground, ◌gives◌}

-- "8 on opening, a page table under 260 words or an empty root list."
abbrev pub too_small : LentTree → Bool
too_small t = ltb (length t.table) page_words || ltb (length t.roots) 1

abbrev pub lends_too_little : Lent → Bool
lends_too_little m = some_tree (λ (name : TreeName). too_small (lent_to m name))

-- "Opening makes in each tree page 0 .. and the first root entry; it alters no other word." (`opened_tree`)
abbrev pub opened_over : LentTree → LentTree
opened_over t = record { table = (opened_tree t.table t.roots).table; roots = (opened_tree t.table t.roots).roots }

-- It sees no head
abbrev pub opened_store : Lent → Store
opened_store m = record { head = opened_head; lent = lent_by_name (λ (name : TreeName). opened_over (lent_to m name)) }

-- "A point is a tick, a key, a count of 1 and a weight."
abbrev pub point_of : (tick key weight : ℕ) → Point
point_of tick key weight = record { tick = tick; key = key; value = record { count = 1; sum = weight } }

-- "Its points carry in words 2 and 3, modulo 2^64, the factor of t and the constant: for weight w, w and w - w × s at a start, -w and w × e at an end." (document 02, Paper 4)
abbrev pub time_at_start : (tick key weight : ℕ) → Point
time_at_start tick key weight = record { tick = tick; key = key; value = line weight (subtract_words weight (weight * tick)) }

abbrev pub time_at_end : (tick key weight : ℕ) → Point
time_at_end tick key weight = record { tick = tick; key = key; value = line (subtract_words 0 weight) (weight * tick % 2 ^ 64) }

-- A point that a call enters, and the tree that takes it
pub record Entry : Type 0 where
  pub tree : TreeName
  pub point : Point

abbrev pub end_entries : ℕ → Option FoundPass → List Entry
end_entries tick None = []
end_entries tick (Some found) =
    record { tree = Ends; point = point_of tick found.pass.key found.pass.weight } ∷ (record { tree = Time; point = time_at_end tick found.pass.key found.pass.weight } ∷ [])

-- "A pass is a point of the starts tree at its start and, once ended, a point of the ends tree at its end." The third tree "takes a point at every start and end" (Paper 4)
abbrev pub entries_of : Head → Call → List Entry
entries_of h opening = []
entries_of h (start tick key weight) =
    record { tree = Starts; point = point_of tick key weight } ∷ (record { tree = Time; point = time_at_start tick key weight } ∷ [])
entries_of h (end tick number) = end_entries tick (pass_of h number)
entries_of h (question k1 k2 t1 t2) = []
entries_of h (bat_time k1 k2 t1 t2) = []
entries_of h (lookup_in tree t k) = []

-- What an entry would do, and the tree that it would do it to. "Starts and ends check all trees that they write before writing any" (Paper 4): each entry is planned of
-- the store that the call found.
abbrev pub plan_of : Store → Entry → Result Plan SpoiledPage
plan_of s e = plan (tree_in s e.tree) e.point

-- "26 spoiled page met"
abbrev pub plan_spoiled : Result Plan SpoiledPage → Bool
plan_spoiled (Err e) = true
plan_spoiled (Ok p) = false

-- "27 the pages this call makes outnumber those left"
abbrev pub lacks_pages : Tree → Result Plan SpoiledPage → Bool
lacks_pages t (Err e) = false
lacks_pages t (Ok p) = ltb (pages_left t) p.made

-- "28 a new root entry finds the list full."
abbrev pub root_list_full : Tree → Bool
root_list_full t = leb (length t.roots) t.used.roots

abbrev pub lacks_place : Tree → RootChange → Bool
lacks_place t Kept = false
lacks_place t Added = root_list_full t
lacks_place t Replaced = false

abbrev pub lacks_root : Tree → Result Plan SpoiledPage → Bool
lacks_root t (Err e) = false
lacks_root t (Ok p) = lacks_place t p.root

-- "each list in number order": 26 of any entry, then 27 of any, then 28 of any. "a call that writes several trees lacks pages if one of them does"
abbrev pub entry_grounds : Store → List Entry → List Ground
entry_grounds s es =
    map (λ (e : Entry). plan_spoiled (plan_of s e) gives 26) es
    ++ (map (λ (e : Entry). lacks_pages (tree_in s e.tree) (plan_of s e) gives 27) es
    ++ map (λ (e : Entry). lacks_root (tree_in s e.tree) (plan_of s e) gives 28) es)

abbrev pub enter_all : Store → List Entry → Store
enter_all s [] = s
enter_all s (e ∷ es) = enter_all (with_tree s e.tree (enter (tree_in s e.tree) e.point)) es

-- The head after a start, of a head whose trees took its points
abbrev pub started_head : Head → (tick key weight : ℕ) → Head
started_head h tick key weight =
    record {
      last = tick;
      started = h.started + 1;
      count = h.count + 1;
      passes = set h.passes h.count (record { number = h.started; key = key; weight = weight; start = tick });
      starts = h.starts;
      ends = h.ends;
      time = h.time;
    }

-- "Ending a pass closes up the list and zeroes the place set free."
abbrev pub closed_up : List OpenPass → (place count : ℕ) → List OpenPass
closed_up passes place count = take place passes ++ (take (count - (place + 1)) (drop (place + 1) passes) ++ (no_pass ∷ drop count passes))

abbrev pub passes_without : Head → Option FoundPass → List OpenPass
passes_without h None = h.passes
passes_without h (Some found) = closed_up h.passes found.place h.count

-- The head after an end
abbrev pub ended_head : Head → ℕ → Option FoundPass → Head
ended_head h tick found =
    record {
      last = tick;
      started = h.started;
      count = h.count - 1;
      passes = passes_without h found;
      starts = h.starts;
      ends = h.ends;
      time = h.time;
    }
