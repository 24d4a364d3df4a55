-- The refusal lists are in order: "Input refusals come first, then state ones, each list in number order".
use Prim.Native.Nat.{ℕ, ◌≤◌}
use native.Mathlib.Omega.{arith}
use mathlib.Core.Bool.{Bool}
use mathlib.Core.List.{List, [], ◌∷◌, ◌++◌}
use Rattle.words.specs.Lists.{All}
use Rattle.tree.proofs.Lists.{all_map}
use Rattle.store.specs.Trees.{Store, tree_in}
use Rattle.store.specs.Calls.{Call, opening, start, end, question, bat_time, lookup_in}
use Rattle.store.specs.Refusals.{Ground}
use Rattle.store.specs.Grounds.{Known, argument_grounds, state_grounds}
use Rattle.store.specs.Writing.{Entry, plan_of, plan_spoiled, lacks_pages, lacks_root, entries_of, entry_grounds}
use Rattle.store.specs.Reading.{is_spoiled, PointLookup, found_in, lookups_of, lookup_grounds}
use Rattle.store.specs.Performing.{head_knows, opens_over_too_little, head_unfit, page_grounds, grounds}
use Rattle.store.proofs.RefusalLaws.{each}

-- Numbers that rise, from one number to another
abbrev pub Rises : ℕ → List Ground → ℕ → Type 0
Rises from [] to = from ≤ to
Rises from (g ∷ gs) to = (from ≤ g.number) × Rises g.number gs to

rises_on : (from to more : ℕ) (gs hs : List Ground) → Rises from gs to → Rises to hs more → Rises from (gs ++ hs) more
rises_on from to more [] [] h k = omega (arith, h, k)
rises_on from to more [] (x ∷ hs) h k = (omega (arith, h, k.0), k.1)
rises_on from to more (g ∷ gs) hs h k = (h.0, rises_on g.number to more gs hs h.1 k)

rises_each : {A : Type 0} (test : A → Bool) (from n : ℕ) → from ≤ n → (xs : List A) → Rises from (each test n xs) n
rises_each test from n h [] = h
rises_each test from n h (x ∷ xs) = (h, rises_each test n n (omega arith) xs)

-- From a lower number on
rises_from_lem : (less from to : ℕ) (gs : List Ground) → less ≤ from → Rises from gs to → Rises less gs to
rises_from_lem less from to [] l h = omega (arith, l, h)
rises_from_lem less from to (g ∷ gs) l h = (omega (arith, l, h.0), h.1)

rises_most : (from to : ℕ) (gs : List Ground) → Rises from gs to → from ≤ to
rises_most from to [] h = h
rises_most from to (g ∷ gs) h = omega (arith, h.0, rises_most g.number to gs h.1)

-- and lie between the two
abbrev pub Between : (from to : ℕ) → Ground → Type 0
Between from to g = (from ≤ g.number) × (g.number ≤ to)

pub rises_between : (from to : ℕ) (gs : List Ground) → Rises from gs to → All (Between from to) gs
rises_between from to [] h = tt
rises_between from to (g ∷ gs) h = (
  (h.0, rises_most g.number to gs h.1),
  all_map (Between g.number to) (Between from to) (λ x b. (omega (arith, h.0, b.0), b.1)) gs (rises_between g.number to gs h.1),
)

pub arguments_rise : (c : Call) → Rises 1 (argument_grounds c) 5
arguments_rise opening = omega arith
arguments_rise (start tick key weight) = (omega arith, (omega arith, (omega arith, omega arith)))
arguments_rise (end tick number) = (omega arith, omega arith)
arguments_rise (question k1 k2 t1 t2) = (omega arith, (omega arith, (omega arith, omega arith)))
arguments_rise (bat_time k1 k2 t1 t2) = (omega arith, (omega arith, (omega arith, omega arith)))
arguments_rise (lookup_in tree t k) = (omega arith, (omega arith, omega arith))

pub states_rise : (known : Known) (c : Call) → Rises 21 (state_grounds known c) 25
states_rise known opening = omega arith
states_rise known (start tick key weight) = (omega arith, (omega arith, (omega arith, omega arith)))
states_rise known (end tick number) = (omega arith, (omega arith, omega arith))
states_rise known (question k1 k2 t1 t2) = omega arith
states_rise known (bat_time k1 k2 t1 t2) = omega arith
states_rise known (lookup_in tree t k) = omega arith

module _ (s : Store) where
  abbrev spoils : Entry → Bool
  spoils e = plan_spoiled (plan_of s e)

  abbrev short : Entry → Bool
  short e = lacks_pages (tree_in s e.tree) (plan_of s e)

  abbrev crowded : Entry → Bool
  crowded e = lacks_root (tree_in s e.tree) (plan_of s e)

  entries_rise : (es : List Entry) → Rises 26 (entry_grounds s es) 28
  entries_rise es =
      rises_on 26 26 28 (each spoils 26 es) (each short 27 es ++ each crowded 28 es) (rises_each spoils 26 26 (omega arith) es)
      (rises_on 26 27 28 (each short 27 es) (each crowded 28 es) (rises_each short 26 27 (omega arith) es) (rises_each crowded 27 28 (omega arith) es))

  pub pages_rise : (c : Call) → Rises 26 (page_grounds s c) 28
  pages_rise c =
      rises_on 26 26 28 (lookup_grounds s (lookups_of c)) (entry_grounds s (entries_of s.head c))
      (rises_each (λ (l : PointLookup). is_spoiled (found_in s l)) 26 26 (omega arith) (lookups_of c)) (entries_rise (entries_of s.head c))

pub in_number_order : (s : Store) (c : Call) → Rises 1 (grounds s c) 28
in_number_order s c =
    let state = state_grounds (head_knows s.head c) c in
    let later = rises_on 21 25 28 state (page_grounds s c) (states_rise (head_knows s.head c) c) (rises_from_lem 25 26 28 (page_grounds s c) (omega arith) (pages_rise s c)) in
    rises_on 1 5 28 (argument_grounds c) (opens_over_too_little s c ∷ (head_unfit s c ∷ (state ++ page_grounds s c))) (arguments_rise c)
    (omega arith, (omega arith, rises_from_lem 20 21 28 (state ++ page_grounds s c) (omega arith) later))
