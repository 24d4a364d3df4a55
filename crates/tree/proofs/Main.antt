-- The theorems about every tree grown from opening by points that were entered in order of time, each with room for it (specs/Grown):
-- 1 sums, 2 past, 3 height, 4 pages, 5 room; then that each row was live at some tick, that there is room enough in a table of known size,
-- and that values never decide the shape.
use Prim.Native.Nat.{ℕ, ◌+◌, ◌*◌, ◌-◌, ◌/◌, ◌^◌, ◌≤◌, ◌<◌, min}
use native.Mathlib.Omega.{arith}
use mathlib.Core.Path.{◌≡◌, refl, sym, ap, ap₂, ◌∙◌, subst}
use mathlib.Core.List.{List, [], ◌∷◌, ◌++◌}
use lib.ListN.{length}
use Rattle.words.specs.Lists.{All}
use Rattle.words.specs.Words.{key_limit, open_end}
use Rattle.words.proofs.Measure.{count_of, count_measure}
use Rattle.tree.specs.declared.types.Row.{Row}
use Rattle.tree.specs.declared.types.RootChange.{RootChange}
use Rattle.tree.specs.declared.types.RootChange.TheVariants.{Added}
use Rattle.tree.specs.Row.{rows_of, word}
use Rattle.tree.specs.Use.{page_limit}
use Rattle.tree.specs.Tree.{Tree, page_at, height, whole_pages, top_level, pages_left}
use Rattle.tree.specs.RowSteps.{Point}
use Rattle.tree.specs.Lookup.{found, lookup}
use Rattle.tree.specs.Path.{path}
use Rattle.tree.specs.Plan.{ready, plan, enter}
use Rattle.tree.specs.Enter.{enter_root}
use Rattle.tree.proofs.PathLength.{path_length_lem, pages_at_most_lem}
use Rattle.tree.specs.Grown.{grow, last_tick, InTime, InOrder, Admitted}
use Rattle.tree.specs.PointSums.{different_keys}
use Rattle.tree.specs.PointTotals.{sum_of_points, SameShape}
use Rattle.tree.specs.Alike.{LookAlike}
use Rattle.tree.specs.Taking.{InUse, Takes}
use Rattle.tree.proofs.Growth.{kept, plan_ready, opened_lengths, next_lengths, counts}
use Rattle.tree.proofs.Sums.{lookup_sum_lem}
use Rattle.tree.proofs.Past.{past_path, past_looks, later_sum}
use Rattle.tree.proofs.Lives.{settled_lives}
use Rattle.tree.proofs.Shape.{same_pages, same_path}
use Rattle.tree.proofs.Enough.{has_room}
use Rattle.tree.proofs.AsPlanned.{Does, as_planned}
use Rattle.tree.proofs.Height as height_laws
use Rattle.tree.proofs.PastPages.{path_used, look_same, look_on}
use Rattle.tree.proofs.UseLaws.{place_found_lem, left_after}
use Rattle.tree.proofs.MostMade.{added_some}
use Rattle.tree.proofs.Lists.{all_same, all_both}

last_in_time : (table roots : List ℕ) (points : List Point) → Admitted table roots points → last_tick points < open_end
last_in_time table roots [] h = omega arith
last_in_time table roots (p ∷ points) h = h.0.tick

-- How a grown tree grows
pub grown_more : (table roots : List ℕ) (p : Point) (points : List Point)
    → grow table roots (p ∷ points) ≡ enter (grow table roots points) p
unfolding grow
grown_more table roots p points = refl

-- 1. Sums. "at (t, k) it adds the points with tick ≤ t and key ≤ k, and gives count, weight sum and pages opened":
-- of every grown tree, at ticks past, present and later than the last. 26 never comes, and at most 4 pages are opened.
pub lookup_adds : (table roots : List ℕ) (points : List Point) → Admitted table roots points → (t k : ℕ) → t < open_end → k < key_limit
    → lookup (grow table roots points) t k ≡ found (sum_of_points t k points) (length (path (grow table roots points) t k))
lookup_adds table roots points h t k tick key =
    let e = lookup_sum_lem (grow table roots points) points (kept table roots points h) t k tick key in
    e ∙ ap (found (sum_of_points t k points)) (path_length_lem (grow table roots points) t k e)

pub path_short : (table roots : List ℕ) (points : List Point) → Admitted table roots points → (t k : ℕ) → t < open_end → k < key_limit
    → length (path (grow table roots points) t k) ≤ top_level + 1
path_short table roots points h t k tick key =
    pages_at_most_lem (grow table roots points) t k (lookup_adds table roots points h t k tick key)

-- 2. Past. Entering a point leaves every lookup at an earlier tick its path, its pages opened and its value.
pub past_path_stays : (table roots : List ℕ) (p : Point) (points : List Point) → Admitted table roots (p ∷ points)
    → (t k : ℕ) → t < p.tick → k < key_limit → path (grow table roots (p ∷ points)) t k ≡ path (grow table roots points) t k
unfolding grow
past_path_stays table roots p points h t k early key =
    let k₀ = kept table roots points h.2 in
    let root = k₀.words.roots.found p.tick in
    past_path count_of count_measure (grow table roots points) points p k₀.words (counts k₀) h.0 root.0 root.1 h.1 t k
    early key

pub past_lookup_stays : (table roots : List ℕ) (p : Point) (points : List Point) → Admitted table roots (p ∷ points)
    → (t k : ℕ) → t < p.tick → k < key_limit → lookup (grow table roots (p ∷ points)) t k ≡ lookup (grow table roots points) t k
past_lookup_stays table roots p points h t k early key =
    let tick : t < open_end = omega (arith, h.0.tick) in
    lookup_adds table roots (p ∷ points) h t k tick key
    ∙ ap₂ found (later_sum p points t k early) (ap length (past_path_stays table roots p points h t k early key))
    ∙ sym (lookup_adds table roots points h.2 t k tick key)

-- The same for any number of later points
pub past_stays : (table roots : List ℕ) (later points : List Point) → Admitted table roots (later ++ points) → (t k : ℕ)
    → All (λ (p : Point). t < p.tick) later → k < key_limit
    → (path (grow table roots (later ++ points)) t k ≡ path (grow table roots points) t k)
    × (lookup (grow table roots (later ++ points)) t k ≡ lookup (grow table roots points) t k)
past_stays table roots [] points h t k early key = (refl, refl)
past_stays table roots (p ∷ later) points h t k early key =
    let rest = past_stays table roots later points h.2 t k early.1 key in (
      past_path_stays table roots p (later ++ points) h t k early.0 key ∙ rest.0,
      past_lookup_stays table roots p (later ++ points) h t k early.0 key ∙ rest.1,
    )

-- Page by page, after one point: each page then in use shows a reader at an earlier tick the same level, key range and live rows
past_page_stays : (table roots : List ℕ) (p : Point) (points : List Point) → Admitted table roots (p ∷ points)
    → (t x : ℕ) → t < p.tick → InUse (grow table roots points).used x
    → LookAlike t (page_at (grow table roots (p ∷ points)).table x) (page_at (grow table roots points).table x)
unfolding grow
past_page_stays table roots p points h t x early is_in_use =
    let k₀ = kept table roots points h.2 in
    let root = k₀.words.roots.found p.tick in
    past_looks count_of count_measure (grow table roots points) points p k₀.words (counts k₀) h.0 root.0 root.1 h.1 t
    early x is_in_use

-- After any number of later points: each page on the path of a lookup
pub past_pages_stay : (table roots : List ℕ) (later points : List Point) → Admitted table roots (later ++ points) → (t k : ℕ)
    → All (λ (p : Point). t < p.tick) later → k < key_limit
    → All (λ (x : ℕ). LookAlike t (page_at (grow table roots (later ++ points)).table x) (page_at (grow table roots points).table x))
    (path (grow table roots points) t k)
past_pages_stay table roots [] points h t k early key =
    all_same _ (λ x. look_same t (page_at (grow table roots points).table x)) (path (grow table roots points) t k)
past_pages_stay table roots (p ∷ later) points h t k early key =
    all_both _ _ _ (λ x held. look_on t (past_page_stays table roots p (later ++ points) h t x early.0 held.0))
    (path (grow table roots points) t k)
    (subst (All OnPath) (past_stays table roots later points h.2 t k early.1 key).0
    (path_used (grow table roots (later ++ points)) (later ++ points) (kept table roots (later ++ points) h.2) t k (omega (arith, early.0, h.0.tick))
    key))
    (past_pages_stay table roots later points h.2 t k early.1 key)
  where
    OnPath : ℕ → Type 0
    OnPath x = InUse (grow table roots (later ++ points)).used x × (word (page_at (grow table roots (later ++ points)).table x) 3 ≤ t)

-- 3. Height. A tree h > 1 pages high took at least 2 × 20^(h - 1) - 1 different keys above zero; no tree is over 4 pages high.
pub height_took : (table roots : List ℕ) (points : List Point) → Admitted table roots points → 1 < height (grow table roots points)
    → 2 * 20 ^ (height (grow table roots points) - 1) ≤ different_keys points + 1
height_took table roots points h =
    height_laws.height_keys (grow table roots points) points (kept table roots points h) (last_in_time table roots points h)

pub height_at_most : (table roots : List ℕ) (points : List Point) → Admitted table roots points → height (grow table roots points) ≤ top_level + 1
height_at_most table roots points h =
    height_laws.height_low (grow table roots points) points (kept table roots points h) (last_in_time table roots points h)

-- 4. Pages. At most 4 + 4n/9 pages for n points.
pub pages_at_most_used : (table roots : List ℕ) (points : List Point) → Admitted table roots points
    → (grow table roots points).used.pages ≤ 4 + 4 * length points / 9
pages_at_most_used table roots points h =
    height_laws.pages_few (grow table roots points) points (kept table roots points h) (last_in_time table roots points h)

-- 5. Room. The plan for a point in time is never spoiled.
pub plan_never_spoiled : (table roots : List ℕ) (points : List Point) → Admitted table roots points → (p : Point)
    → InTime (last_tick points) p → (made : ℕ) × (root : RootChange) × (plan (grow table roots points) p ≡ ready made root)
plan_never_spoiled table roots points h p time =
    let k = kept table roots points h in
    let root = k.words.roots.found p.tick in
    let tree = grow table roots points in (
      (enter_root tree p root.0).made,
      (enter_root tree p root.0).root,
      plan_ready count_of count_measure tree points p k.words (counts k) time root.0 root.1,
    )

-- What the plan says is what the entry does, of every tree: the pages used grow by the pages that the plan counts
pub entry_does : (tree : Tree) (p : Point) {made : ℕ} {change : RootChange} → plan tree p ≡ ready made change
    → Does tree made change (enter tree p)
entry_does = as_planned

-- The use of a grown tree fits what is lent with it
pub record UseFits (tree : Tree) : Type 0 where
  pub some_pages : 1 ≤ tree.used.pages
  pub some_roots : 1 ≤ tree.used.roots
  pub pages_limit : tree.used.pages ≤ page_limit
  pub pages_held : tree.used.pages ≤ whole_pages tree.table
  pub roots_pages : tree.used.roots ≤ tree.used.pages
  pub roots_listed : tree.used.roots ≤ length tree.roots

pub fits_takes : {tree : Tree} → UseFits tree → Takes tree.used
fits_takes fit = record { used_few = fit.pages_limit }

pub use_fits_lem : (table roots : List ℕ) (points : List Point) → Admitted table roots points → UseFits (grow table roots points)
use_fits_lem table roots points h =
    let w = (kept table roots points h).words in
    record {
      some_pages = omega (arith, w.roots.some, w.roots.fewer);
      some_roots = w.roots.some;
      pages_limit = w.takes.used_few;
      pages_held = omega (arith, w.pages);
      roots_pages = w.roots.fewer;
      roots_listed = w.roots.listed;
    }

-- A root list of as many words as its tree has whole pages, at most 1,000,000, always has a place for a new root entry: of every tree whose use
-- fits, a spoiled one too
pub added_place : (tree : Tree) (p : Point) {made : ℕ} → UseFits tree → min (whole_pages tree.table) page_limit ≤ length tree.roots
    → plan tree p ≡ ready made Added → made ≤ pages_left tree → tree.used.roots < length tree.roots
added_place tree p {made} fit long e left =
    place_found_lem tree.used made (length tree.roots) fit.roots_pages (added_some tree p e)
    (omega (arith, left_after tree (fits_takes fit) fit.pages_held made left, long))

-- The table and the list keep their lengths
pub lengths_stay : (table roots : List ℕ) (points : List Point) → Admitted table roots points
    → (length (grow table roots points).table ≡ length table) × (length (grow table roots points).roots ≡ length roots)
unfolding grow
lengths_stay table roots [] h = opened_lengths table roots h.0 h.1
lengths_stay table roots (p ∷ points) h =
    let k₀ = kept table roots points h.2 in
    let root = k₀.words.roots.found p.tick in
    let next =
    next_lengths count_of count_measure (grow table roots points) points p k₀.words (counts k₀) h.0 root.0 root.1
    h.1 in
    let rest = lengths_stay table roots points h.2 in
    (next.0 ∙ rest.0, next.1 ∙ rest.1)

-- Lives: "A row born at t is altered where it is, not ended", so no row of a page in use ends at its own tick of birth.
pub rows_live : (table roots : List ℕ) (points : List Point) → Admitted table roots points → (x : ℕ)
    → InUse (grow table roots points).used x → All (λ (r : Row). r.birth < r.end) (rows_of (page_at (grow table roots points).table x))
rows_live table roots points h x is_in_use =
    settled_lives count_of (last_tick points) (last_in_time table roots points h) (rows_of (page_at (grow table roots points).table x))
    ((counts (kept table roots points h)).settled x is_in_use)

-- Room enough: a table of 4 + 4n/9 pages and a root list of as many words take any n points in order of time
pub room_enough : (table roots : List ℕ) (points : List Point) → InOrder points
    → 4 + 4 * length points / 9 ≤ min (whole_pages table) page_limit → 4 + 4 * length points / 9 ≤ length roots → Admitted table roots points
room_enough table roots [] order pages list = (omega arith, omega arith)
room_enough table roots (p ∷ points) order pages list =
    let before = room_enough table roots points order.1 (omega arith) (omega arith) in
    let k₀ = kept table roots points before in
    let root = k₀.words.roots.found p.tick in
    let lengths = lengths_stay table roots points before in
    let room =
    has_room (grow table roots points) points p k₀.words (counts k₀) order.0 root.0 root.1
    (rw lengths.0 pages) (rw lengths.1 list) in
    (order.0, room, before)

-- Shape before value: two lists of points with the same ticks and keys make the same pages, and every lookup has the same path
pub shape_alike : (table roots : List ℕ) (points others : List Point) → SameShape points others → Admitted table roots points
    → Admitted table roots others
    → ((grow table roots points).used.pages ≡ (grow table roots others).used.pages)
    × ((t k : ℕ) → t < open_end → k < key_limit → path (grow table roots points) t k ≡ path (grow table roots others) t k)
shape_alike table roots points others same h i =
    (same_pages table roots points others same h i, same_path table roots points others same h i)
