-- What entering a point into a page of the model promises: the trees that stand in for the page, how full they are, what they cost,
-- and that nothing else is touched.
use Prim.Native.Nat.{ℕ, zero, suc, ◌+◌, ◌-◌, ◌*◌, ◌≤◌, ◌<◌}
use mathlib.Core.Path.{◌≡◌}
use mathlib.Core.List.{List, [], ◌∷◌}
use mathlib.Core.Logic.{◌⊎◌}
use mathlib.Core.Bool.{Bool, true, false}
use lib.ListN.{length}
use Rattle.words.specs.Words.{open_end}
pub use Rattle.words.specs.Lists.{All}
use Rattle.tree.proofs.ModelPages.{◌≈◌, Row, Page}
use Rattle.tree.proofs.ModelTrees.{Slot, Tree, Alike}
use Rattle.tree.proofs.ModelSteps.{Parts, stay, copy, two, Outcome}
use Rattle.tree.proofs.TakenPages.{After}

-- Page x holds over keys lo up to hi, as H says, a tree whose lookups W are L, and of all that G holds
abbrev pub Made : {X : Type 0} → (ℕ → ℕ → ℕ → X → Type 0) → (X → ℕ → ℕ) → (ℕ → ℕ) → (ℕ → ℕ → ℕ → X → Type 0) → ℕ → ℕ → ℕ → Type 0
Made {X} H W L G lo hi x = (tr : X) × H lo hi x tr × ((q : ℕ) → lo ≤ q → q < hi → W tr q ≈ L q) × G lo hi x tr

-- The pages that stand in for page p; G is told whether there are two, and of each its key range, its number and its tree
abbrev pub Yields : {X : Type 0} → (ℕ → ℕ → ℕ → X → Type 0) → (X → ℕ → ℕ) → (ℕ → ℕ) → (Bool → ℕ → ℕ → ℕ → X → Type 0) → ℕ → ℕ → ℕ → Parts → Type 0
Yields H W L G lo hi p stay = Made H W L (G false) lo hi p
Yields H W L G lo hi p (copy x) = Made H W L (G false) lo hi x
Yields H W L G lo hi p (two x y m) = Made H W L (G true) lo m x × Made H W L (G true) m hi y

-- The rows of the topmost page
abbrev pub slot_count : (n : ℕ) → Tree n → ℕ
slot_count zero tr = length tr
slot_count (suc n) tr = length tr

-- Each page below the topmost has at least 20 live rows, and each leaf row starts at a known key
abbrev pub Full : (ℕ → Type 0) → (n : ℕ) → Tree n → Type 0
Full IsKnown zero tr = All (λ y. IsKnown y.entry.low) tr
Full IsKnown (suc n) tr = All (λ y. Full IsKnown n y.below × (20 ≤ slot_count n y.below)) tr

abbrev pub Filled : (ℕ → Type 0) → (n : ℕ) → Slot (Tree n) → Type 0
Filled IsKnown n y = Full IsKnown n y.below × (20 ≤ slot_count n y.below)

-- The potential of a page with r rows, l of them live. A page costs 18; a point brings 5 to a leaf and 1 to each page above.
abbrev pub leaf_potential : ℕ → ℕ → ℕ
leaf_potential r l = 2 * (r - l) + 3 * (l - 20)

abbrev pub index_potential : ℕ → ℕ → ℕ
index_potential r l = (r - l) + 2 * (l - 20)

abbrev pub sum_below : {A : Type 0} → (ℕ → A → ℕ) → List (Slot A) → ℕ
sum_below R [] = 0
sum_below R (y ∷ ys) = R y.entry.page y.below + sum_below R ys

abbrev pub potential : (n : ℕ) → (ℕ → Page) → ℕ → Tree n → ℕ
potential zero s p tr = leaf_potential (length (s p).rows) (length tr) + sum_below (λ c x. 0) tr
potential (suc n) s p tr = index_potential (length (s p).rows) (length tr) + sum_below (potential n s) tr

-- The pages that stand in for page p cost no more than B, with what the rows for them in the parent will cost
abbrev pub Cost : {X : Type 0} (H : ℕ → ℕ → ℕ → X → Type 0) (W : X → ℕ → ℕ) (L : ℕ → ℕ) (G : Bool → (lo hi page : ℕ) → X → Type 0) (lo hi p : ℕ)
    → (ℕ → X → ℕ) → ℕ → ℕ → (parts : Parts) → Yields H W L G lo hi p parts → Type 0
Cost H W L G lo hi p R u B stay y = R p y.0 + 18 * u ≤ B
Cost H W L G lo hi p R u B (copy x) y = R x y.0 + 1 + 18 * u ≤ B
Cost H W L G lo hi p R u B (two x z m) y = R x y.0.0 + R z y.1.0 + 3 + 18 * u ≤ B

-- By tick t each row was born, and has ended, at a later tick than its birth, or is open
abbrev pub Over : ℕ → Row → Type 0
Over t r = (r.birth < r.end) × (r.end ≤ t)

abbrev pub Settled : ℕ → List Row → Type 0
Settled t [] = Unit {0}
Settled t (r ∷ rs) = (r.birth ≤ t) × (Over t r ⊎ (r.end ≡ open_end)) × Settled t rs

-- A page that entering a point under keys lo up to hi at level n leaves alone: so no page is reached in two ways
abbrev pub Apart : ℕ → ℕ → ℕ → Page → Type 0
Apart n lo hi g = (n < g.level) ⊎ ((g.low < lo) ⊎ (hi ≤ g.low))

-- Entering a point at tick t into page p of the store s, of which the pages In were in use, u of them counted; `alloc` allocates. Those that are
-- left alone stay in use, and those that are older than t.
pub record EnterResult {X : Type 0} (H : (s : ℕ → Page) → (In : ℕ → Type 0) → (lo hi p : ℕ) → X → Type 0) (W : X → ℕ → ℕ)
    (R : (ℕ → Page) → ℕ → X → ℕ) (n t : ℕ) (s : ℕ → Page) (In : ℕ → Type 0) (alloc : ℕ → ℕ) (u lo hi p : ℕ) (L : ℕ → ℕ) (G : Bool → (lo hi page : ℕ) → X → Type 0)
    (B : ℕ) (o : Outcome) : Type 0 where
  pub yields : Yields (H o.store (After In alloc o.made)) W L G lo hi p o.parts
  pub spent : Cost (H o.store (After In alloc o.made)) W L G lo hi p (R o.store) (u + o.made) B o.parts yields
  pub stays : (x : ℕ) → In x → Apart n lo hi (s x) → After In alloc o.made x
  pub older : (x : ℕ) → In x → (s x).birth < t → After In alloc o.made x
  pub frame : (x : ℕ) → In x → Apart n lo hi (s x) → o.store x ≡ s x
  pub past : (w x : ℕ) → w < t → In x → Alike w (o.store x) (s x)
  pub settled : ((x : ℕ) → In x → Settled t (s x).rows) → (x : ℕ) → After In alloc o.made x → Settled t (o.store x).rows
