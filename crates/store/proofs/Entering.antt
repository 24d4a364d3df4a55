-- The grounds of the points that a call enters: 26 never, then 27, 28, or room for all of them.
use Prim.Native.Nat.{ℕ, ◌≤◌, ◌<◌}
use native.Mathlib.Omega.{arith}
use mathlib.Core.Path.{◌≡◌, refl, ap, sym, subst, ◌∙◌}
use mathlib.Core.Bool.{Bool, true, false, false≢true}
use mathlib.Core.List.{List, [], ◌∷◌, ◌++◌, append-nil}
use mathlib.Core.Logic.{◌⊎◌, inl, inr}
use lib.ListN.{length}
use borrow.Author.Tests.{ltb-true, ltb-false, leb-true, leb-false}
use Rattle.std.specs.Prelude.{Result, Ok, Err}
use Rattle.words.specs.Lists.{All}
use Rattle.tree.specs.declared.types.Plan.{Plan}
use Rattle.tree.specs.declared.types.SpoiledPage.{SpoiledPage}
use Rattle.tree.specs.declared.types.RootChange.{RootChange}
use Rattle.tree.specs.declared.types.RootChange.TheVariants.{Kept, Added, Replaced}
use Rattle.tree.specs.Tree.{Tree, pages_left}
use Rattle.tree.specs.Plan.{ready, plan}
use Rattle.tree.specs.RowSteps.{Point}
use Rattle.tree.specs.Grown.{Room}
use Rattle.store.specs.Trees.{Store, tree_in}
use Rattle.store.specs.Refusals.{first_met}
use Rattle.store.specs.Writing.{Entry, plan_of, plan_spoiled, lacks_pages, root_list_full, lacks_place, lacks_root, entry_grounds}
use Rattle.store.specs.Demand.{pages_made, new_root, PagesLack, ListFull}
use Rattle.store.proofs.RefusalLaws.{each, each_none, EachCase, each_case, some_map, none_some}

-- The tests of 27 and 28, in the plan's numbers
abbrev Lacks : Tree → Result Plan SpoiledPage → Type 0
Lacks t p = pages_left t < pages_made p

abbrev Full : Tree → Result Plan SpoiledPage → Type 0
Full t p = (new_root p ≡ Added) × (length t.roots ≤ t.used.roots)

lacks : (t : Tree) (p : Result Plan SpoiledPage) → lacks_pages t p ≡ true → Lacks t p
lacks t (Err s) e = absurd (false≢true e)
lacks t (Ok p) e = ltb-true (pages_left t) p.made e

enough : (t : Tree) (p : Result Plan SpoiledPage) → lacks_pages t p ≡ false → Lacks t p → ⊥
enough t (Err s) e h = omega (arith, h)
enough t (Ok p) e h = omega (arith, h, ltb-false (pages_left t) p.made e)

pub kept_not_added : Kept ≡ Added → ⊥
kept_not_added e = subst pick e tt
  where
    pick : RootChange → Type 0
    pick Kept = Unit {0}
    pick Added = ⊥
    pick Replaced = ⊥

pub replaced_not_added : Replaced ≡ Added → ⊥
replaced_not_added e = subst pick e tt
  where
    pick : RootChange → Type 0
    pick Kept = ⊥
    pick Added = ⊥
    pick Replaced = Unit {0}

full : (t : Tree) (p : Result Plan SpoiledPage) → lacks_root t p ≡ true → Full t p
full t (Err s) e = absurd (false≢true e)
full t (Ok p) e = go p.root e
  where
    go : (r : RootChange) → lacks_place t r ≡ true → (r ≡ Added) × (length t.roots ≤ t.used.roots)
    go Kept f = absurd (false≢true f)
    go Added f = (refl, leb-true (length t.roots) t.used.roots f)
    go Replaced f = absurd (false≢true f)

placed : (t : Tree) (p : Result Plan SpoiledPage) → lacks_root t p ≡ false → Full t p → ⊥
placed t (Err s) e h = kept_not_added h.0
placed t (Ok p) e h = go p.root e h
  where
    go : (r : RootChange) → lacks_place t r ≡ false → (r ≡ Added) × (length t.roots ≤ t.used.roots) → ⊥
    go Kept f h = kept_not_added h.0
    go Added f h = omega (arith, h.1, leb-false (length t.roots) t.used.roots f)
    go Replaced f h = replaced_not_added h.0

-- A plan that is ready and meets neither has room
pub room_for : (t : Tree) (x : Point) (made : ℕ) (root : RootChange) → plan t x ≡ ready made root
    → lacks_pages t (plan t x) ≡ false → lacks_root t (plan t x) ≡ false → Room t x
room_for t x made root is pages place =
    record {
      made = made;
      root = root;
      planned = is;
      pages = ltb-false (pages_left t) made (sym (ap (lacks_pages t) is) ∙ pages);
      place = λ e. free (sym (ap (lacks_root t) (is ∙ ap (ready made) e)) ∙ place);
    }
  where
    free : root_list_full t ≡ false → t.used.roots < length t.roots
    free f = leb-false (length t.roots) t.used.roots f

module _ (s : Store) where
  abbrev pub PlanReady : Entry → Type 0
  PlanReady e = (made : ℕ) × (root : RootChange) × (plan_of s e ≡ ready made root)

  abbrev pub HasRoom : Entry → Type 0
  HasRoom e = Room (tree_in s e.tree) e.point

  -- The first ground that entries meet, of entries whose plans are ready
  abbrev pub EntryCase : ℕ → List Entry → Type 0
  EntryCase r es =
      ((r ≡ 27) × PagesLack s es)
      ⊎ (((r ≡ 28) × (PagesLack s es → ⊥) × ListFull s es)
      ⊎ ((r ≡ 0) × (PagesLack s es → ⊥) × (ListFull s es → ⊥) × All HasRoom es))

  abbrev spoils : Entry → Bool
  spoils e = plan_spoiled (plan_of s e)

  abbrev short : Entry → Bool
  short e = lacks_pages (tree_in s e.tree) (plan_of s e)

  abbrev crowded : Entry → Bool
  crowded e = lacks_root (tree_in s e.tree) (plan_of s e)

  never_spoiled : (es : List Entry) → All PlanReady es → All (λ (e : Entry). spoils e ≡ false) es
  never_spoiled [] h = tt
  never_spoiled (e ∷ es) h = (ap plan_spoiled h.0.2, never_spoiled es h.1)

  rooms : (es : List Entry) → All PlanReady es → All (λ (e : Entry). short e ≡ false) es → All (λ (e : Entry). crowded e ≡ false) es → All HasRoom es
  rooms [] h p q = tt
  rooms (e ∷ es) h p q =
      (room_for (tree_in s e.tree) e.point h.0.0 h.0.1 h.0.2 p.0 q.0, rooms es h.1 p.1 q.1)

  none_lack : (es : List Entry) → All (λ (e : Entry). short e ≡ false) es → PagesLack s es → ⊥
  none_lack es h = none_some _ es (go es h)
    where
      go : (es : List Entry) → All (λ (e : Entry). short e ≡ false) es → All (λ (e : Entry). Lacks (tree_in s e.tree) (plan_of s e) → ⊥) es
      go [] h = tt
      go (e ∷ es) h = (enough (tree_in s e.tree) (plan_of s e) h.0, go es h.1)

  none_full : (es : List Entry) → All (λ (e : Entry). crowded e ≡ false) es → ListFull s es → ⊥
  none_full es h = none_some _ es (go es h)
    where
      go : (es : List Entry) → All (λ (e : Entry). crowded e ≡ false) es → All (λ (e : Entry). Full (tree_in s e.tree) (plan_of s e) → ⊥) es
      go [] h = tt
      go (e ∷ es) h = (placed (tree_in s e.tree) (plan_of s e) h.0, go es h.1)

  pub entry_case : (es : List Entry) → All PlanReady es → EntryCase (first_met (entry_grounds s es)) es
  unfolding first_met
  entry_case es ready = pages (each_case short 27 es (each crowded 28 es))
    where
      sound : first_met (entry_grounds s es) ≡ first_met (each short 27 es ++ each crowded 28 es)
      sound = each_none spoils 26 es (each short 27 es ++ each crowded 28 es) (never_spoiled es ready)

      last : first_met (each crowded 28 es) ≡ first_met (each crowded 28 es ++ [])
      last = ap first_met (sym (append-nil (each crowded 28 es)))

      places : first_met (entry_grounds s es) ≡ first_met (each crowded 28 es ++ []) → All (λ (e : Entry). short e ≡ false) es
          → EachCase crowded 28 es [] → EntryCase (first_met (entry_grounds s es)) es
      places is enough (inl h) = inr (inl (is ∙ h.0, none_lack es enough, some_map _ _ (λ e f. full (tree_in s e.tree) (plan_of s e) f) es h.1))
      places is enough (inr h) = inr (inr (is ∙ h.0, none_lack es enough, none_full es h.1, rooms es ready enough h.1))

      pages : EachCase short 27 es (each crowded 28 es) → EntryCase (first_met (entry_grounds s es)) es
      pages (inl h) = inl (sound ∙ h.0, some_map _ _ (λ e f. lacks (tree_in s e.tree) (plan_of s e) f) es h.1)
      pages (inr h) = places (sound ∙ h.0 ∙ last) h.1 (each_case crowded 28 es [])
