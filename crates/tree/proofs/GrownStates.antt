-- What holds of every state of the model that took points in order of time.
use Prim.Native.Nat.{ℕ, suc, zero, ◌+◌, ◌≤◌, ◌<◌, ◌-◌, ◌*◌}
use native.Mathlib.Omega.{arith}
use native.Mathlib.Decide.{ℕ_discrete}
use mathlib.Core.Path.{◌≡◌, refl, ap, sym, ◌∙◌, subst}
use mathlib.Core.List.{List, [], ◌∷◌}
use mathlib.Core.Bool.{cond}
use mathlib.Core.Logic.{◌⊎◌, inl, inr}
use lib.Dec.{leb}
use Rattle.words.specs.Words.{open_end, key_limit}
use Rattle.tree.proofs.HeldTrees.{holds_frame, holds_move, tree_potential_frame}
use Rattle.tree.proofs.ModelPages.{◌≈◌, only_if, Page}
use Rattle.tree.proofs.ModelTrees.{Slot, Tree, lookup_slots, Holds, lookup_tree, Alike, Seen}
use Rattle.tree.proofs.ModelSteps.{enter, Parts, stay, copy, two, Outcome, put_at, new_page, Grown, add_root, top_rows, grown}
use Rattle.tree.proofs.ModelSteps.{entering, opened}
use Rattle.tree.proofs.ModelPromise.{Yields, EnterResult, Settled, Cost, potential, Full, slot_count, All, Filled}
use Rattle.tree.proofs.ReplacedRows.{tests, split, sum_live_later, sum_live_born, settled_born, settled_later}
use Rattle.tree.proofs.SlotLaws.{alike}
use Rattle.tree.proofs.EnteredPages.{enter_keeps, holds_wide}
use Rattle.tree.proofs.LeafRows.{level_low}
use Rattle.tree.proofs.TakenPages.{After, Allocates, untaken, after_more, after_new, after_less}
use Rattle.tree.specs.Tree.{top_level}

-- A version: the tree that page p, as a root, holds at tick t. Its lookups are L.
pub record Version (s : ℕ → Page) (In : ℕ → Type 0) (t : ℕ) (L : ℕ → ℕ) (p : ℕ) : Type 0 where
  pub tree : Tree (s p).level
  pub held : Holds (s p).level s In t 0 key_limit p tree
  pub adds : (q : ℕ) → q < key_limit → lookup_tree (s p).level q tree ≈ L q

-- The version now, full enough, with its potential: C pays for that and for the u pages used, at 18 each
pub record Paid (IsKnown : ℕ → Type 0) (s : ℕ → Page) (In : ℕ → Type 0) (u t : ℕ) (L : ℕ → ℕ) (p C : ℕ) : Type 0 where
  pub tree : Tree (s p).level
  pub held : Holds (s p).level s In t 0 key_limit p tree
  pub adds : (q : ℕ) → q < key_limit → lookup_tree (s p).level q tree ≈ L q
  pub budget : (s p).level ≤ top_level → potential (s p).level s p tree + 18 * u + 18 * (top_level - (s p).level) ≤ C
  pub full : Full IsKnown (s p).level tree
  pub wide : 0 < (s p).level → 2 ≤ slot_count (s p).level tree

pub forget : (IsKnown : ℕ → Type 0) (s : ℕ → Page) (In : ℕ → Type 0) (u t : ℕ) (L : ℕ → ℕ) (p C : ℕ) → Paid IsKnown s In u t L p C
    → Version s In t L p
forget IsKnown s In u t L p C h = record { tree = h.tree; held = h.held; adds = h.adds }

pub low : (IsKnown : ℕ → Type 0) (s : ℕ → Page) (In : ℕ → Type 0) (u t : ℕ) (L : ℕ → ℕ) (p C : ℕ) → Paid IsKnown s In u t L p C
    → (s p).level ≤ top_level
low IsKnown s In u t L p C h = level_low IsKnown (s p).level s In t p h.tree h.held h.full h.wide

-- What holds of a store that took points up to tick t, of which the pages In are in use, u of them, with such a root for each tick.
pub record Invariant (IsKnown : ℕ → Type 0) (t : ℕ) (s : ℕ → Page) (In : ℕ → Type 0) (u : ℕ) (root : ℕ → ℕ) (L : ℕ → ℕ → ℕ) (C : ℕ) : Type 0 where
  pub current : (w : ℕ) → t ≤ w → w < open_end → Paid IsKnown s In u w (L w) (root w) C
  pub versions : (w : ℕ) → w < open_end → Version s In w (L w) (root w)
  pub settled : (x : ℕ) → In x → Settled t (s x).rows
  pub rooted : (w : ℕ) → t ≤ w → root w ≡ root t
  pub steady : (w q : ℕ) → t ≤ w → L w q ≡ L t q
  pub levels : (w : ℕ) → w < open_end → (s (root w)).level ≤ top_level

slots_map : {A : Type 0} (F G : Slot A → Type 0) → ((y : Slot A) → F y → G y) → (tr : List (Slot A)) → All F tr → All G tr
slots_map F G k [] h = tt
slots_map F G k (y ∷ ys) h = (k y h.0, slots_map F G k ys h.1)

pub holds_level : (n : ℕ) (s : ℕ → Page) (In : ℕ → Type 0) (t lo hi p : ℕ) (tr : Tree n) → Holds n s In t lo hi p tr → (s p).level ≡ n
holds_level zero s In t lo hi p tr h = h.level
holds_level (suc n) s In t lo hi p tr h = h.level

pub holds_used : (n : ℕ) (s : ℕ → Page) (In : ℕ → Type 0) (t lo hi p : ℕ) (tr : Tree n) → Holds n s In t lo hi p tr → In p
holds_used zero s In t lo hi p tr h = h.is_in_use
holds_used (suc n) s In t lo hi p tr h = h.is_in_use

pub holds_born : (n : ℕ) (s : ℕ → Page) (In : ℕ → Type 0) (t lo hi p : ℕ) (tr : Tree n) → Holds n s In t lo hi p tr → (s p).birth ≤ t
holds_born zero s In t lo hi p tr h = h.born
holds_born (suc n) s In t lo hi p tr h = h.born

pub full_more : (IsKnown IsKnown' : ℕ → Type 0) → ((x : ℕ) → IsKnown x → IsKnown' x) → (n : ℕ) (tr : Tree n) → Full IsKnown n tr
    → Full IsKnown' n tr
full_more IsKnown IsKnown' wider zero tr h =
    slots_map (λ y. IsKnown y.entry.low) (λ y. IsKnown' y.entry.low) (λ y. wider y.entry.low) tr h
full_more IsKnown IsKnown' wider (suc n) tr h =
    slots_map (Filled IsKnown n) (Filled IsKnown' n) (λ y g. (full_more IsKnown IsKnown' wider n y.below g.0, g.1)) tr h

-- A version from a tree of known level.
version : (n : ℕ) (s : ℕ → Page) (In : ℕ → Type 0) (t : ℕ) (L : ℕ → ℕ) (p : ℕ) (tr : Tree n) → Holds n s In t 0 key_limit p tr
    → ((q : ℕ) → q < key_limit → lookup_tree n q tr ≈ L q) → Version s In t L p
version n s In t L p tr h adds =
    let r =
    subst (λ (m : ℕ). (tr : Tree m) × Holds m s In t 0 key_limit p tr × ((q : ℕ) → q < key_limit → lookup_tree m q tr ≈ L q))
    (sym (holds_level n s In t 0 key_limit p tr h)) (tr, h, adds) in
    record { tree = r.0; held = r.1; adds = r.2 }

paid : (IsKnown : ℕ → Type 0) (n : ℕ) (s : ℕ → Page) (In : ℕ → Type 0) (u t : ℕ) (L : ℕ → ℕ) (p C : ℕ) (tr : Tree n)
    → Holds n s In t 0 key_limit p tr → ((q : ℕ) → q < key_limit → lookup_tree n q tr ≈ L q)
    → (n ≤ top_level → potential n s p tr + 18 * u + 18 * (top_level - n) ≤ C) → Full IsKnown n tr
    → (0 < n → 2 ≤ slot_count n tr) → Paid IsKnown s In u t L p C
paid IsKnown n s In u t L p C tr h adds budget full wide =
    let r =
    subst (λ (m : ℕ). (tr : Tree m) × Holds m s In t 0 key_limit p tr × ((q : ℕ) → q < key_limit → lookup_tree m q tr ≈ L q)
    × (m ≤ top_level → potential m s p tr + 18 * u + 18 * (top_level - m) ≤ C) × Full IsKnown m tr × (0 < m → 2 ≤ slot_count m tr))
    (sym (holds_level n s In t 0 key_limit p tr h)) (tr, h, adds, budget, full, wide) in
    record { tree = r.0; held = r.1; adds = r.2; budget = r.3; full = r.4; wide = r.5 }

-- The same version at a later tick.
paid_later : (IsKnown : ℕ → Type 0) (s : ℕ → Page) (In : ℕ → Type 0) (u t w : ℕ) (L L' : ℕ → ℕ) (p C : ℕ) → t ≤ w
    → ((x : ℕ) → In x → Seen w t (s x) (s x)) → ((q : ℕ) → q < key_limit → L q ≈ L' q) → Paid IsKnown s In u t L p C
    → Paid IsKnown s In u w L' p C
paid_later IsKnown s In u t w L L' p C i k e h =
    record {
      tree = h.tree;
      held = holds_move (s p).level s s In In t w 0 key_limit p h.tree i (λ x a o b c d. (a, k x a)) h.held;
      adds = λ q j. h.adds q j ∙ e q j;
      budget = h.budget;
      full = h.full;
      wide = h.wide;
    }

-- The same version after writes that it does not see. Each page that it may have was born by its tick.
version_move : (s s' : ℕ → Page) (In In' : ℕ → Type 0) (t : ℕ) (L L' : ℕ → ℕ) (p : ℕ)
    → ((x : ℕ) → In x → (s x).birth ≤ t → In' x × Alike t (s' x) (s x)) → ((q : ℕ) → q < key_limit → L q ≈ L' q) → Version s In t L p
    → Version s' In' t L' p
version_move s s' In In' t L L' p k e h =
    version (s p).level s' In' t L' p h.tree
    (holds_frame (s p).level s s' In In' t 0 key_limit p h.tree (λ x a o b c d. k x a o) h.held) (λ q j. h.adds q j ∙ e q j)

later : (s : ℕ → Page) (In : ℕ → Type 0) (t w : ℕ) → t ≤ w → w < open_end → ((x : ℕ) → In x → Settled t (s x).rows) → (x : ℕ) → In x
    → Seen w t (s x) (s x)
later s In t w i j k x l =
    record { level = refl; low = refl; high = refl; birth = refl; rows = λ f. sum_live_later t w f i j (s x).rows (k x l) }

root_later : (t w x : ℕ) (rs : ℕ → ℕ) → t ≤ w → add_root t x rs w ≡ x
root_later t w x rs i = simp tests

root_past : (t w x : ℕ) (rs : ℕ → ℕ) → w < t → add_root t x rs w ≡ rs w
root_past t w x rs i = simp tests

-- The same pages in use, said in another way, and no more of them counted
pub invariant_same : (IsKnown : ℕ → Type 0) (t : ℕ) (s : ℕ → Page) (In In' : ℕ → Type 0) (u u' : ℕ) (root : ℕ → ℕ) (L : ℕ → ℕ → ℕ) (C : ℕ)
    → ((x : ℕ) → In x → In' x) → ((x : ℕ) → In' x → In x) → u' ≤ u → Invariant IsKnown t s In u root L C → Invariant IsKnown t s In' u' root L C
invariant_same IsKnown t s In In' u u' root L C to from i h =
    record {
      current =
          λ w a l. let c = h.current w a l in
          record {
            tree = c.tree;
            held = holds_frame (s (root w)).level s s In In' w 0 key_limit (root w) c.tree (λ x j o b d e. (to x j, alike w refl)) c.held;
            adds = c.adds;
            budget = λ b. omega (arith, c.budget b);
            full = c.full;
            wide = c.wide;
          };
      versions = λ w l. version_move s s In In' w (L w) (L w) (root w) (λ x j o. (to x j, alike w refl)) (λ q j. refl) (h.versions w l);
      settled = λ x j. h.settled x (from x j);
      rooted = h.rooted;
      steady = h.steady;
      levels = h.levels;
    }

-- Step 8.
module _ (t : ℕ) (now : t < open_end) (n : ℕ) (rs : ℕ → ℕ) (s : ℕ → Page) (In : ℕ → Type 0) (alloc : ℕ → ℕ) (allocates : Allocates In alloc)
    (m u : ℕ) (L : ℕ → ℕ) (p : ℕ) (IsKnown : ℕ → Type 0) where
  abbrev Now : ℕ → Type 0
  Now = After In alloc m

  abbrev grew : Parts → Grown
  grew parts = grown t n rs s alloc m parts

  grown_now : (parts : Parts) → rs t ≡ p → (old : ℕ) → (0 < n → 2 ≤ old)
      → (y : Yields (λ a b c x. Holds n s Now t a b c x) (λ l q. lookup_tree n q l) L
      (λ b lo' hi' x l. Full IsKnown n l × (cond b 20 old ≤ slot_count n l)) 0 key_limit p parts)
      → (B : ℕ)
      → Cost (λ a b c x. Holds n s Now t a b c x) (λ l q. lookup_tree n q l) L (λ b lo' hi' x l. Full IsKnown n l × (cond b 20 old ≤ slot_count n l))
      0 key_limit p (potential n s) (u + m) B parts y
      → let st = grew parts in
      Paid IsKnown st.store (After In alloc st.made) (u + st.made) t L (st.root t) (B + 18 * (top_level - n))
  grown_now stay e old many y B b =
      rw e (paid IsKnown n s Now (u + m) t L p _ y.0 y.1 (λ q j. y.2 q (omega arith) j) (λ i. omega arith) y.3.0
      (λ i. omega (arith, many i, y.3.1)))
  grown_now (copy x) e old many y B b =
      rw (root_later t t x rs (omega arith))
      (paid IsKnown n s Now (u + m) t L x _ y.0 y.1 (λ q j. y.2 q (omega arith) j) (λ i. omega arith) y.3.0
      (λ i. omega (arith, many i, y.3.1)))
  grown_now (two x z mid) e old many y B cost =
      let a = holds_wide n s Now t 0 mid x y.0.0 y.0.1 in
      let b = holds_wide n s Now t mid key_limit z y.1.0 y.1.1 in
      let g = new_page t (suc n) 0 key_limit (top_rows x z mid) in
      let s' : ℕ → Page = put_at s (alloc m) g in
      let here : s' (alloc m) ≡ g = simp tests in
      let other_is : (i : ℕ) → After In alloc m i → s' i ≡ s i =
      λ i l. let h : i ≡ alloc m → ⊥ = untaken In alloc allocates m i l m (omega arith) in simp tests in
      let up : (lo hi c : ℕ) (tr : Tree n) → Holds n s Now t lo hi c tr → Holds n s' (After In alloc (suc m)) t lo hi c tr =
      λ lo hi c tr. holds_frame n s s' Now (After In alloc (suc m)) t lo hi c tr
      (λ i l o d f h. (after_more In alloc m (suc m) i (omega arith) l, alike t (other_is i l))) in
      let tr : Tree (suc n) =
      record { entry = record { low = 0; high = mid; amount = 0; page = x }; below = y.0.0 }
      ∷ (record { entry = record { low = mid; high = key_limit; amount = 0; page = z }; below = y.1.0 } ∷ []) in
      rw
      (root_later t t (alloc m) rs (omega arith))
      (paid IsKnown (suc n) s' (After In alloc (suc m)) (u + suc m) t L (alloc m) _ tr
      (record {
        wide = omega arith;
        is_in_use = after_new In alloc m (suc m) (alloc m) (omega arith) refl;
        born = omega (arith, ap (λ (x : Page). x.birth) here);
        level = rw here;
        low = rw here;
        high = rw here;
        same = λ f. rw here (rw (sum_live_born t now f (top_rows x z mid)));
        chain =
            record {
              first = refl;
              some = a;
              under = up 0 mid x y.0.0 y.0.1;
              rest = record
                  { first = refl; some = b; under = up mid key_limit z y.1.0 y.1.1; rest = refl };
            };
      })
      (λ q j. go q (split mid q) j a)
      (λ top. rw (
        here,
        tree_potential_frame n s s' Now t 0 mid x y.0.0 (λ i l d f h. other_is i l) y.0.1,
        tree_potential_frame n s s' Now t mid
            key_limit z y.1.0 (λ i l d f h. other_is i l) y.1.1,
      )
      (omega arith))
      ((y.0.3.0, y.0.3.1), ((y.1.3.0, y.1.3.1), tt))
      (λ i. omega arith))
    where
      go : (q : ℕ) → (mid ≤ q) ⊎ (q < mid) → q < key_limit → 0 < mid
          → lookup_slots {A = Tree n} q (lookup_tree n q)
          (record { entry = record { low = 0; high = mid; amount = 0; page = x }; below = y.0.0 }
          ∷ (record { entry = record { low = mid; high = key_limit; amount = 0; page = z }; below = y.1.0 } ∷ [])) ≈ L q
      go q (inl i) j a = let h : 0 ≤ q = omega arith in simp tests (omega (arith, y.1.2 q i j))
      go q (inr i) j a = let h : 0 ≤ q = omega arith in simp tests (omega (arith, y.0.2 q h i))

  -- Pages in use stay as they are when a root is added, and the new page is settled.
  pub grown_other : (parts : Parts) (x : ℕ) → After In alloc m x → (grew parts).store x ≡ s x
  grown_other stay x i = refl
  grown_other (copy y) x i = refl
  grown_other (two y z mid) x i = let h : x ≡ alloc m → ⊥ = untaken In alloc allocates m x i m (omega arith) in simp tests

  pub grown_in : (parts : Parts) (x : ℕ) → After In alloc m x → After In alloc (grew parts).made x
  grown_in stay x i = i
  grown_in (copy y) x i = i
  grown_in (two y z mid) x i = after_more In alloc m (suc m) x (omega arith) i

  grown_settled : (parts : Parts) → ((x : ℕ) → After In alloc m x → Settled t (s x).rows) → (x : ℕ) → After In alloc (grew parts).made x
      → Settled t ((grew parts).store x).rows
  grown_settled stay k x i = k x i
  grown_settled (copy y) k x i = k x i
  grown_settled (two y z mid) k x i = go (ℕ_discrete x (alloc m))
    where
      go : Dec (x ≡ alloc m) → Settled t (put_at s (alloc m) (new_page t (suc n) 0 key_limit (top_rows y z mid)) x).rows
      go (yes e) = simp tests (settled_born t (top_rows y z mid))
      go (no e) = simp tests (k x (after_less In alloc m x e i))

  grown_root_later : (parts : Parts) (w : ℕ) → t ≤ w → rs w ≡ rs t → (grew parts).root w ≡ (grew parts).root t
  grown_root_later stay w i e = e
  grown_root_later (copy y) w i e = root_later t w y rs i ∙ sym (root_later t t y rs (omega arith))
  grown_root_later (two y z mid) w i e = root_later t w (alloc m) rs i ∙ sym (root_later t t (alloc m) rs (omega arith))

pub grown_root_past : (t n : ℕ) (rs : ℕ → ℕ) (s : ℕ → Page) (alloc : ℕ → ℕ) (m : ℕ) (parts : Parts) (w : ℕ) → w < t
    → (grown t n rs s alloc m parts).root w ≡ rs w
grown_root_past t n rs s alloc m stay w i = refl
grown_root_past t n rs s alloc m (copy y) w i = root_past t w y rs i
grown_root_past t n rs s alloc m (two y z mid) w i = root_past t w (alloc m) rs i

pub entering_keeps : (t₀ t k v : ℕ) (s : ℕ → Page) (In : ℕ → Type 0) (alloc : ℕ → ℕ) → Allocates In alloc → (u : ℕ) (rs : ℕ → ℕ) (L : ℕ → ℕ → ℕ)
    (C : ℕ) (IsKnown IsKnown' : ℕ → Type 0) → ((x : ℕ) → IsKnown x → IsKnown' x) → IsKnown' k → Invariant IsKnown t₀ s In u rs L C → t₀ ≤ t
    → t < open_end → k < key_limit
    → let st = entering t k v s alloc rs (rs t) in
    Invariant IsKnown' t st.store (After In alloc st.made) (u + st.made) st.root
    (λ w q. L w q + only_if (leb t w) (only_if (leb k q) v)) (C + 8)
entering_keeps t₀ t k v s In alloc allocates u rs L C IsKnown IsKnown' wider known invariant i now j =
    record {
      current = current;
      versions = λ w l. versions w l (split t w);
      settled = grown_settled t now n rs o.store In alloc allocates o.made u (L t) p IsKnown' o.parts settled;
      rooted =
          λ w l. grown_root_later t now n rs o.store In alloc allocates o.made u (L t) p IsKnown' o.parts w l
          (invariant.rooted w (omega arith) ∙ sym (invariant.rooted t i));
      levels = λ w l. levels w l (split t w);
      steady =
          λ w q l. let h : t ≤ t = omega arith in simp tests
          (omega (arith, invariant.steady w q (omega arith), invariant.steady t q i));
    }
  where
    p : ℕ
    p = rs t

    n : ℕ
    n = (s p).level

    o : Outcome
    o = enter n t k v s alloc p

    ver : Paid IsKnown s In u t (L t) p C
    ver = invariant.current t i now

    ok : EnterResult (λ s' In' a b c x. Holds n s' In' t a b c x) (λ l q. lookup_tree n q l) (λ s' x l. potential n s' x l) n t s In alloc u
        0 key_limit p (λ q. lookup_tree n q ver.tree + only_if (leb k q) v)
        (λ b lo' hi' x l. Full IsKnown' n l × (cond b 20 (slot_count n ver.tree) ≤ slot_count n l))
        (18 * u + potential n s p ver.tree + 5 + n) o
    ok =
        enter_keeps t now k v IsKnown' known s In alloc allocates u n 0 key_limit p ver.tree (omega arith) j ver.held
        (full_more IsKnown IsKnown' wider n ver.tree ver.full)

    settled : (x : ℕ) → After In alloc o.made x → Settled t (o.store x).rows
    settled = ok.settled (λ x l. settled_later t₀ t (s x).rows i (invariant.settled x l))

    st : Grown
    st = grown t n rs o.store alloc o.made o.parts

    Then : ℕ → Type 0
    Then = After In alloc st.made

    L' : ℕ → ℕ → ℕ
    L' w q = L w q + only_if (leb t w) (only_if (leb k q) v)

    first : Paid IsKnown' st.store Then (u + st.made) t (λ q. lookup_tree n q ver.tree + only_if (leb k q) v) (st.root t)
        (18 * u + potential n s p ver.tree + 5 + n + 18 * (top_level - n))
    first =
        grown_now t now n rs o.store In alloc allocates o.made u (λ q. lookup_tree n q ver.tree + only_if (leb k q) v) p IsKnown' o.parts
        refl (slot_count n ver.tree) ver.wide ok.yields (18 * u + potential n s p ver.tree + 5 + n) ok.spent

    paid_up : (w : ℕ) → t ≤ w → w < open_end
        → Paid IsKnown' st.store Then (u + st.made) w (L' w) (st.root t)
        (18 * u + potential n s p ver.tree + 5 + n + 18 * (top_level - n))
    paid_up w a l =
        paid_later IsKnown' st.store Then (u + st.made) t w (λ q. lookup_tree n q ver.tree + only_if (leb k q) v) (L' w) (st.root t)
        (18 * u + potential n s p ver.tree + 5 + n + 18 * (top_level - n)) a
        (later st.store Then t w a l
        (grown_settled t now n rs o.store In alloc allocates o.made u (L t) p IsKnown' o.parts settled))
        (λ q m. simp tests (omega (arith, ver.adds q m, invariant.steady w q (omega arith), invariant.steady t q i)))
        first

    current : (w : ℕ) → t ≤ w → w < open_end → Paid IsKnown' st.store Then (u + st.made) w (L' w) (st.root w) (C + 8)
    current w a l =
        subst
        (λ (r : ℕ). Paid IsKnown' st.store Then (u + st.made) w (L' w) r (C + 8))
        (sym (grown_root_later t now n rs o.store In alloc allocates o.made u (L t) p IsKnown' o.parts w a
        (invariant.rooted w (omega arith) ∙ sym (invariant.rooted t i))))
        (let h = paid_up w a l in
        let m = low IsKnown s In u t (L t) p C ver in
        record {
          tree = h.tree;
          held = h.held;
          adds = h.adds;
          budget = λ b. omega (arith, h.budget b, ver.budget m);
          full = h.full;
          wide = h.wide;
        })

    -- A page of an older version stays in use, and what it shows there
    kept : (w x : ℕ) → w < t → In x → (s x).birth ≤ w → Then x × Alike w (st.store x) (s x)
    kept w x a m b =
        let stays = ok.older x m (omega arith) in (
          grown_in t now n rs o.store In alloc allocates o.made u (L t) p IsKnown' o.parts x stays,
          subst (λ (g : Page). Alike w g (s x))
              (sym (grown_other t now n rs o.store In alloc allocates o.made u (L t) p IsKnown' o.parts x stays)) (ok.past w x a m),
        )

    versions : (w : ℕ) → w < open_end → (t ≤ w) ⊎ (w < t) → Version st.store Then w (L' w) (st.root w)
    versions w l (inr a) =
        subst
        (λ (r : ℕ). Version st.store Then w (L' w) r)
        (sym (grown_root_past t n rs o.store alloc o.made o.parts w a))
        (version_move s st.store In Then w (L w) (L' w) (rs w) (λ x m b. kept w x a m b) (λ q m. simp tests (omega arith))
        (invariant.versions w l))
    versions w l (inl a) = forget IsKnown' st.store Then (u + st.made) w (L' w) (st.root w) (C + 8) (current w a l)

    levels : (w : ℕ) → w < open_end → (t ≤ w) ⊎ (w < t) → (st.store (st.root w)).level ≤ top_level
    levels w l (inl a) = low IsKnown' st.store Then (u + st.made) w (L' w) (st.root w) (C + 8) (current w a l)
    levels w l (inr a) =
        let x = rs w in
        let ver' = invariant.versions w l in
        let page = (kept w x a (holds_used (s x).level s In w 0 key_limit x ver'.tree ver'.held) (holds_born (s x).level s In w 0 key_limit x ver'.tree ver'.held)).1 in
        let root_is : st.root w ≡ x = grown_root_past t n rs o.store alloc o.made o.parts w a in
        omega (arith, ap (λ (z : ℕ). (st.store z).level) root_is, page.level, invariant.levels w l)

-- A tree just opened: page 0 alone is in use
pub opened_keeps : (s : ℕ → Page) (In : ℕ → Type 0) → In 0 → ((x : ℕ) → In x → x ≡ 0) → (IsKnown : ℕ → Type 0) → IsKnown 0
    → Invariant IsKnown 0 (opened s) In 1 (λ w. 0) (λ w q. 0) 72
opened_keeps s In used alone IsKnown k₀ =
    record {
      current = λ w i. current w;
      versions = λ w i. forget IsKnown (opened s) In 1 w (λ q. 0) 0 72 (current w i);
      settled = λ x i. settled x (alone x i);
      rooted = λ w i. refl;
      steady = λ w q i. refl;
      levels = λ w i. omega arith;
    }
  where
    tr : Tree 0
    tr = record { entry = record { low = 0; high = key_limit; amount = 0; page = 0 }; below = tt } ∷ []

    settled : (x : ℕ) → x ≡ 0 → Settled 0 (opened s x).rows
    settled x e = rw e (omega arith, inr refl, tt)

    current : (w : ℕ) → w < open_end → Paid IsKnown (opened s) In 1 w (λ q. 0) 0 72
    current w i =
        record {
          tree = tr;
          held =
              record {
                wide = omega arith;
                is_in_use = used;
                born = omega arith;
                level = refl;
                low = refl;
                high = refl;
                same = λ f. let h : 0 ≤ w = omega arith in simp tests;
                chain = record { first = refl; some = omega arith; under = tt; rest = refl };
              };
          adds = λ q j. let h : 0 ≤ q = omega arith in simp tests;
          budget = λ j. omega arith;
          full = (k₀, tt);
          wide = λ j. absurd (omega arith);
        }
