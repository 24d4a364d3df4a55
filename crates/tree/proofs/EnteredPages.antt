-- Entering a point into a page of the model that holds a tree: the tree afterwards has the same lookups, with the point's amount more
-- for keys from its key on; no other page changes, and no earlier tick.
use Prim.Native.Nat.{ℕ, suc, zero, ◌+◌, ◌≤◌, ◌<◌, ◌*◌}
use native.Mathlib.Omega.{arith}
use mathlib.Core.Path.{◌≡◌, refl, ap, sym, ◌∙◌, subst, subst₃}
use mathlib.Core.List.{List, [], ◌∷◌, ◌++◌}
use mathlib.Core.Bool.{Bool, true, false, cond}
use mathlib.Core.Logic.{◌⊎◌, inl, inr}
use lib.Dec.{leb, ltb}
use lib.ListN.{length, length-append}
use borrow.Author.Tests.{lt-ltb, le-ltb}
use Rattle.words.specs.Words.{open_end}
use Rattle.tree.proofs.ModelPages.{◌≈◌, only_if, Entry, Row, Page, sum_live, field_holding}
use Rattle.tree.proofs.ModelTrees.{Slot, Tree, sum_slots, lookup_slots, Chain, Holds, lookup_tree}
use Rattle.tree.proofs.ModelSteps.{none_further, gained, cut_row, relink, enter, Parts, stay, copy, two, Outcome, finish}
use Rattle.tree.proofs.ModelSteps.{pointed_to, first_half, second_half, lower_part, upper_part}
use Rattle.tree.proofs.ModelPromise.{Yields, Apart, EnterResult, Settled, Cost, index_potential, sum_below, potential, All}
use Rattle.tree.proofs.ModelPromise.{slot_count, Full, Filled}
use Rattle.tree.proofs.ReplacedRows.{tests, split, sum_live_past, settled_replaced}
use Rattle.tree.proofs.HeldTrees.{chain_le, chain_map, holds_frame, below_frame, tree_potential_frame}
use Rattle.tree.proofs.SlotCuts.{Cut, cut, cut_at, sum_slots_append, same_replaced, chain_join}
use Rattle.tree.proofs.GainedSlots.{more, more_first, at_cut, gained_here, gained_next, cut_here, lower_slot, upper_slot}
use Rattle.tree.proofs.PageKinds.{PageKind, held_page, page_lookup, page_potential, Enough, Leaf, leaf_kind, index_kind}
use Rattle.tree.proofs.FinishedPages.{finish_holds}
use Rattle.tree.proofs.SlotLaws.{alike, chain_more, below_append, all_split, all_join, all_more}
use Rattle.tree.proofs.FinishEffects.{finish_other, finish_past, finish_settled, alike_trans, relink_past, finish_more}
use Rattle.tree.proofs.FinishEffects.{relink_settled}
use Rattle.tree.proofs.StepLookups.{lookup_here, lookup_next, lookup_cut}
use Rattle.tree.proofs.RowCounts.{one_more, gained_length, two_more, length_more, below_more}
use Rattle.tree.proofs.TakenPages.{After, Allocates, after_none, after_more}

-- A page whose step writes no other page first
module _ {A : Type 0} (n t : ℕ) (now : t < open_end) (kind : PageKind A n t) (s : ℕ → Page) (In : ℕ → Type 0) (alloc : ℕ → ℕ)
    (allocates : Allocates In alloc) (u lo hi p : ℕ) (L : ℕ → ℕ) (M : ℕ) (B : ℕ) where
  alone : (old tr : List (Slot A)) (rs : List Row) → held_page kind s In lo hi p old → Chain (kind.under s In) lo hi tr
      → ((f : Entry → ℕ) → sum_slots f tr ≡ sum_live t f rs)
      → ((q : ℕ) → lo ≤ q → q < hi → page_lookup kind tr q ≈ L q)
      → ((w : ℕ) → w < t → (f : Entry → ℕ) → sum_live w f rs ≡ sum_live w f (s p).rows)
      → (Settled t (s p).rows → Settled t rs) → All kind.Fill tr × (M ≤ length tr)
      → kind.own (length rs) (length tr) + sum_below (kind.potential_in s) tr + 18 * u ≤ B
      → EnterResult (held_page kind) (page_lookup kind) (page_potential kind) n t s In alloc u lo hi p L (Enough kind M) B (finish t s alloc 0 p rs)
  alone old tr rs h c same adds past_rows settled_rows each budget =
      let g =
      finish_holds n t now kind s In alloc allocates 0 u lo hi p L M B (inl h.is_in_use) h.born h.wide h.level h.low h.high tr rs
      (chain_map (kind.under s In) (kind.under s (After In alloc 0)) lo hi tr
      (λ a b d x j l. kind.under_frame s s In (After In alloc 0) a b d x (λ z e f. (inl e, alike t refl))) c)
      same adds each (omega (arith, budget)) in
      record {
        yields = g.0;
        spent = g.1;
        stays = λ x i a. inl i;
        older = λ x i a. inl i;
        frame = λ x i a. finish_other t s alloc 0 p rs x (λ j l e. allocates.new x j i e) (λ e. not_me x e a);
        past = λ w x l i. finish_past t s alloc 0 p rs w x (past_rows w l) (λ j r e. allocates.new x j i e);
        settled = λ g. finish_settled t s alloc 0 p rs In (settled_rows (g p h.is_in_use)) (λ x a. g x (after_none In alloc x a));
      }
    where
      not_me : (x : ℕ) → x ≡ p → Apart n lo hi (s x) → ⊥
      not_me x e (inl a) = omega (arith, h.level, ap (λ (z : ℕ). (s z).level) e)
      not_me x e (inr (inl a)) = omega (arith, h.low, ap (λ (z : ℕ). (s z).low) e)
      not_me x e (inr (inr a)) = omega (arith, h.low, h.wide, ap (λ (z : ℕ). (s z).low) e)

pub holds_wide : (n : ℕ) (s : ℕ → Page) (In : ℕ → Type 0) (t lo hi p : ℕ) (tr : Tree n) → Holds n s In t lo hi p tr → lo < hi
holds_wide zero s In t lo hi p tr h = h.wide
holds_wide (suc n) s In t lo hi p tr h = h.wide

-- One call: the pages before it, those in use of them, u counted, and the pages that it takes
module _ (t : ℕ) (now : t < open_end) (k v : ℕ) (IsKnown : ℕ → Type 0) (known : IsKnown k) (s : ℕ → Page) (In : ℕ → Type 0) (alloc : ℕ → ℕ)
    (allocates : Allocates In alloc) (u : ℕ) where
  abbrev pub EntersWell : (n : ℕ) → (lo hi p : ℕ) → Tree n → Outcome → Type 0
  EntersWell n lo hi p tr o =
      EnterResult (λ s' In' a b c x. Holds n s' In' t a b c x) (λ l q. lookup_tree n q l) (λ s' x l. potential n s' x l) n t s In alloc u lo hi p
      (λ q. lookup_tree n q tr + only_if (leb k q) v) (λ b lo' hi' x l. Full IsKnown n l × (cond b 20 (slot_count n tr) ≤ slot_count n l))
      (18 * u + potential n s p tr + 5 + n) o

  leaf_cut : (lo hi p : ℕ) (tr : Tree 0) → Cut Leaf lo hi k tr → Holds 0 s In t lo hi p tr → Full IsKnown 0 tr
      → EntersWell 0 lo hi p tr (enter 0 t k v s alloc p)
  leaf_cut lo hi p tr (cut xs y ys c i j w d) h full = go (split k y.entry.low)
    where
      rs : List Row
      rs = (s p).rows

      at : field_holding t k (λ z. z.low) rs ≡ y.entry.low
      at = at_cut Leaf k t lo hi xs y ys rs c i j d h.same (λ z. z.low)

      pass : (b : Bool) → ltb (field_holding t k (λ z. z.low) rs) k ≡ b
          → EntersWell 0 lo hi p (xs ++ (y ∷ ys)) (finish t s alloc 0 p (cond b (cut_row t k v rs) (gained t k v rs)))
          → EntersWell 0 lo hi p (xs ++ (y ∷ ys)) (enter 0 t k v s alloc p)
      pass b e x =
          subst (λ (a : Bool). EntersWell 0 lo hi p (xs ++ (y ∷ ys)) (finish t s alloc 0 p (cond a (cut_row t k v rs) (gained t k v rs))))
          (sym e) x

      go : (k ≤ y.entry.low) ⊎ (y.entry.low < k) → EntersWell 0 lo hi p (xs ++ (y ∷ ys)) (enter 0 t k v s alloc p)
      go (inl e) =
          pass
          false
          (rw at (le-ltb _ _ e))
          (alone 0 t now (leaf_kind IsKnown t) s In alloc allocates u lo hi p _ (length (xs ++ (y ∷ ys))) _ (xs ++ (y ∷ ys)) (xs ++ (more v y ∷ ys))
          (gained t k v rs) h
          (chain_join Leaf lo y.entry.low hi xs (more v y ∷ ys) c (record { first = refl; some = omega arith; under = tt; rest = d }))
          (gained_here Leaf k t lo hi xs y ys rs c i j d h.same now v (omega arith))
          (λ q a b. lookup_here Leaf (λ x. 0) q k v lo hi xs y ys c d i j b (omega arith))
          (λ a b f. sum_live_past t a b f _ _ _ rs)
          (settled_replaced t _ _ _ rs) (
            let f = all_split (λ y'. IsKnown y'.entry.low) xs (y ∷ ys) full in all_join _ xs (more v y ∷ ys) f.0 f.1,
            omega
                (arith, length-append xs (more v y ∷ ys), length-append xs (y ∷ ys)),
          )
          (omega (
            arith,
            gained_length Leaf t lo hi (xs ++ (y ∷ ys)) rs h.chain h.same k v,
            length-append xs (more v y ∷ ys),
            length-append xs (y ∷ ys),
            below_append {A = Unit {0}} (λ c' x. 0) xs (more v y ∷ ys),
            below_append {A = Unit {0}} (λ c' x. 0) xs (y ∷ ys),
          )))
      go (inr e) =
          pass
          true
          (rw at (lt-ltb _ _ e))
          (alone 0 t now (leaf_kind IsKnown t) s In alloc allocates u lo hi p _ (length (xs ++ (y ∷ ys))) _ (xs ++ (y ∷ ys))
          (xs ++ (lower_slot k y ∷ (upper_slot k v y ∷ ys)))
          (cut_row t k v rs) h
          (chain_join Leaf lo y.entry.low hi xs (lower_slot k y ∷ (upper_slot k v y ∷ ys)) c
          (record { first = refl; some = e; under = tt; rest = record { first = refl; some = j; under = tt; rest = d } }))
          (cut_here Leaf k t lo hi xs y ys rs c i j d h.same now v e)
          (λ q a b. lookup_cut Leaf (λ x. 0) q k v lo hi xs y ys c d i j b (λ x. refl) e)
          (λ a b f. sum_live_past t a b f _ _ _ rs)
          (settled_replaced t _ _ _ rs) (
            let f =
                all_split (λ y'. IsKnown y'.entry.low) xs (y ∷ ys) full in all_join _ xs (lower_slot k y ∷ (upper_slot k v y ∷ ys))
                f.0
                (f.1.0, (known, f.1.1)),
            omega (arith, length-append xs (lower_slot k y ∷ (upper_slot k v y ∷ ys)), length-append xs (y ∷ ys)),
          )
          (omega (
            arith,
            two_more Leaf t lo hi (xs ++ (y ∷ ys)) rs h.chain h.same (field_holding t k (λ z. z.low) rs)
                (lower_part k)
                (upper_part k v),
            length-append xs (lower_slot k y ∷ (upper_slot k v y ∷ ys)),
            length-append xs (y ∷ ys),
            below_append {A = Unit {0}} (λ c' x. 0) xs (lower_slot k y ∷ (upper_slot k v y ∷ ys)),
            below_append {A = Unit {0}} (λ c' x. 0) xs (y ∷ ys),
          )))

  -- The slot that has k inside, after its child was entered.
  module _ (n lo hi p : ℕ) (xs : List (Slot (Tree n))) (y : Slot (Tree n)) (ys : List (Slot (Tree n)))
      (c : Chain (Holds n s In t) lo y.entry.low xs) (i : y.entry.low ≤ k) (j : k < y.entry.high)
      (w : Holds n s In t y.entry.low y.entry.high y.entry.page y.below)
      (d : Chain (Holds n s In t) y.entry.high hi ys) (h : Holds (suc n) s In t lo hi p (xs ++ (y ∷ ys)))
      (full : Full IsKnown (suc n) (xs ++ (y ∷ ys))) (e : y.entry.low < k) (o : Outcome)
      (ih : EntersWell n y.entry.low y.entry.high y.entry.page y.below o) where
    abbrev S : ℕ → Page
    S = o.store

    abbrev Now : ℕ → Type 0
    Now = After In alloc o.made

    -- What a lookup of q is to add in the slots that stand in for y
    abbrev wanted : ℕ → ℕ
    wanted q =
        only_if (leb y.entry.low q)
        (y.entry.amount + only_if (ltb q y.entry.high) (lookup_tree n q y.below + only_if (leb k q) v))

    -- The pages that stand in for the child of y
    abbrev ChildYields : Parts → Type 0
    ChildYields parts =
        Yields (Holds n S Now t) (λ l q. lookup_tree n q l) (λ q. lookup_tree n q y.below + only_if (leb k q) v)
        (λ b lo' hi' x l. Full IsKnown n l × (cond b 20 (slot_count n y.below) ≤ slot_count n l))
        y.entry.low y.entry.high y.entry.page parts

    untouched : S p ≡ s p
    untouched = ih.frame p h.is_in_use (inl (omega (arith, h.level)))

    left : Chain (Holds n S Now t) lo y.entry.low xs
    left =
        chain_map (Holds n s In t) (Holds n S Now t) lo y.entry.low xs
        (λ a b z x f g. holds_frame n s S In Now t a b z x
        (λ r l m' m q o'. (ih.stays r l (inr (inl (omega arith))), alike t (ih.frame r l (inr (inl (omega arith))))))) c

    right : Chain (Holds n S Now t) y.entry.high hi ys
    right =
        chain_map (Holds n s In t) (Holds n S Now t) y.entry.high hi ys
        (λ a b z x f g. holds_frame n s S In Now t a b z x
        (λ r l m' m q o'. (ih.stays r l (inr (inr (omega arith))), alike t (ih.frame r l (inr (inr (omega arith))))))) d

    stand_in : (zs : List (Slot (Tree n))) (rs : List Row) → Chain (Holds n S Now t) y.entry.low y.entry.high zs
        → ((f : Entry → ℕ) → sum_slots f (xs ++ (zs ++ more_first v ys)) ≡ sum_live t f rs)
        → ((q : ℕ) → lookup_slots q (lookup_tree n q) zs ≈ wanted q)
        → ((a : ℕ) → a < t → (f : Entry → ℕ) → sum_live a f rs ≡ sum_live a f (s p).rows) → (Settled t (s p).rows → Settled t rs)
        → All (Filled IsKnown n) zs → 0 < length zs
        → index_potential (length rs) (length xs + (length zs + length ys)) + sum_below (potential n S) zs + 18 * (u + o.made)
        ≤ index_potential (length (s p).rows) (length xs + suc (length ys)) + 18 * u + potential n s y.entry.page y.below + 6
        + n
        → EntersWell (suc n) lo hi p (xs ++ (y ∷ ys)) (finish t S alloc o.made p rs)
    stand_in zs rs z same adds past_rows settled_rows each some budget =
        let f₁ = all_split (Filled IsKnown n) xs (y ∷ ys) full in
        let e₁ =
        below_frame (Holds n s In t) (potential n s) (potential n S) lo y.entry.low xs
        (λ a b r x f g. tree_potential_frame n s S In t a b r x (λ m l o' q q'. ih.frame m l (inr (inl (omega arith))))) c in
        let e₂ =
        below_frame (Holds n s In t) (potential n s) (potential n S) y.entry.high hi ys
        (λ a b r x f g. tree_potential_frame n s S In t a b r x (λ m l o' q q'. ih.frame m l (inr (inr (omega arith))))) d in
        let k₁ : length (xs ++ (zs ++ more_first v ys)) ≡ length xs + (length zs + length ys) = simp (length-append, length_more) in
        let k₂ : length (xs ++ (y ∷ ys)) ≡ length xs + suc (length ys) = length-append xs (y ∷ ys) in
        let g =
        finish_holds (suc n) t now (index_kind IsKnown t n) S In alloc allocates o.made u lo hi p
        (λ q. lookup_tree (suc n) q (xs ++ (y ∷ ys)) + only_if (leb k q) v) (length (xs ++ (y ∷ ys)))
        (18 * u + potential (suc n) s p (xs ++ (y ∷ ys)) + 5 + suc n)
        (ih.stays p h.is_in_use (inl (omega (arith, h.level)))) (rw untouched h.born) h.wide
        (rw untouched h.level) (rw untouched h.low) (rw untouched h.high) (xs ++ (zs ++ more_first v ys)) rs
        (chain_join _ lo y.entry.low hi xs (zs ++ more_first v ys) left
        (chain_join _ y.entry.low y.entry.high hi zs (more_first v ys) z (chain_more _ v y.entry.high hi ys right)))
        same
        (λ q a b. lookup_next (Holds n s In t) (lookup_tree n q) q k v lo hi xs y ys c d i j b zs (adds q) e) (
          all_join _ xs (zs ++ more_first v ys) f₁.0
              (all_join _ zs (more_first v ys) each (all_more (Filled IsKnown n) v (λ y' g'. g') ys f₁.1.1)),
          rw (k₁, k₂) (omega arith),
        )
        (rw (k₁, k₂) (omega (
          arith,
          below_append (potential n S) xs (zs ++ more_first v ys),
          below_append (potential n S) zs (more_first v ys),
          below_more (potential n S) v ys,
          below_append (potential n s) xs (y ∷ ys),
        ))) in
        record {
          yields = g.0;
          spent = g.1;
          stays = λ x l a. after_more In alloc o.made _ x (finish_more t S alloc o.made p rs) (ih.stays x l (nearer x a));
          older = λ x l a. after_more In alloc o.made _ x (finish_more t S alloc o.made p rs) (ih.older x l a);
          frame = λ x l a. finish_other t S alloc o.made p rs x (λ r m e. allocates.new x r l e) (λ g. not_me x g a) ∙ ih.frame x l (nearer x a);
          past = λ a x l m.
              alike_trans a (finish_past t S alloc o.made p rs a x (λ f. past_rows a l f ∙ ap (λ (g : Page). sum_live a f g.rows) (sym untouched))
              (λ r g e. allocates.new x r m e)) (ih.past a x l m);
          settled = λ g. finish_settled t S alloc o.made p rs In (settled_rows (g p h.is_in_use)) (ih.settled g);
        }
      where
        not_me : (x : ℕ) → x ≡ p → Apart (suc n) lo hi (s x) → ⊥
        not_me x g (inl a) = omega (arith, h.level, ap (λ (z : ℕ). (s z).level) g)
        not_me x g (inr (inl a)) = omega (arith, h.low, ap (λ (z : ℕ). (s z).low) g)
        not_me x g (inr (inr a)) = omega (arith, h.low, h.wide, ap (λ (z : ℕ). (s z).low) g)

        nearer : (x : ℕ) → Apart (suc n) lo hi (s x) → Apart n y.entry.low y.entry.high (s x)
        nearer x (inl a) = inl (omega arith)
        nearer x (inr (inl a)) = inr (inl (omega (arith, chain_le (Holds n s In t) lo y.entry.low xs c)))
        nearer x (inr (inr a)) = inr (inr (omega (arith, chain_le (Holds n s In t) y.entry.high hi ys d)))

    gained_same : (f : Entry → ℕ) → sum_slots f (xs ++ (y ∷ more_first v ys)) ≡ sum_live t f (gained t k v (s p).rows)
    gained_same = gained_next (Holds n s In t) k t lo hi xs y ys (s p).rows c i j d h.same now v e

    past_rows : (parts : Parts) (a : ℕ) → a < t → (f : Entry → ℕ)
        → sum_live a f (relink t y.entry.low parts (gained t k v (s p).rows)) ≡ sum_live a f (s p).rows
    past_rows parts a l f =
        relink_past a t y.entry.low parts (gained t k v (s p).rows) l f ∙ sum_live_past t a l f _ _ _ (s p).rows

    settled_rows : (parts : Parts) → Settled t (s p).rows → Settled t (relink t y.entry.low parts (gained t k v (s p).rows))
    settled_rows parts g = relink_settled t y.entry.low parts (gained t k v (s p).rows) (settled_replaced t _ _ _ (s p).rows g)

    more_chain : Chain (Holds n s In t) y.entry.high hi (more_first v ys)
    more_chain = chain_more (Holds n s In t) v y.entry.high hi ys d

    next_chain : Chain (Holds n s In t) lo hi (xs ++ (y ∷ more_first v ys))
    next_chain =
        chain_join (Holds n s In t) lo y.entry.low hi xs (y ∷ more_first v ys) c
        (record { first = refl; some = omega arith; under = w; rest = more_chain })

    -- One slot for y, with the child x.
    one_slot : (x : ℕ) (tr : Tree n)
        → ((q : ℕ) → y.entry.low ≤ q → q < y.entry.high → lookup_tree n q tr ≈ lookup_tree n q y.below + only_if (leb k q) v)
        → (q : ℕ) → lookup_slots {A = Tree n} q (lookup_tree n q) (record { entry = pointed_to x y.entry; below = tr } ∷ []) ≈ wanted q
    one_slot x tr adds q = go (split y.entry.low q) (split y.entry.high q)
      where
        go : (y.entry.low ≤ q) ⊎ (q < y.entry.low) → (y.entry.high ≤ q) ⊎ (q < y.entry.high)
            → lookup_slots {A = Tree n} q (lookup_tree n q) (record { entry = pointed_to x y.entry; below = tr } ∷ []) ≈ wanted q
        go (inr a) b = simp tests
        go (inl a) (inl b) = simp tests (omega arith)
        go (inl a) (inr b) = simp tests (omega (arith, adds q a b))

    -- Two slots for y, the second of value zero.
    two_slots : (m x x' : ℕ) (tr tr' : Tree n) → y.entry.low < m → m < y.entry.high
        → ((q : ℕ) → y.entry.low ≤ q → q < m → lookup_tree n q tr ≈ lookup_tree n q y.below + only_if (leb k q) v)
        → ((q : ℕ) → m ≤ q → q < y.entry.high → lookup_tree n q tr' ≈ lookup_tree n q y.below + only_if (leb k q) v) → (q : ℕ)
        → lookup_slots {A = Tree n} q (lookup_tree n q)
        (record { entry = first_half m x y.entry; below = tr } ∷ (record { entry = second_half m x' y.entry; below = tr' } ∷ []))
        ≈ wanted q
    two_slots m x x' tr tr' a b adds adds' q = go (split y.entry.low q) (split m q) (split y.entry.high q)
      where
        go : (y.entry.low ≤ q) ⊎ (q < y.entry.low) → (m ≤ q) ⊎ (q < m) → (y.entry.high ≤ q) ⊎ (q < y.entry.high)
            → lookup_slots {A = Tree n} q (lookup_tree n q)
            (record { entry = first_half m x y.entry; below = tr }
            ∷ (record { entry = second_half m x' y.entry; below = tr' } ∷ [])) ≈ wanted q
        go (inr f) g h' = let l : q < m = omega arith in simp tests (omega arith)
        go (inl f) (inr g) h' = let l : q < y.entry.high = omega arith in simp tests (omega (arith, adds q f g))
        go (inl f) (inl g) (inl h') = simp tests (omega arith)
        go (inl f) (inl g) (inr h') = simp tests (omega (arith, adds' q g h'))

    abbrev Spent : (parts : Parts)
        → ChildYields parts
        → Type 0
    Spent parts r =
        Cost (Holds n S Now t) (λ l q. lookup_tree n q l) (λ q. lookup_tree n q y.below + only_if (leb k q) v)
        (λ b lo' hi' x l. Full IsKnown n l × (cond b 20 (slot_count n y.below) ≤ slot_count n l)) y.entry.low y.entry.high
        y.entry.page (potential n S) (u + o.made)
        (18 * u + potential n s y.entry.page y.below + 5 + n) parts r

    wide : (l : Tree n) → slot_count n y.below ≤ slot_count n l → 20 ≤ slot_count n l
    wide l g = omega (arith, (all_split (Filled IsKnown n) xs (y ∷ ys) full).1.0.1)

    gained_few : length (gained t k v (s p).rows) ≤ length (s p).rows + 1
    gained_few = gained_length (Holds n s In t) t lo hi (xs ++ (y ∷ ys)) (s p).rows h.chain h.same k v

    by_parts : (parts : Parts) (r : ChildYields parts) → Spent parts r
        → EntersWell (suc n) lo hi p (xs ++ (y ∷ ys)) (finish t S alloc o.made p (relink t y.entry.low parts (gained t k v (s p).rows)))
    by_parts stay r b =
        stand_in
        (record { entry = y.entry; below = r.0 } ∷ [])
        (gained t k v (s p).rows)
        (record { first = refl; some = omega arith; under = r.1; rest = refl })
        (λ f. sum_slots_append f xs _ ∙ sym (sum_slots_append f xs (y ∷ more_first v ys)) ∙ gained_same f)
        (one_slot y.entry.page r.0 r.2)
        (past_rows stay)
        (settled_rows stay)
        ((r.3.0, wide r.0 r.3.1), tt)
        (omega arith)
        (omega (arith, gained_few))
    by_parts (copy x) r b =
        let relinked_one =
        one_more (Holds n s In t) t lo hi (xs ++ (y ∷ more_first v ys)) (gained t k v (s p).rows) next_chain gained_same
        y.entry.low
        (pointed_to x) in
        let zs : List (Slot (Tree n)) =
        record { entry = pointed_to x y.entry; below = r.0 }
        ∷ [] in
        stand_in
        zs
        (relink t y.entry.low (copy x) (gained t k v (s p).rows))
        (record { first = refl; some = omega arith; under = r.1; rest = refl })
        (same_replaced (Holds n s In t) t now _ none_further lo hi xs y (more_first v ys) zs (gained t k v (s p).rows) c more_chain
        (omega arith) gained_same (λ f. refl))
        (one_slot x r.0 r.2)
        (past_rows (copy x))
        (settled_rows (copy x))
        ((r.3.0, wide r.0 r.3.1), tt)
        (omega arith)
        (omega (arith, gained_few, relinked_one))
    by_parts (two x x' m) r sp =
        let relinked_two =
        two_more (Holds n s In t) t lo hi (xs ++ (y ∷ more_first v ys)) (gained t k v (s p).rows) next_chain gained_same
        y.entry.low
        (first_half m x)
        (second_half m x') in
        let a = holds_wide n S Now t y.entry.low m x r.0.0 r.0.1 in
        let b = holds_wide n S Now t m y.entry.high x' r.1.0 r.1.1 in
        let zs : List (Slot (Tree n)) =
        record { entry = first_half m x y.entry; below = r.0.0 } ∷
        (record { entry = second_half m x' y.entry; below = r.1.0 } ∷ []) in
        stand_in
        zs
        (relink t y.entry.low (two x x' m) (gained t k v (s p).rows))
        (record { first = refl; some = a; under = r.0.1; rest = record { first = refl; some = b; under = r.1.1; rest = refl } })
        (same_replaced (Holds n s In t) t now _ _ lo hi xs y (more_first v ys) zs (gained t k v (s p).rows) c more_chain (omega arith)
        gained_same (λ f. refl))
        (two_slots m x x' r.0.0 r.1.0 a b r.0.2 r.1.2)
        (past_rows (two x x' m))
        (settled_rows (two x x' m))
        ((r.0.3.0, r.0.3.1), ((r.1.3.0, r.1.3.1), tt))
        (omega arith)
        (omega (arith, gained_few, relinked_two))

  index_cut : (n : ℕ)
      → ((lo hi p : ℕ) (tr : Tree n) → lo ≤ k → k < hi → Holds n s In t lo hi p tr → Full IsKnown n tr
      → EntersWell n lo hi p tr (enter n t k v s alloc p))
      → (lo hi p : ℕ) (tr : Tree (suc n)) → Cut (Holds n s In t) lo hi k tr → Holds (suc n) s In t lo hi p tr
      → Full IsKnown (suc n) tr → EntersWell (suc n) lo hi p tr (enter (suc n) t k v s alloc p)
  index_cut n ih lo hi p tr (cut xs y ys c i j w d) h full = go (split k y.entry.low)
    where
      rs : List Row
      rs = (s p).rows

      at : (g : Entry → ℕ) → field_holding t k g rs ≡ g y.entry
      at = at_cut (Holds n s In t) k t lo hi xs y ys rs c i j d h.same

      Goal : Outcome → Type 0
      Goal o = EntersWell (suc n) lo hi p (xs ++ (y ∷ ys)) o

      step_from : Bool → ℕ → ℕ → Outcome
      step_from b x m =
          cond b (finish t (enter n t k v s alloc x).store alloc (enter n t k v s alloc x).made p
          (relink t m (enter n t k v s alloc x).parts (gained t k v rs))) (finish t s alloc 0 p (gained t k v rs))

      pass : (b : Bool) (x m : ℕ) → ltb (field_holding t k (λ z. z.low) rs) k ≡ b → field_holding t k (λ z. z.page) rs ≡ x
          → field_holding t k (λ z. z.low) rs ≡ m → Goal (step_from b x m) → Goal (enter (suc n) t k v s alloc p)
      pass b x m e f g r = subst₃ (λ (b' : Bool) (x' m' : ℕ). Goal (step_from b' x' m')) (sym e) (sym f) (sym g) r

      go : (k ≤ y.entry.low) ⊎ (y.entry.low < k) → Goal (enter (suc n) t k v s alloc p)
      go (inl e) =
          pass
          false
          y.entry.page
          y.entry.low
          (rw (at (λ z. z.low)) (le-ltb _ _ e))
          (at (λ z. z.page))
          (at (λ z. z.low))
          (alone (suc n) t now (index_kind IsKnown t n) s In alloc allocates u lo hi p _ (length (xs ++ (y ∷ ys))) _ (xs ++ (y ∷ ys))
          (xs ++ (more v y ∷ ys)) (gained t k v rs) h
          (chain_join (Holds n s In t) lo y.entry.low hi xs (more v y ∷ ys) c
          (record { first = refl; some = omega arith; under = w; rest = d }))
          (gained_here (Holds n s In t) k t lo hi xs y ys rs c i j d h.same now v (omega arith))
          (λ q a b. lookup_here (Holds n s In t) (lookup_tree n q) q k v lo hi xs y ys c d i j b (omega arith))
          (λ a b f. sum_live_past t a b f _ _ _ rs)
          (settled_replaced t _ _ _ rs) (
            let f = all_split (Filled IsKnown n) xs (y ∷ ys) full in all_join _ xs (more v y ∷ ys) f.0 f.1,
            omega
                (arith, length-append xs (more v y ∷ ys), length-append xs (y ∷ ys)),
          )
          (omega (
            arith,
            gained_length (Holds n s In t) t lo hi (xs ++ (y ∷ ys)) rs h.chain h.same k v,
            length-append xs (more v y ∷ ys),
            length-append xs (y ∷ ys),
            below_append (potential n s) xs (more v y ∷ ys),
            below_append (potential n s) xs (y ∷ ys),
          )))
      go (inr e) =
          let o = enter n t k v s alloc y.entry.page in
          let r =
          ih y.entry.low y.entry.high y.entry.page y.below i j w
          (all_split (Filled IsKnown n) xs (y ∷ ys) full).1.0.0 in
          pass
          true
          y.entry.page
          y.entry.low
          (rw (at (λ z. z.low)) (lt-ltb _ _ e))
          (at (λ z. z.page))
          (at (λ z. z.low))
          (by_parts n lo hi p xs y ys c i j w d h full e o r o.parts r.yields r.spent)

  -- Entering a point into a held page, with every overflow.
  pub enter_keeps : (n lo hi p : ℕ) (tr : Tree n) → lo ≤ k → k < hi → Holds n s In t lo hi p tr
      → Full IsKnown n tr → EntersWell n lo hi p tr (enter n t k v s alloc p)
  enter_keeps zero lo hi p tr i j h full = leaf_cut lo hi p tr (cut_at Leaf lo hi k tr h.chain i j) h full
  enter_keeps (suc n) lo hi p tr i j h full =
      index_cut n (λ lo hi p tr. enter_keeps n lo hi p tr) lo hi p tr (cut_at (Holds n s In t) lo hi k tr h.chain i j) h
      full
