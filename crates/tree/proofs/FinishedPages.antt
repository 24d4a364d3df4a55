-- Step 5 in the model: the page takes its rows, or its live rows go to one new page or to two. The lookups stay, each page is full enough,
-- and the potential pays for the new pages.
use Prim.Native.Nat.{ℕ, suc, ◌+◌, ◌≤◌, ◌<◌, ◌*◌}
use native.Mathlib.Omega.{arith}
use mathlib.Core.Path.{◌≡◌, refl, ap, sym, subst}
use mathlib.Core.List.{List, [], ◌∷◌, ◌++◌}
use mathlib.Core.Bool.{false}
use mathlib.Core.Logic.{◌⊎◌, inl, inr}
use lib.ListN.{length, take, drop, take-append-drop, length-take, length-drop, length-append}
use borrow.Author.Tests.{le-leb, lt-leb}
use Rattle.words.specs.Words.{open_end}
use Rattle.tree.specs.Overflow.{lower_half}
use Rattle.tree.specs.Row.{row_limit, copy_limit}
use Rattle.tree.proofs.ModelPages.{◌≈◌, Entry, Row, Page, sum_live, born_all}
use Rattle.tree.proofs.ModelTrees.{Slot, sum_slots, Chain}
use Rattle.tree.proofs.ModelSteps.{stay, copy, Outcome, put_at, total_amount, plus_first, new_page, halved, moved, finish}
use Rattle.tree.proofs.ModelPromise.{Yields, Cost, sum_below, All}
use Rattle.tree.proofs.ReplacedRows.{tests, split, sum_live_born, length_born, sum_live_length}
use Rattle.tree.proofs.HeldTrees.{chain_map}
use Rattle.tree.proofs.SlotCuts.{lookup_append}
use Rattle.tree.proofs.GainedSlots.{more_first}
use Rattle.tree.proofs.PageKinds.{PageKind, held_page, page_lookup, page_potential, Enough}
use Rattle.tree.proofs.OrderedSlots.{entries_of, sum_entries_of, ordered_is}
use Rattle.tree.proofs.SlotLaws.{entries_take, entries_drop, entries_length, sum_slots_length, below_append, all_split}
use Rattle.tree.proofs.SlotLaws.{all_more, chain_part, chain_lt, lookup_above, lookup_below, lookup_more, alike}
use Rattle.tree.proofs.TakenPages.{After, Allocates, untaken, after_more, after_new}

-- Step 5, for a kind of page
module _ {A : Type 0} (n t : ℕ) (now : t < open_end) (kind : PageKind A n t) where
  -- A page that was written anew.
  held_new : (s : ℕ → Page) (In : ℕ → Type 0) (lo hi p : ℕ) (tr : List (Slot A)) (g : Page) → s p ≡ g → In p → g.birth ≤ t → lo < hi
      → g.level ≡ n → g.low ≡ lo → g.high ≡ hi → ((f : Entry → ℕ) → sum_slots f tr ≡ sum_live t f g.rows)
      → Chain (kind.under s In) lo hi tr → (held_page kind) s In lo hi p tr
  held_new s In lo hi p tr g e i o w a b d same c =
      record {
        wide = w;
        is_in_use = i;
        born = omega (arith, ap (λ (x : Page). x.birth) e);
        level = rw e a;
        low = rw e b;
        high = rw e d;
        same = λ f. rw e (same f);
        chain = c;
      }

  same_born : (tr : List (Slot A)) (f : Entry → ℕ) → sum_slots f tr ≡ sum_live t f (born_all t (entries_of tr))
  same_born tr f = rw (sum_live_born t now f (entries_of tr), sum_entries_of)

  lift : (s s' : ℕ → Page) (In In' : ℕ → Type 0) (lo hi : ℕ) (tr : List (Slot A))
      → ((z : ℕ) → In z → (s z).level < n → In' z × (s' z ≡ s z)) → Chain (kind.under s In) lo hi tr → Chain (kind.under s' In') lo hi tr
  lift s s' In In' lo hi tr k c =
      chain_map (kind.under s In) (kind.under s' In') lo hi tr
      (λ a b d x j l h. kind.under_frame s s' In In' a b d x (λ z e f. ((k z e f).0, alike t (k z e f).1)) h) c

  lift_potential : (s s' : ℕ → Page) (In : ℕ → Type 0) (lo hi : ℕ) (tr : List (Slot A)) → ((z : ℕ) → In z → (s z).level < n → s' z ≡ s z)
      → Chain (kind.under s In) lo hi tr → sum_below (kind.potential_in s') tr ≡ sum_below (kind.potential_in s) tr
  lift_potential s s' In lo hi [] k c = refl
  lift_potential s s' In lo hi (y ∷ ys) k c =
      rw (
        kind.potential_frame s s' In lo y.entry.high y.entry.page y.below k c.under,
        lift_potential s s' In
            y.entry.high hi ys k c.rest,
      )

  -- A page that was written anew, with rows for its slots alone.
  potential_new : (s s' : ℕ → Page) (In : ℕ → Type 0) (lo hi p : ℕ) (tr : List (Slot A)) (g : Page) → s' p ≡ g → g.rows ≡ born_all t (entries_of tr)
      → ((z : ℕ) → In z → (s z).level < n → s' z ≡ s z) → Chain (kind.under s In) lo hi tr
      → (page_potential kind) s' p tr ≡ kind.own (length tr) (length tr) + sum_below (kind.potential_in s) tr
  potential_new s s' In lo hi p tr g e b k c = rw (e, b, length_born, entries_length, lift_potential s s' In lo hi tr k c)

  -- The call has taken m pages before, from a tree that used u
  module _ (s : ℕ → Page) (In : ℕ → Type 0) (alloc : ℕ → ℕ) (allocates : Allocates In alloc) (m u lo hi p : ℕ) (L : ℕ → ℕ) (M : ℕ) (B : ℕ)
      (is_in_use : After In alloc m p) (born : (s p).birth ≤ t) (wide : lo < hi) (level : (s p).level ≡ n) (low : (s p).low ≡ lo)
      (high : (s p).high ≡ hi) where
    abbrev Now : ℕ → Type 0
    Now = After In alloc m

    abbrev pub StandsIn : Outcome → Type 0
    StandsIn o =
        (y : Yields (held_page kind o.store (After In alloc o.made)) (page_lookup kind) L (Enough kind M) lo hi p o.parts)
        × Cost (held_page kind o.store (After In alloc o.made)) (page_lookup kind) L (Enough kind M) lo hi p (page_potential kind o.store)
        (u + o.made) B o.parts y

    halved_holds : (x : Slot A) (xs : List (Slot A)) (z : Slot A) (zs : List (Slot A))
        → Chain (kind.under s Now) lo hi ((x ∷ xs) ++ (z ∷ zs))
        → ((q : ℕ) → lo ≤ q → q < hi → page_lookup kind ((x ∷ xs) ++ (z ∷ zs)) q ≈ L q) → (r : ℕ) → row_limit < r
        → length ((x ∷ xs) ++ (z ∷ zs)) ≤ r → 20 ≤ length (x ∷ xs) → 20 ≤ length (z ∷ zs) → copy_limit < length ((x ∷ xs) ++ (z ∷ zs))
        → All kind.Fill ((x ∷ xs) ++ (z ∷ zs))
        → kind.own r (length ((x ∷ xs) ++ (z ∷ zs))) + sum_below (kind.potential_in s) ((x ∷ xs) ++ (z ∷ zs)) + 18 * (u + m) ≤ B
        → StandsIn (halved t s alloc m (s p) (entries_of (x ∷ xs)) (entries_of (z ∷ zs)))
    halved_holds x xs z zs c adds rows many fits few few' big each budget =
        let each₂ = all_split kind.Fill (x ∷ xs) (z ∷ zs) each in
        let o = halved t s alloc m (s p) (entries_of (x ∷ xs)) (entries_of (z ∷ zs)) in
        let w = total_amount (entries_of (x ∷ xs)) in
        let r = chain_part (kind.under s Now) lo hi (x ∷ xs) z zs c in
        let l = chain_lt (kind.under s Now) lo z.entry.low x xs r.0 in
        let h = chain_lt (kind.under s Now) z.entry.low hi z zs r.1 in
        let same_page : (y : ℕ) → After In alloc m y → o.store y ≡ s y =
        λ y i. let free = untaken In alloc allocates m y i in
        let a : y ≡ alloc (suc m) → ⊥ = free (suc m) (omega arith) in
        let b : y ≡ alloc m → ⊥ = free m (omega arith) in
        simp tests in
        let g₁ = new_page t (s p).level (s p).low z.entry.low (entries_of (x ∷ xs)) in
        let g₂ = new_page t (s p).level z.entry.low (s p).high (plus_first w (entries_of (z ∷ zs))) in
        let e₁ : o.store (alloc m) ≡ g₁ = let a : alloc m ≡ alloc (suc m) → ⊥ = λ e. omega (arith, allocates.once m (suc m) e) in simp tests in
        let e₂ : o.store (alloc (suc m)) ≡ g₂ = simp tests in
        let up : (a b : ℕ) (tr : List (Slot A)) → Chain (kind.under s Now) a b tr → Chain (kind.under o.store (After In alloc o.made)) a b tr =
        λ a b tr d. lift s o.store Now (After In alloc o.made) a b tr
        (λ y i j. (after_more In alloc m o.made y (omega arith) i, same_page y i)) d in (
          (
            (
              x ∷ xs,
              held_new o.store (After In alloc o.made) lo z.entry.low (alloc m) (x ∷ xs) g₁ e₁
                  (after_new In alloc m o.made (alloc m) (omega arith) refl) (omega arith) l level low refl (same_born (x ∷ xs))
                  (up lo z.entry.low (x ∷ xs) r.0),
              λ q i j.
                  omega (
                    arith,
                    adds q i (omega arith),
                    lookup_append q (λ a. kind.lookup_in a q) (x ∷ xs) (z ∷ zs),
                    lookup_above
                        (kind.under s Now) q (λ a. kind.lookup_in a q) z.entry.low hi (z ∷ zs) r.1 j,
                  ),
              (each₂.0, few),
            ),
            (
              more_first w (z ∷ zs),
              held_new o.store (After In alloc o.made) z.entry.low hi (alloc (suc m)) (more_first w (z ∷ zs)) g₂ e₂
                  (after_new In alloc (suc m) o.made (alloc (suc m)) (omega arith) refl) (omega arith) h level refl high
                  (same_born (more_first w (z ∷ zs))) (up z.entry.low hi (z ∷ zs) r.1),
              λ q i j.
                  omega (
                    arith,
                    adds q (omega arith) j,
                    lookup_append q (λ a. kind.lookup_in a q) (x ∷ xs) (z ∷ zs),
                    lookup_below (kind.under s Now) q (λ a. kind.lookup_in a q) lo z.entry.low (x ∷ xs) r.0 i,
                    sum_entries_of (λ e. e.amount) (x ∷ xs),
                    lookup_more (kind.under s Now) q (λ a. kind.lookup_in a q) w z.entry.low hi (z ∷ zs) r.1 h i,
                  ),
              (all_more kind.Fill w (kind.fill_more w) (z ∷ zs) each₂.1, few'),
            ),
          ),
          (let k₁ = potential_new s o.store Now lo z.entry.low (alloc m) (x ∷ xs) g₁ e₁ refl (λ y i j. same_page y i) r.0 in
              let k₂ =
              potential_new s o.store Now z.entry.low hi (alloc (suc m)) (more_first w (z ∷ zs)) g₂ e₂ refl (λ y i j. same_page y i)
              r.1 in
              let k₃ =
              kind.two_free rows (length ((x ∷ xs) ++ (z ∷ zs))) (length (x ∷ xs)) (length (z ∷ zs)) many big fits
              (sym (length-append (x ∷ xs) (z ∷ zs))) few few' in
              omega (arith, below_append (kind.potential_in s) (x ∷ xs) (z ∷ zs))),
        )

    copy_holds : (tr : List (Slot A)) → Chain (kind.under s Now) lo hi tr → ((q : ℕ) → lo ≤ q → q < hi → page_lookup kind tr q ≈ L q)
        → (r : ℕ) → row_limit < r → length tr ≤ r → length tr ≤ copy_limit → Enough kind M false lo hi p tr
        → kind.own r (length tr) + sum_below (kind.potential_in s) tr + 18 * (u + m) ≤ B
        → StandsIn
        (record {
          store = put_at s (alloc m) (new_page t (s p).level (s p).low (s p).high (entries_of tr));
          made = suc m;
          parts = copy (alloc m);
        })
    copy_holds tr c adds rows many fits few each budget =
        let g = new_page t (s p).level (s p).low (s p).high (entries_of tr) in
        let s' : ℕ → Page = put_at s (alloc m) g in
        let e : s' (alloc m) ≡ g = simp tests in
        let other : (y : ℕ) → After In alloc m y → s' y ≡ s y =
        λ y i. let b : y ≡ alloc m → ⊥ = untaken In alloc allocates m y i m (omega arith) in simp tests in (
          (
            tr,
            held_new s' (After In alloc (suc m)) lo hi (alloc m) tr g e (after_new In alloc m (suc m) (alloc m) (omega arith) refl) (omega arith)
                wide level low high (same_born tr)
                (lift s s' Now (After In alloc (suc m)) lo hi tr (λ y i j. (after_more In alloc m (suc m) y (omega arith) i, other y i)) c),
            adds,
            each,
          ),
          omega (arith, kind.copy_frees rows (length tr) many few fits, potential_new s s' Now lo hi (alloc m) tr g e refl (λ y i j. other y i) c),
        )

    stay_holds : (tr : List (Slot A)) (rs : List Row) → Chain (kind.under s Now) lo hi tr
        → ((f : Entry → ℕ) → sum_slots f tr ≡ sum_live t f rs) → ((q : ℕ) → lo ≤ q → q < hi → page_lookup kind tr q ≈ L q)
        → Enough kind M false lo hi p tr → kind.own (length rs) (length tr) + sum_below (kind.potential_in s) tr + 18 * (u + m) ≤ B
        → StandsIn
        (record {
          store = put_at s p (record { level = (s p).level; low = (s p).low; high = (s p).high; birth = (s p).birth; rows = rs });
          made = m;
          parts = stay;
        })
    stay_holds tr rs c same adds each budget =
        let g : Page = record { level = (s p).level; low = (s p).low; high = (s p).high; birth = (s p).birth; rows = rs } in
        let s' : ℕ → Page = put_at s p g in
        let e : s' p ≡ g = simp tests in
        let other : (y : ℕ) → (s y).level < n → s' y ≡ s y =
        λ y i. let b : y ≡ p → ⊥ = λ r. omega (arith, ap (λ (z : ℕ). (s z).level) r) in simp tests in (
          (
            tr,
            held_new s' Now lo hi p tr g e is_in_use born wide level low high same (lift s s' Now Now lo hi tr (λ y i j. (i, other y j)) c),
            adds,
            each,
          ),
          rw (e, lift_potential s s' Now lo hi tr (λ y i j. other y j) c) budget,
        )

    moved_holds : (tr : List (Slot A)) → Chain (kind.under s Now) lo hi tr → ((q : ℕ) → lo ≤ q → q < hi → page_lookup kind tr q ≈ L q)
        → (r : ℕ) → row_limit < r → length tr ≤ r → Enough kind M false lo hi p tr
        → kind.own r (length tr) + sum_below (kind.potential_in s) tr + 18 * (u + m) ≤ B → StandsIn (moved t s alloc m (s p) (entries_of tr))
    moved_holds tr c adds r many fits each budget = go (split (length (entries_of tr)) copy_limit)
      where
        Facts : List (Slot A) → Type 0
        Facts l =
            record {
              chain : Chain (kind.under s Now) lo hi l;
              adds : (q : ℕ) → lo ≤ q → q < hi → page_lookup kind l q ≈ L q;
              fits : length l ≤ r;
              big : copy_limit < length l;
              each : All kind.Fill l;
              budget : kind.own r (length l) + sum_below (kind.potential_in s) l + 18 * (u + m) ≤ B;
            }

        parts : (a b : List (Slot A)) → Facts (a ++ b) → 20 ≤ length a → 20 ≤ length b
            → StandsIn (halved t s alloc m (s p) (entries_of a) (entries_of b))
        parts [] b f i j = absurd (omega arith)
        parts (x ∷ xs) [] f i j = absurd (omega arith)
        parts (x ∷ xs) (z ∷ zs) f i j = halved_holds x xs z zs f.chain f.adds r many f.fits i j f.big f.each f.budget

        go : (length (entries_of tr) ≤ copy_limit) ⊎ (copy_limit < length (entries_of tr)) → StandsIn (moved t s alloc m (s p) (entries_of tr))
        go (inl h) =
            rw (le-leb (length (entries_of tr)) copy_limit h) (copy_holds tr c adds r many fits (omega (arith, entries_length tr)) each budget)
        go (inr h) =
            let i = lower_half (length (entries_of tr)) in
            rw (lt-leb (length (entries_of tr)) copy_limit h)
            (rw (entries_take, entries_drop)
            (parts (take i tr) (drop i tr)
            (subst Facts (sym (take-append-drop i tr))
            (record { chain = c; adds = adds; fits = fits; big = omega (arith, entries_length tr); each = each.0; budget = budget }))
            (rw length-take (omega (arith, entries_length tr))) (rw length-drop (omega (arith, entries_length tr)))))

    pub finish_holds : (tr : List (Slot A)) (rs : List Row) → Chain (kind.under s Now) lo hi tr
        → ((f : Entry → ℕ) → sum_slots f tr ≡ sum_live t f rs) → ((q : ℕ) → lo ≤ q → q < hi → page_lookup kind tr q ≈ L q)
        → Enough kind M false lo hi p tr → kind.own (length rs) (length tr) + sum_below (kind.potential_in s) tr + 18 * (u + m) ≤ B
        → StandsIn (finish t s alloc m p rs)
    finish_holds tr rs c same adds each budget = go (split (length rs) row_limit)
      where
        go : (length rs ≤ row_limit) ⊎ (row_limit < length rs) → StandsIn (finish t s alloc m p rs)
        go (inl h) = rw (le-leb (length rs) row_limit h) (stay_holds tr rs c same adds each budget)
        go (inr h) =
            rw (lt-leb (length rs) row_limit h)
            (rw (ordered_is (kind.under s Now) t lo hi tr rs c same)
            (moved_holds tr c adds (length rs) h (omega (arith, sum_live_length t rs, same (λ e. 1), sum_slots_length tr)) each budget))
