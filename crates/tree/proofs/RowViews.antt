-- Steps 2, 3 and 7 in the rows of one page are the model's steps: in a page whose live rows are the slots of a chain,
-- around the slot that holds the key.
use Prim.Native.Nat.{ℕ, ◌≤◌, ◌<◌}
use native.Mathlib.Omega.{arith}
use mathlib.Core.Path.{◌≡◌, refl, sym, ap, ap₂, ◌∙◌}
use mathlib.Core.Logic.{◌⊎◌, inl, inr}
use mathlib.Core.Bool.{Bool, true, false, cond}
use mathlib.Core.List.{List, [], ◌∷◌, ◌++◌, map}
use lib.Dec.{ltb, eqb}
use lib.ListN.{length, set, get_or, length-append, length-set, get_or-append}
use lib.Seq.{get_or-set_other}
use borrow.Author.Tests.{leb-true, lt-ltb, le-ltb}
use Rattle.words.specs.declared.value.Value.{Value}
use Rattle.words.specs.Value as value
use Rattle.words.proofs.Measure.{Measure}
use Rattle.words.specs.Words.{open_end}
use Rattle.tree.specs.declared.types.Row.{Row}
use Rattle.tree.specs.KeyOrder.{Placed, key_order}
use Rattle.tree.specs.TrueValue.{Search, none, one, first, holding_row}
use Rattle.tree.specs.Edit.{ended, born_at}
use Rattle.tree.specs.Fresh.{new_row}
use Rattle.tree.proofs.Places.{AtPlace, order_places}
use Rattle.tree.specs.RowSteps as steps
use Rattle.tree.specs.RowSteps.{Point, row_around, row_from, gain_in, gain_rows, cut_in, leaf_rows, relink_row}
use Rattle.tree.specs.declared.types.Became.{Became}
use Rattle.tree.specs.declared.types.Became.TheVariants.{Stays, Copied, Halved}
use Rattle.tree.specs.RowSteps.{cut_at, linked_to}
use Rattle.tree.proofs.ModelPages.{Entry, only_if, sum_live, field_holding, replaced}
use Rattle.tree.proofs.ModelTrees.{Slot, Chain, sum_slots}
use Rattle.tree.proofs.ModelSteps.{Parts, stay, copy, two, plus_amount, none_further, gained, cut_row, relink}
use Rattle.tree.proofs.ReplacedRows.{tests, split}
use Rattle.tree.proofs.HeldTrees.{chain_le}
use Rattle.tree.proofs.SlotCuts.{chain_join}
use Rattle.tree.proofs.GainedSlots.{more_first, at_cut, gained_next}
use Rattle.tree.proofs.SlotLaws.{chain_more}
use Rattle.tree.proofs.RowCounts.{one_start}
use Rattle.tree.proofs.OrderedSlots.{entries_of, ordered_is}
use Rattle.tree.proofs.View.{view_rows, placed_entry, order_view}
use Rattle.tree.proofs.ReplaceViews.{replace_view, none_replaced}
use Rattle.tree.proofs.OneGain.{none_gains}
use Rattle.tree.proofs.Searches.{first_has, first_passes, map_search, first_map, inside, from, holding, holding_some, inside_some}
use Rattle.tree.proofs.Searches.{inside_none, from_here, from_last, from_next}

-- What a page became, in the model's words
abbrev pub parts_of : Became → Parts
parts_of Stays = stay
parts_of (Copied c) = copy c.page
parts_of (Halved c d) = two c.page d.page c.high

-- The new pages cover the key range of the old one; their keys fit
abbrev pub Covers : ℕ → ℕ → Became → Type 0
Covers lo hi Stays = Unit {0}
Covers lo hi (Copied c) = (c.low ≡ lo) × (c.high ≡ hi)
Covers lo hi (Halved c d) = (c.low ≡ lo) × (c.high ≡ d.low) × (d.high ≡ hi) × (c.high < 65536)

-- No row starts at the end of a chain
starts_none : {A : Type 0} (P : ℕ → ℕ → ℕ → A → Type 0) (m lo hi : ℕ) (tr : List (Slot A)) → Chain P lo hi tr → hi ≤ m
    → sum_slots (λ e. only_if (eqb e.low m) 1) tr ≡ 0
starts_none P m lo hi [] c h = refl
starts_none P m lo hi (y ∷ ys) c h =
    let l = chain_le P y.entry.high hi ys c.rest in
    let n : y.entry.low ≡ m → ⊥ = omega arith in
    simp (tests, starts_none P m y.entry.high hi ys c.rest h)

-- A row that was found, with its place
pub record FoundRow (measure : Value → ℕ) (t : ℕ) (rows : List Row) (search : Search Placed) (e : Entry) : Type 0 where
  pub item : Placed
  pub is_found : search ≡ one item
  pub entry : placed_entry measure item ≡ e
  pub at : AtPlace t item.row rows item

some_found : {A B : Type 0} (f : A → B) (s : Search A) (e : B) → map_search f s ≡ one e → (x : A) × (s ≡ one x) × (f x ≡ e)
some_found f none e h = let z : ◌≡◌ {A = ℕ} 0 1 = cc in absurd (omega arith)
some_found f (one x) e h = (x, refl, cc)

none_found : {A B : Type 0} (f : A → B) (s : Search A) → map_search f s ≡ none → s ≡ none
none_found f none h = refl
none_found f (one x) h = let z : ◌≡◌ {A = ℕ} 0 1 = cc in absurd (omega arith)

-- Step 3 leaves a row with a low key below the point's where it is
module _ (p : Point) (rows : List Row) (x : Placed) (at : AtPlace p.tick x.row rows x) (below : x.row.low < p.key) where
  set_keeps : (i : ℕ) (a : Row) (b : List Row) → (x.place ≡ i → ⊥) → AtPlace p.tick x.row (set rows i a ++ b) x
  set_keeps i a b n =
      let l : x.place < length (set rows i a) = rw length-set at.within in
      record {
        within = omega (arith, length-append (set rows i a) b);
        same = at.same ∙ sym (get_or-append (set rows i a) b x.row x.place l ∙ get_or-set_other rows i x.place a x.row n);
        alive = at.alive;
      }

  pub gain_keeps : AtPlace p.tick x.row (gain_rows p rows) x
  unfolding gain_rows
  gain_keeps = go (row_from p rows) refl
    where
      go : (s : Search Placed) → row_from p rows ≡ s → AtPlace p.tick x.row (gain_in p rows s) x
      go none e = at
      go (one z) e = step (eqb z.row.birth p.tick)
        where
          z_at : AtPlace p.tick x.row rows z
          z_at = first_has (AtPlace p.tick x.row rows) _ (key_order p.tick rows) (order_places p.tick x.row rows) e

          above : p.key ≤ z.row.low
          above = leb-true _ _ (first_passes _ (key_order p.tick rows) e)

          apart : x.place ≡ z.place → ⊥
          apart f =
              let same : x.row ≡ z.row = at.same ∙ ap (λ (n : ℕ). get_or rows n x.row) f ∙ sym z_at.same in
              omega (arith, above, ap (λ (r : Row). r.low) same)

          step : (b : Bool)
              → AtPlace p.tick x.row
              (cond b (set rows z.place (steps.gained p.value z.row) ++ [])
              (set rows z.place (ended p.tick z.row) ++ (born_at p.tick (steps.gained p.value z.row) ∷ []))) x
          step true = set_keeps z.place _ [] apart
          step false = set_keeps z.place _ _ apart

module _ (measure : Value → ℕ) (m : Measure measure) {A : Type 0} (P : ℕ → ℕ → ℕ → A → Type 0) (p : Point) (now : p.tick < open_end)
    (lo hi : ℕ) (xs : List (Slot A)) (y : Slot A) (ys : List (Slot A)) (rows : List Row) (c : Chain P lo y.entry.low xs)
    (i : y.entry.low ≤ p.key) (j : p.key < y.entry.high) (w : P y.entry.low y.entry.high y.entry.page y.below)
    (d : Chain P y.entry.high hi ys)
    (same : (f : Entry → ℕ) → sum_slots f (xs ++ (y ∷ ys)) ≡ sum_live p.tick f (view_rows measure rows)) where
  all_chain : Chain P lo hi (xs ++ (y ∷ ys))
  all_chain = chain_join P lo y.entry.low hi xs (y ∷ ys) c (record { first = refl; some = omega arith; under = w; rest = d })

  order_is : map (placed_entry measure) (key_order p.tick rows) ≡ entries_of (xs ++ (y ∷ ys))
  order_is = order_view measure p.tick rows ∙ ordered_is P p.tick lo hi (xs ++ (y ∷ ys)) (view_rows measure rows) all_chain same

  search_is : (test : Entry → Bool)
      → map_search (placed_entry measure) (first (λ (x : Placed). test (placed_entry measure x)) (key_order p.tick rows))
      ≡ first test (entries_of (xs ++ (y ∷ ys)))
  search_is test = first_map (placed_entry measure) test (key_order p.tick rows) ∙ ap (first test) order_is

  pub find : (test : Entry → Bool) (e : Entry) → first test (entries_of (xs ++ (y ∷ ys))) ≡ one e
      → FoundRow measure p.tick rows (first (λ (x : Placed). test (placed_entry measure x)) (key_order p.tick rows)) e
  find test e h =
      let r = some_found (placed_entry measure) _ e (search_is test ∙ h) in
      record {
        item = r.0;
        is_found = r.1;
        entry = r.2;
        at = first_has (AtPlace p.tick r.0.row rows) _ (key_order p.tick rows) (order_places p.tick r.0.row rows) r.1;
      }

  -- The row that holds the key
  pub holding_one : FoundRow measure p.tick rows (holding_row p.tick p.key rows) y.entry
  holding_one = find (holding p.key) y.entry (holding_some P p.key lo hi xs y ys c i j d)

  -- The row with the key inside
  pub around_some : y.entry.low < p.key → FoundRow measure p.tick rows (row_around p rows) y.entry
  around_some l = find (inside p.key) y.entry (inside_some P p.key lo hi xs y ys c i j d l)

  pub around_none : p.key ≤ y.entry.low → row_around p rows ≡ none
  around_none l = none_found (placed_entry measure) _ (search_is (inside p.key) ∙ inside_none P p.key lo hi xs y ys c i j d l)

  at_low : (mm : ℕ) → sum_live p.tick (λ e. only_if (eqb e.low mm) 1) (view_rows measure rows) ≤ 1
  at_low mm = omega (arith, same (λ e. only_if (eqb e.low mm) 1), one_start P mm 1 lo hi (xs ++ (y ∷ ys)) all_chain)

  -- Step 3
  gain_one : (e : Entry) (mm : ℕ) → e.low ≡ mm → FoundRow measure p.tick rows (row_from p rows) e
      → view_rows measure (gain_rows p rows) ≡ replaced p.tick mm (plus_amount (measure p.value)) none_further (view_rows measure rows)
  unfolding gain_rows
  gain_one e mm is r =
      ap (λ (s : Search Placed). view_rows measure (gain_in p rows s)) r.is_found
      ∙ replace_view measure p.tick mm (plus_amount (measure p.value)) none_further rows r.item r.at
      (ap (λ (f : Entry). f.low) r.entry ∙ is) (at_low mm)
      (steps.gained p.value r.item.row) []
      (λ k. record {
        birth = r.item.row.birth;
        end = r.item.row.end;
        entry =
            record {
              low = r.item.row.low;
              high = r.item.row.high;
              amount = m.of_plus r.item.row.value p.value k;
              page = r.item.row.child;
            };
      })
      refl

  gain_none : (mm : ℕ) → row_from p rows ≡ none → sum_live p.tick (λ e. only_if (eqb e.low mm) 1) (view_rows measure rows) ≡ 0
      → view_rows measure (gain_rows p rows) ≡ replaced p.tick mm (plus_amount (measure p.value)) none_further (view_rows measure rows)
  gain_none mm e h =
      ap (view_rows measure) (none_gains p rows e)
      ∙ sym (none_replaced p.tick mm (plus_amount (measure p.value)) none_further (view_rows measure rows) h)

  -- The model's fields of the slot
  pub field : (g : Entry → ℕ) → field_holding p.tick p.key g (view_rows measure rows) ≡ g y.entry
  field = at_cut P p.key p.tick lo hi xs y ys (view_rows measure rows) c i j d same

  pub gain_view : view_rows measure (gain_rows p rows) ≡ gained p.tick p.key (measure p.value) (view_rows measure rows)
  gain_view = go (split p.key y.entry.low)
    where
      by_low : (mm : ℕ) → cond (ltb y.entry.low p.key) y.entry.high p.key ≡ mm
          → view_rows measure (gain_rows p rows) ≡ replaced p.tick mm (plus_amount (measure p.value)) none_further (view_rows measure rows)
          → view_rows measure (gain_rows p rows) ≡ gained p.tick p.key (measure p.value) (view_rows measure rows)
      by_low mm e h =
          h
          ∙ ap (λ (n : ℕ). replaced p.tick n (plus_amount (measure p.value)) none_further (view_rows measure rows))
          (sym (ap₂ (λ (a b : ℕ). cond (ltb a p.key) b p.key) (field (λ e. e.low)) (field (λ e. e.high)) ∙ e))

      next : (zs : List (Slot A)) → ys ≡ zs → Chain P y.entry.high hi zs → y.entry.low < p.key
          → view_rows measure (gain_rows p rows)
          ≡ replaced p.tick y.entry.high (plus_amount (measure p.value)) none_further (view_rows measure rows)
      next [] e ch l =
          gain_none y.entry.high
          (none_found (placed_entry measure) _ (search_is (from p.key) ∙ from_last P p.key lo hi xs y ys c i j d l e))
          (sym (same (λ f. only_if (eqb f.low y.entry.high) 1))
          ∙ starts_none P y.entry.high lo hi (xs ++ (y ∷ ys)) all_chain (omega arith))
      next (z ∷ zs) e ch l =
          gain_one z.entry y.entry.high ch.first
          (find (from p.key) z.entry (from_next P p.key lo hi xs y ys c i j d z zs l e (sym ch.first)))

      go : (p.key ≤ y.entry.low) ⊎ (y.entry.low < p.key)
          → view_rows measure (gain_rows p rows) ≡ gained p.tick p.key (measure p.value) (view_rows measure rows)
      go (inl l) =
          by_low p.key (rw (le-ltb y.entry.low p.key l))
          (gain_one y.entry p.key (omega arith) (find (from p.key) y.entry (from_here P p.key lo hi xs y ys c i j d l)))
      go (inr l) = by_low y.entry.high (rw (lt-ltb y.entry.low p.key l)) (next ys refl d l)

  -- Step 2
  pub leaf_view : view_rows measure (leaf_rows p rows)
      ≡ cond (ltb (field_holding p.tick p.key (λ e. e.low) (view_rows measure rows)) p.key)
      (cut_row p.tick p.key (measure p.value) (view_rows measure rows))
      (gained p.tick p.key (measure p.value) (view_rows measure rows))
  unfolding leaf_rows
  leaf_view = go (split p.key y.entry.low)
    where
      by_test : (b : Bool) → ltb y.entry.low p.key ≡ b
          → view_rows measure (leaf_rows p rows)
          ≡ cond b (cut_row p.tick p.key (measure p.value) (view_rows measure rows))
          (gained p.tick p.key (measure p.value) (view_rows measure rows))
          → view_rows measure (leaf_rows p rows)
          ≡ cond (ltb (field_holding p.tick p.key (λ e. e.low) (view_rows measure rows)) p.key)
          (cut_row p.tick p.key (measure p.value) (view_rows measure rows))
          (gained p.tick p.key (measure p.value) (view_rows measure rows))
      by_test b e h =
          h
          ∙ ap (λ (a : Bool). cond a (cut_row p.tick p.key (measure p.value) (view_rows measure rows))
          (gained p.tick p.key (measure p.value) (view_rows measure rows)))
          (sym (ap (λ (n : ℕ). ltb n p.key) (field (λ e. e.low)) ∙ e))

      go : (p.key ≤ y.entry.low) ⊎ (y.entry.low < p.key)
          → view_rows measure (leaf_rows p rows)
          ≡ cond (ltb (field_holding p.tick p.key (λ e. e.low) (view_rows measure rows)) p.key)
          (cut_row p.tick p.key (measure p.value) (view_rows measure rows))
          (gained p.tick p.key (measure p.value) (view_rows measure rows))
      go (inl l) =
          by_test false (le-ltb y.entry.low p.key l)
          (ap (λ (s : Search Placed). view_rows measure (cut_in p rows s)) (around_none l) ∙ gain_view)
      go (inr l) =
          let r = around_some l in
          by_test true (lt-ltb y.entry.low p.key l)
          (ap (λ (s : Search Placed). view_rows measure (cut_in p rows s)) r.is_found
          ∙ replace_view measure p.tick (field_holding p.tick p.key (λ e. e.low) (view_rows measure rows)) _ _ rows r.item
          r.at
          (ap (λ (f : Entry). f.low) r.entry ∙ sym (field (λ e. e.low))) (at_low _)
          (cut_at p.key r.item.row) (new_row p.tick p.key r.item.row.high 0 p.value ∷ []) refl refl)

  -- Step 7, after step 3
  pub relink_view : (l : y.entry.low < p.key) (x : Placed) → AtPlace p.tick x.row rows x → placed_entry measure x ≡ y.entry
      → (became : Became) → Covers y.entry.low y.entry.high became
      → view_rows measure (relink_row p.tick x became (gain_rows p rows))
      ≡ relink p.tick y.entry.low (parts_of became) (gained p.tick p.key (measure p.value) (view_rows measure rows))
  unfolding relink_row
  relink_view l x at e became cover = go became cover ∙ ap (relink p.tick y.entry.low (parts_of became)) gain_view
    where
      is_low : x.row.low ≡ y.entry.low
      is_low = ap (λ (f : Entry). f.low) e

      is_high : x.row.high ≡ y.entry.high
      is_high = ap (λ (f : Entry). f.high) e

      still : AtPlace p.tick x.row (gain_rows p rows) x
      still = gain_keeps p rows x at (omega (arith, is_low))

      only : sum_live p.tick (λ f. only_if (eqb f.low y.entry.low) 1) (view_rows measure (gain_rows p rows)) ≤ 1
      only =
          let f : Entry → ℕ = λ f. only_if (eqb f.low y.entry.low) 1 in
          let after : List (Slot A) = xs ++ (y ∷ more_first (measure p.value) ys) in
          let now_same : sum_slots f after ≡ sum_live p.tick f (gained p.tick p.key (measure p.value) (view_rows measure rows)) =
          gained_next P p.key p.tick lo hi xs y ys (view_rows measure rows) c i j d same now (measure p.value) l f in
          let chain : Chain P lo hi after =
          chain_join P lo y.entry.low hi xs (y ∷ more_first (measure p.value) ys) c
          (record { first = refl; some = omega arith; under = w; rest = chain_more P (measure p.value) y.entry.high hi ys d }) in
          let few : sum_slots f after ≤ 1 = one_start P y.entry.low 1 lo hi after chain in
          let eq : sum_live p.tick f (view_rows measure (gain_rows p rows)) ≡ sum_slots f after =
          ap (sum_live p.tick f) gain_view ∙ sym now_same in
          omega arith

      go : (b : Became) → Covers y.entry.low y.entry.high b
          → view_rows measure (relink_row p.tick x b (gain_rows p rows))
          ≡ relink p.tick y.entry.low (parts_of b) (view_rows measure (gain_rows p rows))
      go Stays h = refl
      go (Copied a) h =
          replace_view measure p.tick y.entry.low _ none_further (gain_rows p rows) x still is_low only (linked_to a x.row) []
          (λ k. record {
            birth = x.row.birth;
            end = x.row.end;
            entry =
                record {
                  low = (h.0 ∙ sym is_low) k;
                  high = (h.1 ∙ sym is_high) k;
                  amount = measure x.row.value;
                  page = a.page;
                };
          })
          refl
      go (Halved a b) h =
          replace_view measure p.tick y.entry.low _ _ (gain_rows p rows) x still is_low only (linked_to a x.row)
          (new_row p.tick b.low b.high b.page value.zero ∷ [])
          (λ k. record {
            birth = x.row.birth;
            end = x.row.end;
            entry = record { low = (h.0 ∙ sym is_low) k; high = a.high; amount = measure x.row.value; page = a.page };
          })
          (λ k. record {
            birth = p.tick;
            end = open_end;
            entry = record { low = sym h.1 k; high = (h.2 ∙ sym is_high) k; amount = m.of_zero k; page = b.page };
          }
          ∷ [])
