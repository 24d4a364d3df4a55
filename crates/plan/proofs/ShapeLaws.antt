-- How many rows, and how many live rows, a page has after steps 2, 3 and 7 of an entry.
use Prim.Native.Nat.{ℕ, ◌+◌, ◌≤◌, ◌<◌}
use native.Mathlib.Nat.{le_refl}
use native.Mathlib.Omega.{arith}
use mathlib.Core.Path.{◌≡◌, refl, sym, ap, ◌∙◌}
use mathlib.Core.Bool.{Bool, true, false, cond, ◌&&◌, and-eq-true_iff, and-false}
use mathlib.Core.List.{List, [], ◌∷◌, ◌++◌}
use lib.Dec.{leb, eqb}
use lib.ListN.{length, get_or, set, length-set, length-append, get_or-append}
use lib.Seq.{get_or-set_other}
use borrow.Author.Tests.{le-leb, lt-ltb, le-ltb, ltb-true, leb-true}
use Rattle.words.specs.Words.{open_end}
use Rattle.words.specs.declared.value.Value.{Value}
use Rattle.words.specs.Value.{zero}
use Rattle.tree.specs.declared.types.Row.{Row}
use Rattle.tree.specs.Row.{live}
use Rattle.tree.specs.KeyOrder.{Placed, key_order}
use Rattle.tree.specs.TrueValue.{Search, none, one, first}
use Rattle.tree.specs.Edit.{ended, born_at}
use Rattle.tree.specs.Fresh.{new_row}
use Rattle.page.specs.PageValue.{no_row}
use Rattle.tree.proofs.Lists.{count}
use Rattle.tree.proofs.Places.{AtPlace, order_places}
use Rattle.tree.proofs.Searches.{first_has, first_passes}
use Rattle.tree.specs.RowSteps.{Point, gained, cut_at, linked_to}
use Rattle.tree.specs.declared.types.Child.{Child}
use Rattle.tree.specs.declared.types.Became.TheVariants.{Copied, Halved}
use Rattle.tree.specs.RowSteps.{replace_row, row_around, row_from, gain_in, gain_rows, cut_in, leaf_rows, relink_row}
use Rattle.plan.proofs.RowCounts.{count_kept, count_lost}

-- "A row born at t is altered where it is": the rows that replacing a row appends, besides its further rows
abbrev pub cost_of : ℕ → Placed → ℕ
cost_of t x = cond (eqb x.row.birth t) 0 1

abbrev pub cost_in : ℕ → Search Placed → ℕ
cost_in t none = 0
cost_in t (one x) = cost_of t x

dead : (t : ℕ) (r : Row) → live t (ended t r) ≡ false
dead t r = ap (◌&&◌ (leb r.birth t)) (le-ltb t t (le_refl t)) ∙ and-false (leb r.birth t)

module _ (t : ℕ) (small : t < open_end) where
  -- A row born at t and open is live, because t is no open end
  pub born_live : (r : Row) → live t (born_at t r) ≡ true
  born_live r = (and-eq-true_iff _ _).1 (le-leb t t (le_refl t), lt-ltb t open_end small)

  pub new_live : (low high child : ℕ) (v : Value) → count (live t) (new_row t low high child v ∷ []) ≡ 1
  new_live low high child v = ap (λ (b : Bool). cond b 1 0 + 0) (born_live (new_row t low high child v))

  module _ (rows : List Row) (x : Placed) (at : AtPlace t no_row rows x) (new : Row) (further : List Row) where
    pub replace_rows : length (replace_row t x new further rows) ≡ length rows + (cost_of t x + length further)
    replace_rows = go (eqb x.row.birth t)
      where
        go : (b : Bool) → length (cond b (set rows x.place new ++ further)
            (set rows x.place (ended t x.row) ++ (born_at t new ∷ further)))
            ≡ length rows + (cond b 0 1 + length further)
        go true = simp (length-append, length-set) (omega arith)
        go false = simp (length-append, length-set) (omega arith)

    here : live t (get_or rows x.place no_row) ≡ true
    here = ap (live t) (sym at.same) ∙ at.alive

    -- A row that replaces a live one is live again; the further rows are added
    pub replace_live : live t new ≡ true → count (live t) further ≡ length further
        → count (live t) (replace_row t x new further rows) ≡ count (live t) rows + length further
    replace_live l f = go (eqb x.row.birth t)
      where
        go : (b : Bool)
            → count (live t) (cond b (set rows x.place new ++ further)
            (set rows x.place (ended t x.row) ++ (born_at t new ∷ further)))
            ≡ count (live t) rows + length further
        go true = count_kept (live t) rows x.place no_row at.within here new further l ∙ ap (◌+◌ (count (live t) rows)) f
        go false =
            let lost : count (live t) (set rows x.place (ended t x.row) ++ (born_at t new ∷ further)) + 1
            ≡ count (live t) rows + (cond (live t (born_at t new)) 1 0 + count (live t) further) =
            count_lost (live t) rows x.place no_row at.within here (ended t x.row) (born_at t new ∷ further) (dead t x.row) in
            let born : ◌≡◌ {A = ℕ} (cond (live t (born_at t new)) 1 0) 1 = ap (λ (b : Bool). cond b 1 0) (born_live new) in
            sum_is _ _ _ _ _ lost born f
          where
            sum_is : (a b c d e : ℕ) → a + 1 ≡ b + (c + d) → c ≡ 1 → d ≡ e → a ≡ b + e
            sum_is a b c d e h i j = omega arith

module _ (p : Point) (small : p.tick < open_end) (rows : List Row) where
  -- A row that a search finds stands at its place and is live
  pub found_place : (test : Placed → Bool) {x : Placed} → first test (key_order p.tick rows) ≡ one x → AtPlace p.tick no_row rows x
  found_place test e = first_has (AtPlace p.tick no_row rows) test (key_order p.tick rows) (order_places p.tick no_row rows) e

  -- Step 3
  pub gain_rows_lem : length (gain_rows p rows) ≡ length rows + cost_in p.tick (row_from p rows)
  unfolding gain_rows
  gain_rows_lem = go (row_from p rows) refl
    where
      go : (s : Search Placed) → row_from p rows ≡ s → length (gain_in p rows s) ≡ length rows + cost_in p.tick s
      go none e = omega arith
      go (one x) e = replace_rows p.tick small rows x (found_place _ e) (gained p.value x.row) []
          ∙ ap (◌+◌ (length rows)) (omega arith)

  pub gain_live : count (live p.tick) (gain_rows p rows) ≡ count (live p.tick) rows
  unfolding gain_rows
  gain_live = go (row_from p rows) refl
    where
      go : (s : Search Placed) → row_from p rows ≡ s → count (live p.tick) (gain_in p rows s) ≡ count (live p.tick) rows
      go none e = refl
      go (one x) e =
          let at = found_place _ e in
          replace_live p.tick small rows x at (gained p.value x.row) [] at.alive refl ∙ omega arith

  -- Step 2, or step 3 where no row is around the key
  pub leaf_lowest : row_around p rows ≡ none → leaf_rows p rows ≡ gain_rows p rows
  unfolding leaf_rows
  leaf_lowest e = ap (cut_in p rows) e

  module _ {x : Placed} (e : row_around p rows ≡ one x) where
    pub cut_rows : length (leaf_rows p rows) ≡ length rows + (cost_of p.tick x + 1)
    unfolding leaf_rows
    cut_rows =
        ap (λ (s : Search Placed). length (cut_in p rows s)) e
        ∙ replace_rows p.tick small rows x (found_place _ e) (cut_at p.key x.row)
        (new_row p.tick p.key x.row.high 0 p.value ∷ [])

    pub cut_live : count (live p.tick) (leaf_rows p rows) ≡ count (live p.tick) rows + 1
    unfolding leaf_rows
    cut_live =
        let at = found_place _ e in
        ap (λ (s : Search Placed). count (live p.tick) (cut_in p rows s)) e
        ∙ replace_live p.tick small rows x at (cut_at p.key x.row) (new_row p.tick p.key x.row.high 0 p.value ∷ [])
        at.alive (new_live p.tick small p.key x.row.high 0 p.value)

    at : AtPlace p.tick no_row rows x
    at = found_place _ e

    low_below : x.row.low < p.key
    low_below = ltb-true _ _ ((and-eq-true_iff _ _).0 (first_passes _ (key_order p.tick rows) e)).0

    module _ (y : Placed) (f : row_from p rows ≡ one y) where
      from_key : p.key ≤ y.row.low
      from_key = leb-true _ _ (first_passes _ (key_order p.tick rows) f)

      apart : x.place ≡ y.place → ⊥
      apart q =
          let same : x.row ≡ y.row = at.same ∙ ap (λ (n : ℕ). get_or rows n no_row) q ∙ sym (found_place _ f).same in
          let lows : x.row.low ≡ y.row.low = ap (λ (r : Row). r.low) same in
          omega (arith, low_below, from_key)

      kept : (r : Row) (more : List Row) → AtPlace p.tick no_row (set rows y.place r ++ more) x
      kept r more =
          let long : length (set rows y.place r) ≡ length rows = length-set rows y.place r in
          let inside : x.place < length (set rows y.place r) = omega (arith, at.within) in
          record {
            within = omega (arith, length-append (set rows y.place r) more);
            same =
                at.same
                ∙ sym (get_or-append (set rows y.place r) more no_row x.place inside
                ∙ get_or-set_other rows y.place x.place r no_row apart);
            alive = at.alive;
          }

      kept_either : (b : Bool) → AtPlace p.tick no_row
          (cond b (set rows y.place (gained p.value y.row) ++ [])
          (set rows y.place (ended p.tick y.row) ++ (born_at p.tick (gained p.value y.row) ∷ []))) x
      kept_either true = kept (gained p.value y.row) []
      kept_either false = kept (ended p.tick y.row) (born_at p.tick (gained p.value y.row) ∷ [])

    -- The row around the key is not the one that gains the point, so step 3 leaves it where it stands
    pub gained_place : AtPlace p.tick no_row (gain_rows p rows) x
    unfolding gain_rows
    gained_place = go (row_from p rows) refl
      where
        go : (s : Search Placed) → row_from p rows ≡ s → AtPlace p.tick no_row (gain_in p rows s) x
        go none f = at
        go (one y) f = kept_either y f (eqb y.row.birth p.tick)

    -- Steps 3 and 7
    pub copied_rows_lem : (c : Child) →
        length (relink_row p.tick x (Copied c) (gain_rows p rows)) ≡ length (gain_rows p rows) + (cost_of p.tick x + 0)
    unfolding relink_row
    copied_rows_lem c = replace_rows p.tick small (gain_rows p rows) x gained_place (linked_to c x.row) []

    pub copied_live : (c : Child) →
        count (live p.tick) (relink_row p.tick x (Copied c) (gain_rows p rows)) ≡ count (live p.tick) (gain_rows p rows) + 0
    unfolding relink_row
    copied_live c = replace_live p.tick small (gain_rows p rows) x gained_place (linked_to c x.row) [] gained_place.alive refl

    pub halved_rows : (c d : Child) →
        length (relink_row p.tick x (Halved c d) (gain_rows p rows)) ≡ length (gain_rows p rows) + (cost_of p.tick x + 1)
    unfolding relink_row
    halved_rows c d =
        replace_rows p.tick small (gain_rows p rows) x gained_place (linked_to c x.row)
        (new_row p.tick d.low d.high d.page zero ∷ [])

    pub halved_live : (c d : Child) →
        count (live p.tick) (relink_row p.tick x (Halved c d) (gain_rows p rows)) ≡ count (live p.tick) (gain_rows p rows) + 1
    unfolding relink_row
    halved_live c d =
        replace_live p.tick small (gain_rows p rows) x gained_place (linked_to c x.row)
        (new_row p.tick d.low d.high d.page zero ∷ []) gained_place.alive
        (new_live p.tick small d.low d.high d.page zero)
