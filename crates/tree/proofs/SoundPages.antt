-- A page that holds a tree at a tick is no ground for 26: its header fits, its live rows hold each key of its range once and none is empty.
use Prim.Native.Nat.{ℕ, ◌+◌, ◌*◌, ◌≤◌, ◌<◌}
use native.Mathlib.Omega.{arith}
use mathlib.Core.Path.{◌≡◌, refl, sym, ◌∙◌}
use mathlib.Core.Bool.{Bool, true, false, cond, ◌&&◌, and-eq-true_iff}
use mathlib.Core.List.{List, [], ◌∷◌}
use lib.Dec.{leb, ltb}
use lib.ListN.{length}
use borrow.Author.Tests.{leb-false, ltb-false, le-leb, eq-eqb}
use Rattle.words.specs.Lists.{All}
use Rattle.words.specs.declared.value.Value.{Value}
use Rattle.tree.specs.declared.types.Row.{Row}
use Rattle.tree.specs.Row.{word, live, rows_of, row_limit, header_words}
use Rattle.tree.specs.PageTest.{rows_tile, sound_at}
use Rattle.tree.proofs.Lists.{all_map, sum_by, sum_same}
use Rattle.tree.proofs.Places.{cover}
use Rattle.tree.proofs.Tiling.{tiles_rows_tile}
use Rattle.tree.specs.Tree as ours
use Rattle.tree.specs.Tree.{page_at, met_at}
use Rattle.tree.specs.Taking.{InUse}
use Rattle.tree.proofs.ModelPages.{Entry, only_if, sum_live, field_holding}
use Rattle.tree.proofs.ModelTrees.{Slot, Chain, Held, sum_slots}
use Rattle.tree.proofs.ReplacedRows.{tests}
use Rattle.tree.proofs.SlotCuts.{Cut, cut, cut_at}
use Rattle.tree.proofs.GainedSlots.{at_cut}
use Rattle.tree.proofs.PageCodec.{rows_length}
use Rattle.tree.proofs.View.{view_rows, view_table, sum_live_view}

-- A number that is zero of all slots of a chain
module _ {A : Type 0} (P : ℕ → ℕ → ℕ → A → Type 0) where
  none_empty : (lo hi : ℕ) (tr : List (Slot A)) → Chain P lo hi tr → sum_slots (λ e. only_if (leb e.high e.low) 1) tr ≡ 0
  none_empty lo hi [] c = refl
  none_empty lo hi (y ∷ ys) c =
      let l : y.entry.low < y.entry.high = omega arith in
      simp (tests, none_empty y.entry.high hi ys c.rest)

  none_below : (b lo hi : ℕ) (tr : List (Slot A)) → Chain P lo hi tr → b ≤ lo → sum_slots (λ e. only_if (ltb e.low b) 1) tr ≡ 0
  none_below b lo hi [] c h = refl
  none_below b lo hi (y ∷ ys) c h =
      let l : b ≤ y.entry.low = omega arith in
      simp (tests, none_below b y.entry.high hi ys c.rest (omega arith))

-- A number that is zero of all live rows together is zero of each
zero_each : (t : ℕ) (g : Row → ℕ) (rows : List Row) → sum_by (λ (r : Row). cond (live t r) (g r) 0) rows ≡ 0
    → All (λ (r : Row). live t r ≡ true → g r ≡ 0) rows
zero_each t g [] h = tt
zero_each t g (r ∷ rs) h = go (live t r) refl h (λ k. zero_each t g rs k)
  where
    go : (b : Bool) → live t r ≡ b → cond b (g r) 0 + sum_by (λ (r : Row). cond (live t r) (g r) 0) rs ≡ 0
        → (sum_by (λ (r : Row). cond (live t r) (g r) 0) rs ≡ 0 → All (λ (r : Row). live t r ≡ true → g r ≡ 0) rs)
        → All (λ (r : Row). live t r ≡ true → g r ≡ 0) (r ∷ rs)
    go true e k ih = (λ l. omega arith, ih (omega arith))
    go false e k ih = (λ l. let z : ◌≡◌ {A = ℕ} 0 1 = cc in absurd (omega arith), ih (omega arith))

module _ (measure : Value → ℕ) {A : Type 0} (P : ℕ → ℕ → ℕ → A → Type 0) (t lo hi : ℕ) (rows : List Row) (tr : List (Slot A))
    (chain : Chain P lo hi tr) (same : (f : Entry → ℕ) → sum_slots f tr ≡ sum_live t f (view_rows measure rows)) where
  -- Each key of the range lies in one live row
  covered : (q : ℕ) → lo ≤ q → q < hi → cover t q rows ≡ 1
  covered q p r =
      sum_same _ _ (λ s. both (live t s) (leb s.low q) (ltb q s.high)) rows
      ∙ sym (sum_live_view measure t (λ e. only_if (leb e.low q) (only_if (ltb q e.high) 1)) rows)
      ∙ one_slot tr (cut_at P lo hi q tr chain p r) same
    where
      both : (a b c : Bool) → ◌≡◌ {A = ℕ} (cond (a && (b && c)) 1 0) (cond a (only_if b (only_if c 1)) 0)
      both true true true = refl
      both true true false = refl
      both true false c = refl
      both false b c = refl

      one_slot : (l : List (Slot A)) → Cut P lo hi q l → ((f : Entry → ℕ) → sum_slots f l ≡ sum_live t f (view_rows measure rows))
          → field_holding t q (λ e. 1) (view_rows measure rows) ≡ 1
      one_slot l (cut xs y ys c i j w d) s = at_cut P q t lo hi xs y ys (view_rows measure rows) c i j d s (λ e. 1)

  pub live_full : All (λ (r : Row). live t r ≡ true → r.low < r.high) rows
  live_full =
      all_map _ _ (λ r h l. lt r (h l)) rows
      (zero_each t (λ (r : Row). only_if (leb r.high r.low) 1) rows
      (sym (sum_live_view measure t (λ e. only_if (leb e.high e.low) 1) rows) ∙ sym (same _) ∙ none_empty P lo hi tr chain))
    where
      lt : (r : Row) → only_if (leb r.high r.low) 1 ≡ 0 → r.low < r.high
      lt r h = go (leb r.high r.low) refl h
        where
          go : (b : Bool) → leb r.high r.low ≡ b → only_if b 1 ≡ 0 → r.low < r.high
          go true e k = absurd (omega arith)
          go false e k = leb-false _ _ e

  pub live_start : All (λ (r : Row). live t r ≡ true → lo ≤ r.low) rows
  live_start =
      all_map _ _ (λ r h l. le r (h l)) rows
      (zero_each t (λ (r : Row). only_if (ltb r.low lo) 1) rows
      (sym (sum_live_view measure t (λ e. only_if (ltb e.low lo) 1) rows) ∙ sym (same _) ∙ none_below P lo lo hi tr chain (omega arith)))
    where
      le : (r : Row) → only_if (ltb r.low lo) 1 ≡ 0 → lo ≤ r.low
      le r h = go (ltb r.low lo) refl h
        where
          go : (b : Bool) → ltb r.low lo ≡ b → only_if b 1 ≡ 0 → lo ≤ r.low
          go true e k = absurd (omega arith)
          go false e k = ltb-false _ _ e

  pub live_tile : lo < hi → rows_tile t lo hi rows ≡ true
  live_tile wide = tiles_rows_tile t lo hi rows wide (record { once = covered; full = live_full })

  -- So there is a row
  pub some_row : lo < hi → 1 ≤ length rows
  some_row wide = go rows (covered lo (omega arith) wide)
    where
      go : (rs : List Row) → cover t lo rs ≡ 1 → 1 ≤ length rs
      go [] h = absurd (omega arith)
      go (r ∷ rs) h = omega arith

module _ (measure : Value → ℕ) (tree : ours.Tree)
    (small : (x : ℕ) → InUse tree.used x → length (rows_of (page_at tree.table x)) ≤ row_limit)
    {A : Type 0} (P : ℕ → ℕ → ℕ → A → Type 0) (t level lo hi page : ℕ) (tr : List (Slot A))
    (held : Held P level (view_table measure tree.table) (InUse tree.used) t lo hi page tr) where
  pub held_sound : sound_at t level lo hi (page_at tree.table page) ≡ true
  held_sound =
      let words : List ℕ = page_at tree.table page in
      let number : length (rows_of words) ≡ word words 1 = rows_length words header_words (word words 1) in
      let some : 1 ≤ length (rows_of words) = some_row measure P t lo hi (rows_of words) tr held.chain held.same held.wide in
      let few : length (rows_of words) ≤ row_limit = small page held.is_in_use in
      let range : word words 2 ≡ lo + 65536 * hi = omega (arith, held.low, held.high) in
      simp (
        eq-eqb (word words 0) level held.level,
        le-leb 1 (word words 1) (omega arith),
        le-leb (word words 1) row_limit (omega arith),
        eq-eqb
            (word words 2) (lo + 65536 * hi) range,
      )
      (live_tile measure P t lo hi (rows_of words) tr held.chain held.same held.wide)

  pub held_met : met_at tree t level lo hi page ≡ true
  held_met = (and-eq-true_iff _ _).1 (held.is_in_use, held_sound)
