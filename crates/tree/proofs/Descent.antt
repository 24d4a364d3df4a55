-- The descent of an entry in the pages that hold a tree at its tick meets no spoiled page.
use Prim.Native.Nat.{ℕ, zero, suc, ◌≤◌, ◌<◌}
use mathlib.Core.Path.{◌≡◌, ap, ◌∙◌}
use mathlib.Core.Logic.{◌⊎◌, inl, inr}
use mathlib.Core.Bool.{Bool, true, and-eq-true_iff}
use mathlib.Core.List.{List}
use lib.ListN.{length}
use Rattle.words.specs.declared.value.Value.{Value}
use Rattle.words.proofs.Measure.{Measure}
use Rattle.words.specs.Words.{open_end}
use Rattle.tree.specs.declared.types.Row.{Row}
use Rattle.tree.specs.Row.{rows_of, row_limit}
use Rattle.tree.specs.KeyOrder.{Placed}
use Rattle.tree.specs.TrueValue.{Search}
use Rattle.tree.specs.Tree as ours
use Rattle.tree.specs.Tree.{page_at}
use Rattle.tree.specs.RowSteps.{Point, row_around}
use Rattle.tree.specs.Plan.{sound_below, descent_sound}
use Rattle.tree.specs.Taking.{InUse}
use Rattle.tree.proofs.ModelPages.{Entry, Page}
use Rattle.tree.proofs.ModelTrees.{Tree, Holds}
use Rattle.tree.proofs.ReplacedRows.{split}
use Rattle.tree.proofs.SlotCuts.{Cut, cut, cut_at}
use Rattle.tree.proofs.PageKinds.{Leaf}
use Rattle.tree.proofs.View.{view_table}
use Rattle.tree.proofs.RowViews.{FoundRow, around_some, around_none}
use Rattle.tree.proofs.SoundPages.{held_met}

module _ (measure : Value → ℕ) (m : Measure measure) (tree : ours.Tree) (p : Point) (now : p.tick < open_end)
    (small : (x : ℕ) → InUse tree.used x → length (rows_of (page_at tree.table x)) ≤ row_limit) where
  abbrev store : ℕ → Page
  store = view_table measure tree.table

  abbrev In : ℕ → Type 0
  In = InUse tree.used

  abbrev rows_at : ℕ → List Row
  rows_at page = rows_of (page_at tree.table page)

  below_sound : (n : ℕ)
      → ((lo hi page : ℕ) (tr : Tree n) → lo ≤ p.key → p.key < hi → Holds n store In p.tick lo hi page tr
      → descent_sound tree p n lo hi page ≡ true)
      → (lo hi page : ℕ) (tr : Tree (suc n)) → Cut (Holds n store In p.tick) lo hi p.key tr
      → Holds (suc n) store In p.tick lo hi page tr
      → sound_below (λ (row : Row). descent_sound tree p n row.low row.high row.child) (row_around p (rows_at page)) ≡ true
  below_sound n ih lo hi page tr (cut xs y ys c i j w d) h = go (split p.key y.entry.low)
    where
      next : Search Placed → Bool
      next s = sound_below (λ (row : Row). descent_sound tree p n row.low row.high row.child) s

      go : (p.key ≤ y.entry.low) ⊎ (y.entry.low < p.key)
          → sound_below (λ (row : Row). descent_sound tree p n row.low row.high row.child) (row_around p (rows_at page)) ≡ true
      go (inl l) = ap next (around_none measure m (Holds n store In p.tick) p now lo hi xs y ys (rows_at page) c i j w d h.same l)
      go (inr l) =
          let r : FoundRow measure p.tick (rows_at page) (row_around p (rows_at page)) y.entry =
          around_some measure m (Holds n store In p.tick) p now lo hi xs y ys (rows_at page) c i j w d h.same l in
          ap next r.is_found
          ∙ ap (λ (e : Entry). descent_sound tree p n e.low e.high e.page) r.entry
          ∙ ih y.entry.low y.entry.high y.entry.page y.below i j w

  pub descent_sound_lem : (n lo hi page : ℕ) (tr : Tree n) → lo ≤ p.key → p.key < hi → Holds n store In p.tick lo hi page tr
      → descent_sound tree p n lo hi page ≡ true
  unfolding descent_sound
  descent_sound_lem zero lo hi page tr i j h = held_met measure tree small Leaf p.tick 0 lo hi page tr h
  descent_sound_lem (suc n) lo hi page tr i j h =
      (and-eq-true_iff _ _).1 (
        held_met measure tree small (Holds n store In p.tick) p.tick (suc n) lo hi page tr h,
        below_sound n (λ lo' hi' page' tr'. descent_sound_lem n lo' hi' page' tr') lo hi page tr
            (cut_at (Holds n store In p.tick) lo hi p.key tr h.chain i j) h,
      )
