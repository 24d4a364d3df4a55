use Rattle.tiles.proofs.SumLaws.{one_small, test_number}
use Prim.Native.Nat.{ℕ}
use native.Mathlib.Omega.{arith}
use mathlib.Core.Path.{◌≡◌, refl, ap, ◌∙◌}
use mathlib.Core.Bool.{Bool, cond}
use mathlib.Core.List.{map}
use Rattle.tree.specs.Row.{row_at, live}
use Rattle.tree.specs.RowEdits.{row_in}
use Rattle.ranges.specs.KeyRanges.{range_of, place_in}
use Rattle.live.specs.LiveRows.{live_rows}
use Rattle.live.proofs.LiveLaws.{listing_starts, listing_on, listing_done, listed}
use borrow.Author.Rules.{rules}
use Rattle.live.proofs.live.list_live.Goals as goal

pub loop-place-init : goal.loop-place-init
loop-place-init c =
    let a = c.args in (
      search rules,
      listing_starts a.page.now a.t range_of _ a.rows a.ranges.now refl,
      listing_starts a.page.now a.t place_in _ a.rows a.places.now refl,
    )

pub overflow_add-count : goal.overflow_add-count
overflow_add-count c =
    let a = c.args in
    let l = c.loop-place in
    let counted = c.from-count.ensures ∙ test_number c.is_live_past.result in
    omega (arith, one_small c.is_live_past.result c.from-count.result counted, l.invariant.0)

pub loop-place-preserved : goal.loop-place-preserved
loop-place-preserved c =
    let a = c.args in
    let l = c.loop-place in
    let at-is = c.row_start-at.ensures in
    let alive : c.is_live_past.result ≡ live a.t (row_in a.page.now l.place) =
    c.is_live_past.ensures ∙ ap (λ (at : ℕ). live a.t (row_at a.page.now at)) at-is in
    let counted = c.from-count.ensures ∙ test_number c.is_live_past.result ∙ ap (λ (b : Bool). cond b 1 0) alive in
    let ranged = c.range_of.ensures ∙ ap (λ (at : ℕ). range_of (record { place = l.place; row = row_at a.page.now at })) at-is in (
      omega (arith, one_small (live a.t (row_in a.page.now l.place)) c.from-count.result counted, l.invariant.0),
      rw (counted, ranged)
          (listing_on a.page.now a.t range_of (map range_of (live_rows a.t a.page.now a.rows)) a.rows l.count l.place l.ranges
          (omega arith) (omega arith) l.invariant.1),
      rw counted
          (listing_on a.page.now a.t place_in (map place_in (live_rows a.t a.page.now a.rows)) a.rows l.count l.place l.places
          (omega arith) (omega arith) l.invariant.2),
    )

pub returns : goal.returns
returns c =
    let a = c.args in
    let l = c.loop-place in
    listed a.t a.page.now a.rows l.ranges l.places l.count (omega arith) (omega arith)
    (listing_done a.page.now a.t range_of (map range_of (live_rows a.t a.page.now a.rows)) a.rows l.count l.place l.ranges (omega arith) l.invariant.1)
    (listing_done a.page.now a.t place_in (map place_in (live_rows a.t a.page.now a.rows)) a.rows l.count l.place l.places (omega arith) l.invariant.2)
