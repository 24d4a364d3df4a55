use Prim.Native.Nat.{ℕ, ◌+◌, ◌≤◌}
use native.Mathlib.Omega.{arith}
use mathlib.Core.Path.{ap, sym, ◌∙◌}
use lib.Dec.{ltb}
use lib.ListN.{length, get_or}
use Rattle.words.specs.declared.value.Value.{Value}
use Rattle.tree.specs.Row.{row_start, row_words}
use Rattle.ranges.specs.KeyRanges.{range_low}
use Rattle.live.specs.LiveHeld.{add_below}
use Rattle.words.proofs.LoopLaws.{all_here}
use Rattle.tiles.proofs.SumLaws.{one_small, one_is_one}
use Rattle.live.proofs.LiveLaws.{below_on, below_none}
use borrow.Author.Rules.{rules}
use Rattle.live.proofs.held.total_below.Goals as goal

pub loop-at-init : goal.loop-at-init
loop-at-init c =
    let a = c.args in
    (search rules, ap (λ (v : Value). add_below a.page.now a.low v a.ranges.now a.places.now) c.zero-total.ensures)

pub overflow_cast-places : goal.overflow_cast-places
overflow_cast-places c = omega (arith, c.shared_slice_known-in-loop-at-1.given c.loop-at.at)

pub value_of-own-requires : goal.value_of-own-requires
value_of-own-requires c =
    let a = c.args in
    let l = c.loop-at in
    (all_here a.places.now l.at (λ (p : ℕ). row_start p + row_words ≤ length a.page.now) (omega arith) l.invariant.0).0

pub times-requires : goal.times-requires
times-requires c =
    let a = c.args in
    let l = c.loop-at in
    one_small (ltb (range_low (get_or a.ranges.now l.at 0)) a.low) c.one_if_below.result c.one_if_below.ensures

pub loop-at-preserved : goal.loop-at-preserved
loop-at-preserved c =
    let a = c.args in
    let l = c.loop-at in (
      (all_here a.places.now l.at (λ (p : ℕ). row_start p + row_words ≤ length a.page.now) (omega arith) l.invariant.0).1,
      rw (c.plus-total.ensures, c.times.ensures, c.one_if_below.ensures, one_is_one (ltb (range_low (get_or a.ranges.now l.at 0)) a.low), c.value_of-own.ensures)
          (sym (below_on a.page.now a.low a.ranges.now a.places.now (search rules) l.at l.total (omega arith)) ∙ l.invariant.1),
    )

pub returns : goal.returns
returns c =
    let a = c.args in
    let l = c.loop-at in
    sym (below_none a.page.now a.low a.ranges.now a.places.now (search rules) l.at l.total (omega arith)) ∙ l.invariant.1
