use native.Mathlib.Omega.{arith}
use Prim.Native.Nat.{◌+◌}
use mathlib.Core.Path.{ap}
use Rattle.live.specs.LiveHeld.{held_at_place}
use Rattle.live.proofs.LiveReadings.{place_in_lem}
use borrow.Author.Rules.{rules}
use Rattle.live.proofs.held.held_row.Goals as goal

pub row_at-row-requires : goal.row_at-row-requires
row_at-row-requires c =
    let a = c.args in
    place_in_lem a.page.now a.ranges.now a.places.now 0 (a.k + 1) (a.k + 1) (search rules) (search rules) (search rules) c.in-Some.ensures

pub total_below-below-requires : goal.total_below-below-requires
total_below-below-requires c =
    record {
      places_len = search rules;
      all_in = search rules;
      low_bound = omega arith;
    }

pub returns-in_default : goal.returns-in_default
returns-in_default c =
    let a = c.args in
    ap (held_at_place a.page.now a.ranges.now a.places.now) c.in_default.ensures

pub returns : goal.returns
returns c =
    let a = c.args in
    rw (c.plus.ensures, c.total_below-below.ensures, c.row_at-row.ensures)
    (ap (held_at_place a.page.now a.ranges.now a.places.now) c.in-Some.ensures)
