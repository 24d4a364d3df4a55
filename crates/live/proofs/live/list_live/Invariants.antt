use Prim.Native.Nat.{◌-◌, ◌≤◌}
use mathlib.Core.List.{map}
use Rattle.ranges.specs.KeyRanges.{range_of, place_in}
use Rattle.live.specs.LiveRows.{live_rows}
use Rattle.live.proofs.LiveLaws.{Listing}
use Rattle.live.proofs.live.list_live.Given as goal

abbrev pub invariant-loop-place : goal.invariant-loop-place
invariant-loop-place l =
    (l.count ≤ l.place)
    × Listing l.page l.t range_of (map range_of (live_rows l.t l.page l.rows)) l.count l.place (l.rows - l.place) l.ranges
    × Listing l.page l.t place_in (map place_in (live_rows l.t l.page l.rows)) l.count l.place (l.rows - l.place) l.places
