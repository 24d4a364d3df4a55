-- "the lower taking the larger half": of the two pages that rows go to, the lower takes as many as the upper, or one more.
use Prim.Native.Nat.{◌+◌, ◌≤◌}
use native.Mathlib.Omega.{arith}
use mathlib.Core.List.{List}
use lib.ListN.{length, take, drop, length-take, length-drop}
use Rattle.tree.specs.declared.types.Row.{Row}
use Rattle.tree.specs.Overflow.{lower_count}

module _ (rows : List Row) where
  abbrev lower : List Row
  lower = take (lower_count rows) rows

  abbrev upper : List Row
  upper = drop (lower_count rows) rows

  pub lower_larger : length upper ≤ length lower
  lower_larger = omega (arith, length-take (lower_count rows) rows, length-drop (lower_count rows) rows)

  pub lower_one_more : length lower ≤ length upper + 1
  lower_one_more = omega (arith, length-take (lower_count rows) rows, length-drop (lower_count rows) rows)
