use mathlib.Core.Path.{◌≡◌}
use lib.ListN.{drop}
use Rattle.words.specs.Value.{zero}
use Rattle.live.specs.LiveRows.{AllIn}
use Rattle.live.specs.LiveHeld.{add_below}
use Rattle.live.proofs.held.total_below.Given as goal

abbrev pub invariant-loop-at : goal.invariant-loop-at
invariant-loop-at l =
    AllIn l.page (drop l.at l.places) × (add_below l.page l.low l.total (drop l.at l.ranges) (drop l.at l.places) ≡ add_below l.page l.low zero l.ranges l.places)
