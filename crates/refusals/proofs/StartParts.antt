-- The refusal of a start, of the trees that it enters points into.
use Prim.Native.Nat.{ℕ}
use mathlib.Core.Path.{◌≡◌}
use Rattle.store.specs.declared.types.TreeName.TheVariants.{Starts, Time}
use Rattle.store.specs.Trees.{Store}
use Rattle.store.specs.Calls.{start}
use Rattle.store.specs.Refusals.{first_met}
use Rattle.store.specs.Writing.{point_of, time_at_start}
use Rattle.store.specs.Performing.{page_grounds}
use Rattle.refusals.specs.Grounds.{lower_of}
use Rattle.refusals.proofs.TwoEntries.{entry_refusal, two_entries}

pub start_pages : (s : Store) (tick key weight : ℕ)
    → first_met (page_grounds s (start tick key weight))
    ≡ lower_of (entry_refusal s Starts (point_of tick key weight)) (entry_refusal s Time (time_at_start tick key weight))
start_pages s tick key weight =
    two_entries s (record { tree = Starts; point = point_of tick key weight }) (record { tree = Time; point = time_at_start tick key weight })
