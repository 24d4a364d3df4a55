-- A start that is accepted: both points were planned, and the head has a place for the pass.
use Prim.Native.Nat.{ℕ, ◌≤◌}
use mathlib.Core.Path.{◌≡◌, refl}
use Rattle.words.specs.Words.{open_end}
use Rattle.store.specs.declared.types.TreeName.TheVariants.{Starts, Time}
use Rattle.store.specs.Trees.{Store}
use Rattle.store.specs.Calls.{start}
use Rattle.store.specs.Writing.{point_of, time_at_start}
use Rattle.store.specs.Performing.{head_knows, refusal}
use Rattle.store.proofs.ArgumentFacts.{start_arguments, may_start}
use Rattle.refusals.proofs.RefusalParts.{none_of}
use Rattle.refusals.proofs.StartParts.{start_pages}
use Rattle.updates.specs.Accepted.{StartAccepted}
use Rattle.updates.proofs.PlannedEntries.{both_planned}

pub start_accepted : (s : Store) (tick key weight : ℕ) → tick ≤ open_end → refusal s (start tick key weight) ≡ 0 → StartAccepted s tick key weight
start_accepted s tick key weight wide e =
    let none = none_of s (start tick key weight) refl e in
    let may = may_start (head_knows s.head (start tick key weight)) tick key weight none.2 in
    let both = both_planned s none.1.trees Starts Time (point_of tick key weight) (time_at_start tick key weight) none.3 (start_pages s tick key weight) in
    record {
      key = (start_arguments tick key weight wide none.0).bounds.key;
      place = may.place;
      number = may.number;
      planned = both.0;
      time_planned = both.1;
    }
