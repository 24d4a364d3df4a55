-- An end that is accepted: the pass is open, and both points were planned.
use Prim.Native.Nat.{ℕ}
use mathlib.Core.Path.{◌≡◌, refl, ap}
use Rattle.std.specs.Prelude.{Option, None}
use Rattle.store.specs.declared.types.OpenPass.{OpenPass}
use Rattle.store.specs.declared.types.FoundPass.{FoundPass}
use Rattle.store.specs.declared.types.TreeName.TheVariants.{Ends, Time}
use Rattle.store.specs.Trees.{Store}
use Rattle.store.specs.Head.{found_at, pass_of}
use Rattle.store.specs.Calls.{end}
use Rattle.store.specs.Writing.{point_of, time_at_end}
use Rattle.store.specs.Performing.{refusal, served}
use Rattle.refusals.proofs.RefusalParts.{none_of}
use Rattle.refusals.proofs.EndParts.{not_missing, end_pages}
use Rattle.refusals.proofs.FoundPasses.{found_facts}
use Rattle.updates.specs.Accepted.{EndAccepted, ended_as}
use Rattle.updates.proofs.PlannedEntries.{both_planned}

module _ (s : Store) (tick number : ℕ) where
  -- A pass that is missing was refused
  pub never_missing : refusal s (end tick number) ≡ 0 → pass_of s.head number ≡ None → ⊥
  never_missing e = not_missing s tick number (none_of s (end tick number) refl e).2

  pub end_accepted : refusal s (end tick number) ≡ 0 → {place : ℕ} {pass : OpenPass} → pass_of s.head number ≡ found_at place pass → EndAccepted s tick place pass
  end_accepted e {place} {pass} f =
      let none = none_of s (end tick number) refl e in
      let facts = found_facts s.head number none.1.passes f in
      let both =
      both_planned s none.1.trees Ends Time (point_of tick pass.key pass.weight) (time_at_end tick pass.key pass.weight) none.3
      (end_pages s tick number f) in
      record { count = none.1.count; inside = facts.inside; key = facts.key; planned = both.0; time_planned = both.1 }

  pub served_end : {found : Option FoundPass} → pass_of s.head number ≡ found → served s (end tick number) ≡ ended_as s tick found
  unfolding served
  served_end f = ap (ended_as s tick) f
