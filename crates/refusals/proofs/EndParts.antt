-- The refusal of an end, by where the pass of its number was found.
use Prim.Native.Nat.{ℕ}
use mathlib.Core.Path.{◌≡◌, ap, sym, ◌∙◌}
use mathlib.Core.Bool.{false≢true}
use mathlib.Core.List.{[], ◌∷◌}
use Rattle.std.specs.Prelude.{Option, None}
use Rattle.store.specs.declared.types.OpenPass.{OpenPass}
use Rattle.store.specs.declared.types.FoundPass.{FoundPass}
use Rattle.store.specs.declared.types.TreeName.TheVariants.{Ends, Time}
use Rattle.store.specs.Trees.{Store}
use Rattle.store.specs.Head.{found_at, pass_of}
use Rattle.store.specs.Calls.{end}
use Rattle.store.specs.Refusals.{first_met}
use Rattle.store.specs.Grounds.{before_last, not_open, state_grounds}
use Rattle.store.specs.Writing.{point_of, time_at_end, end_entries, entry_grounds}
use Rattle.store.specs.Performing.{is_found, head_knows, page_grounds}
use Rattle.store.proofs.ArgumentFacts.{may_end}
use Rattle.refusals.specs.Grounds.{lower_of}
use Rattle.refusals.proofs.TwoEntries.{entry_refusal, two_entries}

module _ (s : Store) (tick number : ℕ) where
  abbrev state_of : Option FoundPass → ℕ
  state_of found = first_met (before_last s.head.last tick ∷ (not_open (is_found found) ∷ []))

  pub end_state : {state : ℕ} {found : Option FoundPass} → state ≡ state_of found → found ≡ pass_of s.head number
      → state ≡ first_met (state_grounds (head_knows s.head (end tick number)) (end tick number))
  end_state e f = e ∙ ap state_of f

  -- A pass that is missing is refused by then
  pub not_missing : first_met (state_grounds (head_knows s.head (end tick number)) (end tick number)) ≡ 0 → pass_of s.head number ≡ None → ⊥
  not_missing e f =
      let may = may_end (head_knows s.head (end tick number)) tick number e in
      false≢true (ap is_found (sym f) ∙ may.was_open)

  -- The entries of an end
  pub end_pages : {place : ℕ} {pass : OpenPass} → pass_of s.head number ≡ found_at place pass
      → first_met (page_grounds s (end tick number))
      ≡ lower_of (entry_refusal s Ends (point_of tick pass.key pass.weight)) (entry_refusal s Time (time_at_end tick pass.key pass.weight))
  end_pages {place} {pass} f =
      ap (λ (found : Option FoundPass). first_met (entry_grounds s (end_entries tick found))) f
      ∙ two_entries s (record { tree = Ends; point = point_of tick pass.key pass.weight })
      (record { tree = Time; point = time_at_end tick pass.key pass.weight })
