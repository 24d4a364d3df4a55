-- What an exported call says of a burst of events, and leaves.
use Rattle.std.specs.Prelude.{ℕ, ◌≡◌, List}
use Rattle.words.specs.Overwrite.{overwrite}
use Rattle.demand.specs.Bursts.{result_words, Entered}
use Rattle.firmware.specs.Exported.{Handed, handed_back}

-- What a call has before it and leaves: the head's numbers and the slices, and the result list
pub record Lending : Type 0 where
  pub handed : Handed
  pub results : List ℕ

-- A burst that comes to b: the refusal, the words of its events at the front of the list, and the store in its places. Refused, all is as before
pub record LeavesBurst (b : Entered) (r : ℕ) (before after : Lending) : Type 0 where
  pub refusal : r ≡ b.refusal
  pub words : after.results ≡ overwrite before.results 0 (result_words b.answers)
  pub left : after.handed ≡ handed_back b.store
  pub kept : (r ≡ 0 → ⊥) → after ≡ before
