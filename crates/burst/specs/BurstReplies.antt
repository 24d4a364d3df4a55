-- What entering a burst hands back.
use Rattle.std.specs.Prelude.{ℕ, ◌≡◌, List}
use Rattle.words.specs.Overwrite.{overwrite}
use Rattle.store.specs.declared.types.Head.{Head}
use Rattle.store.specs.Trees.{Lent, Store}
use Rattle.store.specs.Refused.{told}
use Rattle.demand.specs.Bursts.{Asked, answers_to, store_behind, result_words, Entered}
use Rattle.burst.specs.declared.entering.BurstReply.{BurstReply}

-- Events one after the other, with their words at the front of the result list
pub record EventsEntered (s : Store) (es : List Asked) (r : Head) (before results : List ℕ) (lent : Lent) : Type 0 where
  pub words : results ≡ overwrite before 0 (result_words (answers_to s es))
  pub head : r ≡ (store_behind s es).head
  pub lent_is : lent ≡ (store_behind s es).lent

-- A burst: "Result entries past the burst are unaltered."
pub record BurstAs (b : Entered) (r : BurstReply) (before results : List ℕ) (lent : Lent) : Type 0 where
  pub refusal : told r.refused ≡ b.refusal
  pub words : results ≡ overwrite before 0 (result_words b.answers)
  pub head : r.head ≡ b.store.head
  pub lent_is : lent ≡ b.store.lent
