-- Starts and ends that are accepted: what is known of them once every refusal is ruled out.
use Rattle.std.specs.Prelude.{ℕ, ◌≤◌, ◌<◌, Option}
use Rattle.words.specs.Words.{key_limit}
use Rattle.enter.specs.EnterRoot.{Planned}
use Rattle.store.specs.declared.types.OpenPass.{OpenPass}
use Rattle.store.specs.declared.types.FoundPass.{FoundPass}
use Rattle.store.specs.declared.types.Answer.TheVariants.{Ended}
use Rattle.store.specs.declared.types.TreeName.TheVariants.{Starts, Ends, Time}
use Rattle.store.specs.Trees.{Store, tree_in}
use Rattle.store.specs.Head.{open_limit, pass_limit}
use Rattle.store.specs.Answers.{Answered}
use Rattle.store.specs.Writing.{point_of, time_at_start, time_at_end, end_entries, enter_all, ended_head}

-- The head has a place for the pass, and both points were planned
pub record StartAccepted (s : Store) (tick k weight : ℕ) : Type 0 where
  pub key : k < key_limit
  pub place : s.head.count < open_limit
  pub number : s.head.started < pass_limit
  pub planned : Planned (tree_in s Starts) (point_of tick k weight)
  pub time_planned : Planned (tree_in s Time) (time_at_start tick k weight)

-- The pass stands in its place among the open ones, and both points were planned
pub record EndAccepted (s : Store) (tick place : ℕ) (pass : OpenPass) : Type 0 where
  pub count : s.head.count ≤ open_limit
  pub inside : place < s.head.count
  pub key : pass.key < key_limit
  pub planned : Planned (tree_in s Ends) (point_of tick pass.key pass.weight)
  pub time_planned : Planned (tree_in s Time) (time_at_end tick pass.key pass.weight)

-- What an end of the pass that was found does
abbrev pub ended_as : Store → ℕ → Option FoundPass → Answered
ended_as s tick found =
    record {
      answer = Ended;
      store = record { head = ended_head (enter_all s (end_entries tick found)).head tick found; lent = (enter_all s (end_entries tick found)).lent };
    }
