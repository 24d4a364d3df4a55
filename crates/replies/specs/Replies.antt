-- What a call that writes hands back.
use Rattle.std.specs.Prelude.{◌≡◌}
use Rattle.store.specs.Trees.{Lent}
use Rattle.store.specs.Answers.{Answered}
use Rattle.replies.specs.declared.types.Reply.{Reply}

-- The answer, the head and every lent word afterwards are those that a definition says
pub record RepliedAs (a : Answered) (r : Reply) (lent : Lent) : Type 0 where
  pub answer : r.answer ≡ a.answer
  pub head : r.head ≡ a.store.head
  pub lent_is : lent ≡ a.store.lent
