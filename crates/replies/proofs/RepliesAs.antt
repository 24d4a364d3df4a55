-- What a call hands back, from what its definition comes to.
use Prim.Native.Nat.{ℕ}
use mathlib.Core.Path.{◌≡◌, refl, ap, sym, subst}
use Rattle.store.specs.Trees.{Lent, Store}
use Rattle.store.specs.Answers.{Answered, refused_with}
use Rattle.replies.specs.declared.types.Reply.{Reply}
use Rattle.replies.specs.Replies.{RepliedAs}
use Rattle.replies.specs.RefusedReplies.{refused_reply}

pub replied : {a b : Answered} {r : Reply} {lent : Lent} → a ≡ b → RepliedAs b r lent → RepliedAs a r lent
replied {r = r} {lent = lent} e x = subst (λ (y : Answered). RepliedAs y r lent) (sym e) x

-- Refused, with the head and every lent word as before
pub refused_reply_lem : (s : Store) (n : ℕ) {r : Reply} → r ≡ refused_reply n s.head → RepliedAs (refused_with n s) r s.lent
refused_reply_lem s n e = record { answer = ap (λ (x : Reply). x.answer) e; head = ap (λ (x : Reply). x.head) e; lent_is = refl }
