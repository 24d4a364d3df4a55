-- What one command hands back: refused for its bytes, or the store's reply to the call that they spell.
use Prim.Native.Nat.{ℕ}
use mathlib.Core.Path.{◌≡◌, refl, ap, sym}
use mathlib.Core.Bool.{Bool, true, false, cond}
use mathlib.Core.List.{List}
use lib.ListN.{length}
use lib.Dec.{ltb, eqb}
use Rattle.store.specs.declared.types.Answer.{Answer}
use Rattle.store.specs.Trees.{Lent, Store}
use Rattle.store.specs.Answers.{Answered, refused_with}
use Rattle.store.specs.Calls.{Call}
use Rattle.store.specs.Performing.{served, perform}
use Rattle.store.proofs.RefusedOrServed.{refused_or_served}
use Rattle.replies.specs.declared.types.Reply.{Reply}
use Rattle.replies.specs.Replies.{RepliedAs}
use Rattle.replies.proofs.RepliesAs.{replied}
use Rattle.command.specs.Stream.{Kind, question_command, bat_time_command, query_kind, answered}

-- A call that answers and leaves the store leaves it where it is refused, too
query_keeps : (s : Store) (call : Call) → (served s call).store ≡ s → (perform s call).store ≡ s
query_keeps s call keeps = refused_or_served (λ (a : Answered). a.store ≡ s) s call (λ n. refl) (λ e. keeps)

module _ (s : Store) (bytes : List ℕ) where
  -- A query leaves the store as it was, and so does a command that is cut short
  pub query_stays : (code : ℕ) → (answered s bytes (query_kind code)).store ≡ s
  unfolding served
  query_stays code = go (eqb code 4) (ltb (length bytes) 12)
    where
      go : (timed short : Bool) → (cond short (refused_with 7 s) (perform s (cond timed bat_time_command question_command bytes))).store ≡ s
      go timed true = refl
      go true false = query_keeps s (bat_time_command bytes) refl
      go false false = query_keeps s (question_command bytes) refl

  pub query_replies : (code : ℕ) {said : Answer} → said ≡ (answered s bytes (query_kind code)).answer
      → RepliedAs (answered s bytes (query_kind code)) (record { answer = said; head = s.head }) s.lent
  query_replies code is =
      let kept = sym (query_stays code) in
      record { answer = is; head = ap (λ (x : Store). x.head) kept; lent_is = ap (λ (x : Store). x.lent) kept }

  -- A byte that stands for a kind of command
  pub of_kind : {a b : Kind} → a ≡ b → {r : Reply} {lent : Lent} → RepliedAs (answered s bytes b) r lent → RepliedAs (answered s bytes a) r lent
  of_kind e x = replied (ap (answered s bytes) e) x
