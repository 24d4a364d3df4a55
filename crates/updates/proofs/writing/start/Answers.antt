use native.Mathlib.Omega.{arith}
use mathlib.Core.Path.{refl, ap₂, sym, ◌∙◌}
use Rattle.store.specs.Trees.{LentTree}
use Rattle.store.specs.Lending.{words_of, words_in, store_with}
use Rattle.store.specs.Calls.{start}
use Rattle.store.specs.Performing.{refusal}
use Rattle.store.proofs.RefusedNumbers.{numbered}
use Rattle.refusals.proofs.Outcomes.{call_refused, call_served}
use Rattle.replies.proofs.RepliesAs.{replied, refused_reply_lem}
use Rattle.updates.proofs.StartReplies.{start_accepted}
use Rattle.updates.proofs.writing.start.Goals as goal

pub returns-in-Err-clause-replied : goal.returns-in-Err-clause-replied
returns-in-Err-clause-replied c =
    let a = c.args in
    let call = start a.tick a.key a.weight in
    let seen = ap₂ (λ (starts time : LentTree). refusal (store_with a.head.now starts (words_in a.ends) time) call) c.view.ensures c.view-2.ensures in
    let s = store_with a.head.now (words_of a.starts.now) (words_in a.ends) (words_of a.time.now) in
    replied (call_refused s call (c.in-Err.ensures ∙ seen) (numbered _)) (refused_reply_lem s _ (rw c.number.ensures at c.refused.ensures))

pub start_pass-requires : goal.start_pass-requires
start_pass-requires c =
    let a = c.args in
    let call = start a.tick a.key a.weight in
    let seen = ap₂ (λ (starts time : LentTree). refusal (store_with a.head.now starts (words_in a.ends) time) call) c.view.ensures c.view-2.ensures in
    let s = store_with a.head.now (words_of a.starts.now) (words_in a.ends) (words_of a.time.now) in
    let taken = start_accepted s a.tick a.key a.weight (omega (arith, c.ranges.tick.fits)) (sym (c.in_default.ensures ∙ seen)) in
    record { key = taken.key; place = taken.place; number = taken.number; planned = taken.planned; time_planned = taken.time_planned }

pub returns-clause-replied : goal.returns-clause-replied
returns-clause-replied c =
    let a = c.args in
    let call = start a.tick a.key a.weight in
    let seen = ap₂ (λ (starts time : LentTree). refusal (store_with a.head.now starts (words_in a.ends) time) call) c.view.ensures c.view-2.ensures in
    replied (call_served _ call (c.in_default.ensures ∙ seen) refl) (c.start_pass.ensures.replied (words_in a.ends))
