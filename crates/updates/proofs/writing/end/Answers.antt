use mathlib.Core.Path.{refl, ap₂, sym, ◌∙◌}
use Rattle.store.specs.Trees.{LentTree}
use Rattle.store.specs.Lending.{words_of, words_in, store_with}
use Rattle.store.specs.Calls.{end}
use Rattle.store.specs.Performing.{refusal}
use Rattle.store.proofs.RefusedNumbers.{numbered}
use Rattle.refusals.proofs.Outcomes.{call_refused, call_served}
use Rattle.replies.proofs.RepliesAs.{replied, refused_reply_lem}
use Rattle.updates.proofs.EndReplies.{never_missing, end_accepted, served_end}
use Rattle.updates.proofs.writing.end.Goals as goal

pub end_refusal-requires : goal.end_refusal-requires
end_refusal-requires c = (c.args.number, c.find_pass-found.ensures)

pub returns-in-Err-clause-replied : goal.returns-in-Err-clause-replied
returns-in-Err-clause-replied c =
    let a = c.args in
    let call = end a.tick a.number in
    let seen = ap₂ (λ (ends time : LentTree). refusal (store_with a.head.now (words_in a.starts) ends time) call) c.view.ensures c.view-2.ensures in
    let s = store_with a.head.now (words_in a.starts) (words_of a.ends.now) (words_of a.time.now) in
    replied (call_refused s call (c.in-Err.ensures a.number c.find_pass-found.ensures ∙ seen) (numbered _)) (refused_reply_lem s _ (rw c.number.ensures at c.refused.ensures))

pub returns-in_default-found : goal.returns-in_default-found
returns-in_default-found c =
    let a = c.args in
    let call = end a.tick a.number in
    let seen = ap₂ (λ (ends time : LentTree). refusal (store_with a.head.now (words_in a.starts) ends time) call) c.view.ensures c.view-2.ensures in
    let s = store_with a.head.now (words_in a.starts) (words_of a.ends.now) (words_of a.time.now) in
    absurd (never_missing s a.tick a.number (sym (c.in_default.ensures a.number c.find_pass-found.ensures ∙ seen)) (sym c.find_pass-found.ensures ∙ c.in_default-found.is))

pub end_pass-requires : goal.end_pass-requires
end_pass-requires c =
    let a = c.args in
    let call = end a.tick a.number in
    let seen = ap₂ (λ (ends time : LentTree). refusal (store_with a.head.now (words_in a.starts) ends time) call) c.view.ensures c.view-2.ensures in
    let s = store_with a.head.now (words_in a.starts) (words_of a.ends.now) (words_of a.time.now) in
    let taken = end_accepted s a.tick a.number (sym (c.in_default.ensures a.number c.find_pass-found.ensures ∙ seen)) (sym c.find_pass-found.ensures ∙ c.in-Some.is) in
    record { count = taken.count; inside = taken.inside; key = taken.key; planned = taken.planned; time_planned = taken.time_planned }

pub returns-clause-replied : goal.returns-clause-replied
returns-clause-replied c =
    let a = c.args in
    let call = end a.tick a.number in
    let seen = ap₂ (λ (ends time : LentTree). refusal (store_with a.head.now (words_in a.starts) ends time) call) c.view.ensures c.view-2.ensures in
    let s = store_with a.head.now (words_in a.starts) (words_of a.ends.now) (words_of a.time.now) in
    replied (call_served s call (c.in_default.ensures a.number c.find_pass-found.ensures ∙ seen) refl ∙ served_end s a.tick a.number (sym c.find_pass-found.ensures ∙ c.in-Some.is))
    (c.end_pass.ensures.replied (words_in a.starts))
