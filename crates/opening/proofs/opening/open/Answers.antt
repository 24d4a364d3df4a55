use mathlib.Core.Path.{refl, sym}
use Rattle.store.specs.declared.types.TreeName.TheVariants.{Starts, Ends, Time}
use Rattle.store.specs.Lending.{words_of, store_with}
use Rattle.store.specs.Calls.{opening}
use Rattle.store.specs.Performing.{served}
use Rattle.store.proofs.TreeLaws.{same_lent}
use Rattle.store.proofs.OpeningReady.{takes_enough, each_enough}
use Rattle.store.proofs.RefusedNumbers.{numbered}
use Rattle.refusals.proofs.Outcomes.{call_refused, call_served}
use Rattle.replies.proofs.RepliesAs.{replied, refused_reply_lem}
use Rattle.opening.proofs.opening.open.Goals as goal

pub returns-in-Err-clause-replied : goal.returns-in-Err-clause-replied
returns-in-Err-clause-replied c =
    let a = c.args in
    let s = store_with a.head (words_of a.starts.now) (words_of a.ends.now) (words_of a.time.now) in
    let refused = rw (c.view.ensures, c.view-2.ensures, c.view-3.ensures) at (c.in-Err.ensures a.head) in
    replied (call_refused s opening refused (numbered _)) (refused_reply_lem s _ (rw c.number.ensures at c.refused.ensures))

pub open_tree-requires : goal.open_tree-requires
open_tree-requires c =
    let a = c.args in
    let s = store_with a.head (words_of a.starts.now) (words_of a.ends.now) (words_of a.time.now) in
    let passed = rw (c.view.ensures, c.view-2.ensures, c.view-3.ensures) at (c.in_default.ensures a.head) in
    let enough = each_enough s.lent (takes_enough s (sym passed)) Starts in
    record { page_words_in_bounds = enough.page; in_bounds = enough.root }

pub open_tree-requires-2 : goal.open_tree-requires-2
open_tree-requires-2 c =
    let a = c.args in
    let s = store_with a.head (words_of a.starts.now) (words_of a.ends.now) (words_of a.time.now) in
    let passed = rw (c.view.ensures, c.view-2.ensures, c.view-3.ensures) at (c.in_default.ensures a.head) in
    let enough = each_enough s.lent (takes_enough s (sym passed)) Ends in
    record { page_words_in_bounds = enough.page; in_bounds = enough.root }

pub open_tree-requires-3 : goal.open_tree-requires-3
open_tree-requires-3 c =
    let a = c.args in
    let s = store_with a.head (words_of a.starts.now) (words_of a.ends.now) (words_of a.time.now) in
    let passed = rw (c.view.ensures, c.view-2.ensures, c.view-3.ensures) at (c.in_default.ensures a.head) in
    let enough = each_enough s.lent (takes_enough s (sym passed)) Time in
    record { page_words_in_bounds = enough.page; in_bounds = enough.root }

pub returns-clause-replied : goal.returns-clause-replied
unfolding served
returns-clause-replied c =
    let a = c.args in
    let s = store_with a.head (words_of a.starts.now) (words_of a.ends.now) (words_of a.time.now) in
    let passed = rw (c.view.ensures, c.view-2.ensures, c.view-3.ensures) at (c.in_default.ensures a.head) in
    replied (call_served s opening passed refl)
    (record {
      answer = refl;
      head = c.opened_head.ensures;
      lent_is = same_lent c.open_tree.ensures.table_after c.open_tree.ensures.roots_after c.open_tree-2.ensures.table_after c.open_tree-2.ensures.roots_after c.open_tree-3.ensures.table_after c.open_tree-3.ensures.roots_after;
    })
