-- Performing a call, and a list of calls one after the other.
use Rattle.std.specs.Prelude.{ℕ, List, [], ◌∷◌, ◌++◌, Bool, true, false, ◌&&◌, not, Option, Some, None}
use Rattle.words.specs.declared.value.Value.{Value}
use Rattle.store.specs.declared.types.Answer.{Answer}
use Rattle.store.specs.declared.types.Answer.TheVariants.{Opened, Started, Ended, Totals, BatTime}
use Rattle.store.specs.declared.types.FoundPass.{FoundPass}
use Rattle.store.specs.declared.types.Head.{Head}
use Rattle.store.specs.Trees.{Store}
use Rattle.store.specs.Head.{pass_of, head_fits}
use Rattle.store.specs.Calls.{Call, opening, start, end, question, bat_time, lookup_in, is_opening}
use Rattle.store.specs.Refusals.{Ground, ◌gives◌, first_met}
use Rattle.store.specs.Grounds.{Known, sought_by, argument_grounds, state_grounds}
use Rattle.store.specs.Answers.{Answered, unless_refused}
use Rattle.store.specs.Writing.{lends_too_little, opened_store, entries_of, entry_grounds, enter_all, started_head, ended_head}
use Rattle.store.specs.Reading.{PointLookup, found_in, value_of, lookups_of, lookup_grounds, pages_in, question_value, bat_time_total}

-- What a head knows
abbrev pub is_found : Option FoundPass → Bool
is_found None = false
is_found (Some found) = true

abbrev pub head_knows : Head → Call → Known
head_knows h c = record { last = h.last; count = h.count; started = h.started; found = sought_by c (λ (number : ℕ). is_found (pass_of h number)) }

-- "8 on opening, a page table under 260 words or an empty root list."
abbrev pub opens_over_too_little : Store → Call → Ground
opens_over_too_little s c = (is_opening c && lends_too_little s.lent) gives 8

-- "20 head that doesn't fit". Opening sees no head.
abbrev pub head_unfit : Store → Call → Ground
head_unfit s c = (not (is_opening c) && not (head_fits s)) gives 20

-- 26, 27 and 28: what the pages and the root lists say that the call reads or would write
abbrev pub page_grounds : Store → Call → List Ground
page_grounds s c = lookup_grounds s (lookups_of c) ++ entry_grounds s (entries_of s.head c)

-- "Input refusals come first, then state ones, each list in number order"
abbrev pub grounds : Store → Call → List Ground
grounds s c =
    argument_grounds c ++ (opens_over_too_little s c ∷ (head_unfit s c ∷ (state_grounds (head_knows s.head c) c ++ page_grounds s c)))

unfoldable pub refusal : Store → Call → ℕ
refusal s c = first_met (grounds s c)

abbrev pub totals : Value → ℕ → Answer
totals v pages = Totals v.count v.sum pages

-- A call that is not refused
unfoldable pub served : Store → Call → Answered
served s opening = record { answer = Opened; store = opened_store s.lent }
served s (start tick key weight) =
    let entered = enter_all s (entries_of s.head (start tick key weight)) in
    record { answer = Started s.head.started; store = record { head = started_head entered.head tick key weight; lent = entered.lent } }
served s (end tick number) =
    let entered = enter_all s (entries_of s.head (end tick number)) in
    record { answer = Ended; store = record { head = ended_head entered.head tick (pass_of s.head number); lent = entered.lent } }
served s (question k1 k2 t1 t2) = record { answer = totals (question_value s k1 k2 t1 t2) (pages_in s (lookups_of (question k1 k2 t1 t2))); store = s }
served s (bat_time k1 k2 t1 t2) = record { answer = BatTime (bat_time_total s k1 k2 t1 t2) (pages_in s (lookups_of (bat_time k1 k2 t1 t2))); store = s }
served s (lookup_in tree t k) =
    let l : PointLookup = record { tree = tree; tick = t; key = k } in
    record { answer = totals (value_of (found_in s l)) (pages_in s (lookups_of (lookup_in tree t k))); store = s }

abbrev pub perform : Store → Call → Answered
perform s c = unless_refused (refusal s c) s (served s c)

-- "Each call, an opening anew too, gets the same slices, as the call before left them; the head is the one that the latest opening or accepted
-- start or end returned."
unfoldable pub perform_all : Store → List Call → List Answer
perform_all s [] = []
perform_all s (c ∷ cs) = (perform s c).answer ∷ perform_all (perform s c).store cs

unfoldable pub store_after : Store → List Call → Store
store_after s [] = s
store_after s (c ∷ cs) = store_after (perform s c).store cs
