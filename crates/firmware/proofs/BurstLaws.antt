-- Bursts of events: what an exported call leaves, from what entering the burst hands back.
use Prim.Native.Nat.{ℕ, zero, suc}
use mathlib.Core.Path.{◌≡◌, refl, ap, ◌∙◌}
use mathlib.Core.List.{List, []}
use lib.ListN.{length}
use Rattle.words.specs.Overwrite.{overwrite}
use Rattle.words.proofs.OverwriteLaws.{overwrite_none}
use Rattle.store.specs.declared.types.Head.{Head}
use Rattle.store.specs.Trees.{Lent, Store}
use Rattle.store.specs.Head.{open_limit}
use Rattle.store.specs.Refused.{told}
use Rattle.demand.specs.Bursts.{Asked, events_of, result_words, burst_refusal, Entered, unless_refused_whole, enter_burst}
use Rattle.burst.specs.declared.entering.BurstReply.{BurstReply}
use Rattle.burst.specs.BurstReplies.{BurstAs}
use Rattle.c_heads.specs.Heads.{field_numbers, head_numbers, head_of, head_over}
use Rattle.firmware.specs.Exported.{Handed, store_in, handed_back}
use Rattle.c_heads.proofs.HeadNumbers.{passes_length}
use Rattle.firmware.proofs.ExportedLaws.{of_handed, handed_again, written_back}
use Rattle.firmware.proofs.ExportedLists.{tried_places}
use Rattle.firmware.proofs.KeptPlaces.{all_places}
use Rattle.firmware.specs.BurstCalls.{LeavesBurst}

-- A burst that is refused as a whole tries no event
none_tried : (n : ℕ) (s : Store) (es : List Asked) → ((unless_refused_whole n s es).refusal ≡ 0 → ⊥)
    → ((unless_refused_whole n s es).answers ≡ []) × ((unless_refused_whole n s es).store ≡ s)
none_tried zero s es some = absurd (some refl)
none_tried (suc n) s es some = (refl, refl)

-- A burst on the head that was read
pub entered_in : (before : Handed) (events results : List ℕ) {head : Head} → head ≡ head_of before.numbers → {r : BurstReply} {results' : List ℕ} {lent : Lent}
    → BurstAs (enter_burst (record { head = head; lent = before.lent }) events (length results)) r results results' lent
    → BurstAs (enter_burst (store_in before) events (length results)) r results results' lent
entered_in before events results of_head {r} {results'} {lent} =
    of_handed (λ (s : Store). BurstAs (enter_burst s events (length results)) r results results' lent) before of_head

module _ (before : Handed) (events results : List ℕ) {r : BurstReply} {results' : List ℕ} {lent : Lent}
    (is : BurstAs (enter_burst (store_in before) events (length results)) r results results' lent) (long : length before.numbers ≡ head_numbers) where
  abbrev b : Entered
  b = enter_burst (store_in before) events (length results)

  -- The head that the burst handed back was written. A burst that is refused hands back the head that it got
  pub burst_leaves : {numbers : List ℕ} {refusal : ℕ} → refusal ≡ told r.refused → numbers ≡ head_over before.numbers open_limit r.head
      → LeavesBurst b refusal (record { handed = before; results = results })
      (record { handed = record { numbers = numbers; lent = lent }; results = results' })
  unfolding result_words
  burst_leaves {numbers} {refusal} of_refused put =
      let as_said = of_refused ∙ is.refusal in
      let places = passes_length before.numbers field_numbers open_limit in
      let new = tried_places (burst_refusal events (length results)) (store_in before) places (events_of events) in
      let left_is = written_back before long b.store (all_places (store_in before).head b.store.head places new) is.head is.lent_is put in
      let none : (refusal ≡ 0 → ⊥) → (b.answers ≡ []) × (b.store ≡ store_in before) =
      λ some. none_tried (burst_refusal events (length results)) (store_in before) (events_of events) (λ z. some (as_said ∙ z)) in
      let list : (refusal ≡ 0 → ⊥) → results' ≡ results =
      λ some. is.words ∙ ap (λ (l : List _). overwrite results 0 (result_words l)) (none some).0 ∙ overwrite_none results 0 in
      let kept : (refusal ≡ 0 → ⊥) → record { numbers = numbers; lent = lent } ≡ before =
      λ some. left_is ∙ ap handed_back (none some).1 ∙ handed_again before long in
      record {
        refusal = as_said;
        words = is.words;
        left = left_is;
        kept = λ some. λ i. record { handed = kept some i; results = list some i };
      }
