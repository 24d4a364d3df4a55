-- The places of open passes that a call may change: a start the one behind the passes that were open, an end those of the passes that were open.
use Prim.Native.Nat.{ℕ, ◌+◌, ◌-◌, ◌≤◌}
use native.Mathlib.Omega.{arith}
use mathlib.Core.Path.{◌≡◌, refl, sym, subst, ◌∙◌}
use lib.ListN.{length, drop, length-set, drop_of_length-le}
use lib.Seq.{drop-set-lt}
use Rattle.store.specs.declared.types.Head.{Head}
use Rattle.std.specs.Prelude.{Option, Some, None}
use Rattle.store.specs.declared.types.FoundPass.{FoundPass}
use Rattle.store.specs.Trees.{Lent, Store}
use Rattle.store.specs.Head.{open_limit, pass_of}
use Rattle.store.specs.Calls.{opening, start, end}
use Rattle.store.specs.Answers.{Answered}
use Rattle.store.specs.Writing.{end_entries, enter_all, ended_head}
use Rattle.store.specs.Performing.{refusal, served, perform}
use Rattle.store.proofs.RefusedOrServed.{refused_or_served}
use Rattle.store.proofs.HeadLists.{closed_length, closed_rest}
use Rattle.refusals.proofs.RefusalParts.{none_of}
use Rattle.refusals.proofs.FoundPasses.{found_facts}
use Rattle.replies.specs.declared.types.Reply.{Reply}
use Rattle.replies.specs.Replies.{RepliedAs}
use Rattle.c_heads.specs.Heads.{field_numbers}
use Rattle.c_heads.proofs.HeadNumbers.{passes_length}
use Rattle.firmware.specs.Exported.{Handed, store_in}
use Rattle.firmware.proofs.ExportedLaws.{KeepsFrom}
use Rattle.firmware.proofs.ExportedLists.{places_stay}

-- All places are all that there are
pub all_places : (before after : Head) → length before.passes ≡ open_limit → length after.passes ≡ open_limit → KeepsFrom open_limit before after
all_places before after old new =
    record {
      full = new;
      rest = drop_of_length-le after.passes {i = open_limit} (omega (arith, new)) ∙ sym (drop_of_length-le before.passes {i = open_limit} (omega (arith, old)));
    }

module _ (s : Store) (long : length s.head.passes ≡ open_limit) where
  pub opening_keeps : KeepsFrom open_limit s.head (perform s opening).store.head
  opening_keeps = all_places s.head (perform s opening).store.head long (places_stay s long opening)

  -- A refused call leaves all of them
  none_changed : {places : ℕ} → KeepsFrom places s.head s.head
  none_changed = record { full = long; rest = refl }

  module _ (tick key weight : ℕ) where
    pub started : refusal s (start tick key weight) ≡ 0
        → KeepsFrom (served s (start tick key weight)).store.head.count s.head (served s (start tick key weight)).store.head
    unfolding served
    started e =
        record {
          full = length-set s.head.passes s.head.count _ ∙ long;
          rest = drop-set-lt (s.head.count + 1) s.head.passes s.head.count _ (omega arith);
        }

    pub start_keeps : KeepsFrom (perform s (start tick key weight)).store.head.count s.head (perform s (start tick key weight)).store.head
    start_keeps =
        refused_or_served (λ (a : Answered). KeepsFrom a.store.head.count s.head a.store.head) s (start tick key weight) (λ n. none_changed) started

  module _ (tick number : ℕ) where
    abbrev pub head_after : Option FoundPass → Head
    head_after found = ended_head (enter_all s (end_entries tick found)).head tick found

    pub by_place : refusal s (end tick number) ≡ 0 → (found : Option FoundPass) → pass_of s.head number ≡ found
        → KeepsFrom ((head_after found).count + 1) s.head (head_after found)
    by_place e None f = record { full = long; rest = refl }
    by_place e (Some found) f =
        let none = none_of s (end tick number) refl e in
        let facts = found_facts s.head number none.1.passes f in
        let fits : s.head.count ≤ length s.head.passes = omega (arith, none.1.count, long) in
        let same : s.head.count ≡ s.head.count - 1 + 1 = omega (arith, facts.inside) in
        record {
          full = closed_length s.head.passes found.place s.head.count facts.inside fits ∙ long;
          rest =
              subst (λ (n : ℕ). drop n (head_after (Some found)).passes ≡ drop n s.head.passes) same
              (closed_rest s.head.passes found.place s.head.count facts.inside fits);
        }

    pub end_keeps : KeepsFrom ((perform s (end tick number)).store.head.count + 1) s.head (perform s (end tick number)).store.head
    unfolding served
    end_keeps =
        refused_or_served (λ (a : Answered). KeepsFrom (a.store.head.count + 1) s.head a.store.head) s (end tick number) (λ n. none_changed)
        (λ e. by_place e (pass_of s.head number) refl)

-- The same of exported calls, by the count of the head that a call handed back
places : (before : Handed) → length (store_in before).head.passes ≡ open_limit
places before = passes_length before.numbers field_numbers open_limit

pub after_opening : (before : Handed) → KeepsFrom open_limit (store_in before).head (perform (store_in before) opening).store.head
after_opening before = opening_keeps (store_in before) (places before)

module _ (before : Handed) {reply : Reply} {lent : Lent} where
  pub after_start : (tick key weight : ℕ) → RepliedAs (perform (store_in before) (start tick key weight)) reply lent
      → KeepsFrom reply.head.count (store_in before).head (perform (store_in before) (start tick key weight)).store.head
  after_start tick key weight is =
      subst (λ (h : Head). KeepsFrom h.count (store_in before).head (perform (store_in before) (start tick key weight)).store.head) (sym is.head)
      (start_keeps (store_in before) (places before) tick key weight)

  pub after_end : (tick number : ℕ) → RepliedAs (perform (store_in before) (end tick number)) reply lent
      → KeepsFrom (reply.head.count + 1) (store_in before).head (perform (store_in before) (end tick number)).store.head
  after_end tick number is =
      subst (λ (h : Head). KeepsFrom (h.count + 1) (store_in before).head (perform (store_in before) (end tick number)).store.head) (sym is.head)
      (end_keeps (store_in before) (places before) tick number)
