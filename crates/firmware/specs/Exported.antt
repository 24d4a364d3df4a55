-- What an exported call is handed and leaves.
use Rattle.std.specs.Prelude.{ℕ, ◌≡◌, List, [], ◌∷◌}
use Rattle.store.specs.Trees.{Lent, lent_of, Store}
use Rattle.store.specs.Answers.{refusal_of, Answered}
use Rattle.register_block.specs.Block.{Block}
use Rattle.register_block.specs.Access.{Device}
use Rattle.demand.specs.Bursts.{Entered}
use Rattle.demand.specs.Steps.{Step, perform_step, device_after}
use Rattle.c_heads.specs.Heads.{head_of, numbers_of}

-- The head's numbers and the lent slices
pub record Handed : Type 0 where
  pub numbers : List ℕ
  pub lent : Lent

-- The slices in the order of a call's parameters
abbrev pub handed_of : (numbers start_table start_roots end_table end_roots time_table time_roots : List ℕ) → Handed
handed_of numbers start_table start_roots end_table end_roots time_table time_roots =
    record { numbers = numbers; lent = lent_of start_table start_roots end_table end_roots time_table time_roots }

-- The store that they make, and a store in their places
abbrev pub store_in : Handed → Store
store_in h = record { head = head_of h.numbers; lent = h.lent }

abbrev pub handed_back : Store → Handed
handed_back s = record { numbers = numbers_of s.head; lent = s.lent }

-- A writing call that comes to a: the refusal, and what is left. Refused, "every lent word and the head are as before"
pub record Leaves (a : Answered) (r : ℕ) (before after : Handed) : Type 0 where
  pub refusal : r ≡ refusal_of a.answer
  pub left : after ≡ handed_back a.store
  pub kept : (r ≡ 0 → ⊥) → after ≡ before

-- Exported calls one after the other, bursts and accesses to the block among them: each is handed what the one before left
unfoldable pub export_all : Handed → Block → List Step → List Entered
export_all h block [] = []
export_all h block (step ∷ steps) =
    let d : Device = record { store = store_in h; block = block } in
    perform_step d step ∷ export_all (handed_back (device_after d step).store) (device_after d step).block steps
