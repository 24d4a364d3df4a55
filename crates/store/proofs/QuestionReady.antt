-- Questions: the store answers as the book, and stays as it is.
use Prim.Native.Nat.{ℕ, ◌≤◌}
use native.Mathlib.Omega.{arith}
use mathlib.Core.Path.{ap₂}
use mathlib.Core.List.{[], ◌∷◌}
use Rattle.words.specs.Words.{open_end}
use Rattle.store.specs.declared.types.TreeName.TheVariants.{Starts, Ends}
use Rattle.store.specs.Trees.{Store}
use Rattle.store.specs.Calls.{question}
use Rattle.store.specs.Reading.{lookups_of}
use Rattle.store.specs.Performing.{served}
use Rattle.store.specs.Book.{Book, says}
use Rattle.store.proofs.ArgumentFacts.{Asked}
use Rattle.store.proofs.Agreement.{Agrees}
use Rattle.store.proofs.BandLookups.{four_most, in_bounds}
use Rattle.store.proofs.Ready.{Ready, pages_are, pages_few}
use Rattle.store.proofs.QuestionValues.{question_count_lem, question_sum_lem}

pub question_ready : (s : Store) (b : Book) → Agrees s b → (k1 k2 t1 t2 : ℕ) → t2 ≤ open_end → Asked k1 k2 t1 t2 → Ready s b (question k1 k2 t1 t2)
unfolding served
question_ready s b a k1 k2 t1 t2 wide ask =
    let inside = in_bounds k1 k2 t1 t2 wide ask Starts Ends in
    record {
      lookups = inside;
      entries = tt;
      serves = λ rooms.
          record {
            answer = ap₂ (λ (count sum : ℕ). says (count ∷ (sum ∷ []))) (question_count_lem s b a k1 k2 t1 t2 wide ask) (question_sum_lem s b a k1 k2 t1 t2 wide ask);
            next = a;
            said = pages_are s b a (lookups_of (question k1 k2 t1 t2)) inside;
            most = omega (arith, pages_few s b a (lookups_of (question k1 k2 t1 t2)) inside, four_most Starts Ends k1 k2 t1 t2);
          };
    }
