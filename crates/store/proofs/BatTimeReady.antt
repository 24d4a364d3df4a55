-- Bat-time: the store answers as the book, and stays as it is.
use Prim.Native.Nat.{ℕ, ◌≤◌}
use native.Mathlib.Omega.{arith}
use mathlib.Core.Path.{ap}
use mathlib.Core.List.{[], ◌∷◌}
use Rattle.words.specs.Words.{open_end}
use Rattle.store.specs.declared.types.TreeName.TheVariants.{Time}
use Rattle.store.specs.Trees.{Store}
use Rattle.store.specs.Calls.{bat_time}
use Rattle.store.specs.Reading.{lookups_of}
use Rattle.store.specs.Performing.{served}
use Rattle.store.specs.Book.{Book, says}
use Rattle.store.proofs.ArgumentFacts.{Asked}
use Rattle.store.proofs.Agreement.{Agrees}
use Rattle.store.proofs.BandLookups.{four_most, in_bounds}
use Rattle.store.proofs.Ready.{Ready, pages_are, pages_few}
use Rattle.store.proofs.BatTimeValues.{bat_time_exact}

pub bat_time_ready : (s : Store) (b : Book) → Agrees s b → (k1 k2 t1 t2 : ℕ) → t2 ≤ open_end → Asked k1 k2 t1 t2 → Ready s b (bat_time k1 k2 t1 t2)
unfolding served
bat_time_ready s b a k1 k2 t1 t2 wide ask =
    let inside = in_bounds k1 k2 t1 t2 wide ask Time Time in
    record {
      lookups = inside;
      entries = tt;
      serves = λ rooms.
          record {
            answer = ap (λ (total : ℕ). says (total ∷ [])) (bat_time_exact s b a k1 k2 t1 t2 wide ask);
            next = a;
            said = pages_are s b a (lookups_of (bat_time k1 k2 t1 t2)) inside;
            most = omega (arith, pages_few s b a (lookups_of (bat_time k1 k2 t1 t2)) inside, four_most Time Time k1 k2 t1 t2);
          };
    }
