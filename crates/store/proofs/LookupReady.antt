-- Lookups: the store answers as the book, and stays as it is.
use Prim.Native.Nat.{ℕ}
use mathlib.Core.Path.{ap}
use mathlib.Core.List.{[], ◌∷◌}
use Rattle.std.specs.Prelude.{Result}
use Rattle.tree.specs.declared.types.Lookup.{Lookup}
use Rattle.tree.specs.declared.types.SpoiledPage.{SpoiledPage}
use Rattle.store.specs.declared.types.TreeName.{TreeName}
use Rattle.store.specs.Trees.{Store}
use Rattle.store.specs.Calls.{lookup_in}
use Rattle.store.specs.Reading.{value_of, PointLookup, lookups_of, pages_in}
use Rattle.store.specs.Performing.{totals, served}
use Rattle.store.specs.Book.{Book, book_part}
use Rattle.store.proofs.ArgumentFacts.{InBounds}
use Rattle.store.proofs.Agreement.{Agrees}
use Rattle.store.proofs.LookupTotals.{found_as_book}
use Rattle.store.proofs.Ready.{Ready, pages_are, pages_few}

pub lookup_ready : (s : Store) (b : Book) → Agrees s b → (tree : TreeName) (t k : ℕ) → InBounds t k → Ready s b (lookup_in tree t k)
unfolding served
lookup_ready s b a tree t k bounds =
    record {
      lookups = (bounds, tt);
      entries = tt;
      serves = λ rooms.
          record {
            answer = ap (λ (x : Result Lookup SpoiledPage). book_part (totals (value_of x) (pages_in s (lookups_of (lookup_in tree t k))))) (found_as_book s b a l bounds);
            next = a;
            said = pages_are s b a (l ∷ []) (bounds, tt);
            most = pages_few s b a (l ∷ []) (bounds, tt);
          };
    }
  where
    l : PointLookup
    l = record { tree = tree; tick = t; key = k }
