-- A call that the book does not refuse: what it looks up and enters is in bounds, and where there is room for it both do the same.
use Prim.Native.Nat.{ℕ, ◌+◌, ◌*◌, ◌≤◌}
use native.Mathlib.Omega.{arith}
use mathlib.Core.Path.{◌≡◌, refl, ap, ◌∙◌}
use mathlib.Core.Bool.{false}
use mathlib.Core.List.{List, [], ◌∷◌, map}
use lib.ListN.{length}
use Rattle.words.specs.Lists.{All}
use Rattle.tree.specs.Path.{path}
use Rattle.tree.specs.Grown.{InTime}
use Rattle.store.specs.Trees.{Store, tree_in}
use Rattle.store.specs.Calls.{Call}
use Rattle.store.specs.Answers.{pages_said}
use Rattle.store.specs.Writing.{Entry, entries_of}
use Rattle.store.specs.Reading.{is_spoiled, pages_of, PointLookup, found_in, lookups_of, pages_in}
use Rattle.store.specs.Performing.{served}
use Rattle.store.specs.Book.{Book, book_part, book_does, book_says}
use Rattle.store.specs.Demand.{paths_of, pages_on, most_pages}
use Rattle.store.proofs.Agreement.{Agrees}
use Rattle.store.proofs.BandLookups.{LookupInBounds}
use Rattle.store.proofs.LookupTotals.{found_as_book}
use Rattle.store.proofs.Bounds.{took_short}
use Rattle.store.proofs.Entering.{HasRoom}

-- The store serves the call as the book does
pub record ServedAlike (s : Store) (b : Book) (c : Call) : Type 0 where
  pub answer : book_part (served s c).answer ≡ book_says b c
  pub next : Agrees (served s c).store (book_does b c)
  pub said : pages_said (served s c).answer ≡ pages_on (paths_of s c)
  pub most : pages_on (paths_of s c) ≤ most_pages c

pub record Ready (s : Store) (b : Book) (c : Call) : Type 0 where
  pub lookups : All LookupInBounds (lookups_of c)
  pub entries : All (λ (e : Entry). InTime b.last e.point) (entries_of s.head c)
  pub serves : All (HasRoom s) (entries_of s.head c) → ServedAlike s b c

-- Lookups in bounds meet no spoiled page, and open the pages on their paths, at most 4 each
module _ (s : Store) (b : Book) (a : Agrees s b) where
  pub never_spoiled : (ls : List PointLookup) → All LookupInBounds ls → All (λ (l : PointLookup). is_spoiled (found_in s l) ≡ false) ls
  never_spoiled [] h = tt
  never_spoiled (l ∷ ls) h = (ap is_spoiled (found_as_book s b a l h.0), never_spoiled ls h.1)

  abbrev path_of : PointLookup → List ℕ
  path_of l = path (tree_in s l.tree) l.tick l.key

  pub pages_are : (ls : List PointLookup) → All LookupInBounds ls → pages_in s ls ≡ pages_on (map path_of ls)
  pages_are [] h = refl
  pages_are (l ∷ ls) h =
      ap (λ (n : ℕ). n + pages_in s ls) (ap pages_of (found_as_book s b a l h.0))
      ∙ ap (λ (n : ℕ). length (path_of l) + n) (pages_are ls h.1)

  pub pages_few : (ls : List PointLookup) → All LookupInBounds ls → pages_on (map path_of ls) ≤ 4 * length ls
  pages_few [] h = omega arith
  pages_few (l ∷ ls) h = omega (arith, took_short (a.trees l.tree) l.tick l.key h.0, pages_few ls h.1)
