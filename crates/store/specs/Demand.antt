-- Demand 3: what is claimed of a whole list of calls, from a store just opened. `proofs/Main` proves it.
use Rattle.std.specs.Prelude.{ℕ, ◌+◌, ◌-◌, ◌*◌, ◌/◌, ◌^◌, ◌≤◌, ◌<◌, ◌≡◌, ◌⊎◌, List, [], ◌∷◌, map, length, Result, Ok, Err}
use Rattle.words.specs.Lists.{All}
use Rattle.tree.specs.declared.types.Plan.{Plan}
use Rattle.tree.specs.declared.types.SpoiledPage.{SpoiledPage}
use Rattle.tree.specs.declared.types.RootChange.{RootChange}
use Rattle.tree.specs.declared.types.RootChange.TheVariants.{Kept, Added}
use Rattle.tree.specs.Tree.{Tree, height, pages_left}
use Rattle.tree.specs.RowSteps.{Point}
use Rattle.tree.specs.Path.{path}
use Rattle.tree.specs.PointSums.{different_keys}
use Rattle.store.specs.declared.types.Head.{Head}
use Rattle.store.specs.declared.types.TreeName.{TreeName}
use Rattle.store.specs.Trees.{Lent, Store, tree_in}
use Rattle.store.specs.Answers.{refusal_of, pages_said}
use Rattle.store.specs.Calls.{Call, opening, start, end, question, bat_time, lookup_in, Sent}
use Rattle.store.specs.Writing.{Entry, entries_of, plan_of}
use Rattle.store.specs.Reading.{PointLookup, lookups_of}
use Rattle.store.specs.Performing.{refusal, perform, perform_all}
use Rattle.store.specs.Points.{points_of}
use Rattle.store.specs.Book.{Book, book_part, fed_by, empty_book, book_refusal, book_turn, book_answers}

-- One item has the property
abbrev pub Some : {A : Type 0} → (A → Type 0) → List A → Type 0
Some P [] = ⊥
Some P (x ∷ xs) = P x ⊎ Some P xs

-- "Splits are steps 5 and 8; the pages they make are counted as if table and root list had room."
abbrev pub pages_made : Result Plan SpoiledPage → ℕ
pages_made (Err e) = 0
pages_made (Ok p) = p.made

abbrev pub new_root : Result Plan SpoiledPage → RootChange
new_root (Err e) = Kept
new_root (Ok p) = p.root

-- "Pages left are as in 27, each tree's splits against its own table; a call that writes several trees lacks pages if one of them does."
abbrev pub PagesLack : Store → List Entry → Type 0
PagesLack s es = Some (λ (e : Entry). pages_left (tree_in s e.tree) < pages_made (plan_of s e)) es

-- "28 a new root entry finds the list full."
abbrev pub ListFull : Store → List Entry → Type 0
ListFull s es =
    Some (λ (e : Entry). (new_root (plan_of s e) ≡ Added) × (length (tree_in s e.tree).roots ≤ (tree_in s e.tree).used.roots)) es

-- The refusals that the book does not know: "27 comes as demand 3 says, 28 as above, 20 and 26 never". "27 comes exactly if the splits make more
-- pages than are left". r is the number of the store's refusal, q that of the book's; 0 is none
pub record Exact (r q : ℕ) (lack full : Type 0) : Type 0 where
  pub never_20 : r ≡ 20 → ⊥
  pub never_26 : r ≡ 26 → ⊥
  pub only_27 : r ≡ 27 → (q ≡ 0) × lack
  pub always_27 : q ≡ 0 → lack → r ≡ 27
  pub only_28 : r ≡ 28 → (q ≡ 0) × (lack → ⊥) × full
  pub always_28 : q ≡ 0 → (lack → ⊥) → full → r ≡ 28

abbrev pub ExactCall : Store → Book → Call → Type 0
ExactCall s b c =
    Exact (refusal_of (perform s c).answer) (book_refusal b c) (PagesLack s (entries_of s.head c)) (ListFull s (entries_of s.head c))

-- The paths that a call follows, one for each of its lookups
abbrev pub paths_of : Store → Call → List (List ℕ)
paths_of s c = map (λ (l : PointLookup). path (tree_in s l.tree) l.tick l.key) (lookups_of c)

-- "A question's pages opened are the sum over its lookups, a page on two paths counted twice."
abbrev pub pages_on : List (List ℕ) → ℕ
pages_on [] = 0
pages_on (p ∷ ps) = length p + pages_on ps

-- "A lookup opens at most 4 pages, a question at most 16", and so bat-time, which is as many lookups
abbrev pub most_pages : Call → ℕ
most_pages opening = 0
most_pages (start tick key weight) = 0
most_pages (end tick number) = 0
most_pages (question k1 k2 t1 t2) = 16
most_pages (bat_time k1 k2 t1 t2) = 16
most_pages (lookup_in tree t k) = 4

-- "the reported number is the length of the paths followed", of a call that is not refused
pub record Opens (s : Store) (c : Call) : Type 0 where
  pub said : refusal_of (perform s c).answer ≡ 0 → pages_said (perform s c).answer ≡ pages_on (paths_of s c)
  pub most : pages_said (perform s c).answer ≤ most_pages c

-- "A tree h > 1 pages high took at least 2 × 20^(h-1) - 1 different keys above zero; one that took n points uses at most 4 + 4n/9 pages, rounded
-- down"
pub record Bounded (tree : Tree) (points : List Point) : Type 0 where
  pub high : 1 < height tree → 2 * 20 ^ (height tree - 1) ≤ different_keys points + 1
  pub wide : tree.used.pages ≤ 4 + 4 * length points / 9

abbrev pub AllBounded : Store → Book → Type 0
AllBounded s b = (name : TreeName) → Bounded (tree_in s name) (points_of name b.passes)

-- The book after a call: fed "of the answers only whether one was 27 or 28"
abbrev pub next_book : Store → Book → Call → Book
next_book s b c = (book_turn b c (fed_by (refusal_of (perform s c).answer))).book

-- After every prefix of the list: the trees, and the call that comes next
abbrev pub Along : Store → Book → List Call → Type 0
Along s b [] = AllBounded s b
Along s b (c ∷ cs) =
    record {
      bounded : AllBounded s b;
      refusals : ExactCall s b c;
      opens : Opens s c;
      next : Along (perform s c).store (next_book s b c) cs;
    }

-- The claim about one list of calls
pub record AsTheBook (s : Store) (calls : List Call) : Type 0 where
  -- "The calls answer the same pass numbers, counts, sums and refusals": each answer is the pass book's
  pub answers : map book_part (perform_all s calls) ≡ book_answers empty_book calls (map refusal_of (perform_all s calls))
  pub along : Along s empty_book calls

-- "For every list of openings, starts, ends, questions and lookups, refused ones among them, run from a store just opened, each call answers what
-- document 01's pass book answers." Whatever the head and the words that opening is handed, and the memory of any length that it takes
abbrev pub Demand3 : Type 0
Demand3 =
    (head : Head) (lent : Lent) → let memory : Store = record { head = head; lent = lent } in
    refusal memory opening ≡ 0 → (calls : List Call) → All Sent calls → AsTheBook (perform memory opening).store calls
