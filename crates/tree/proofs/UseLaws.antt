-- What may be relied on of the pages in use and of the pages that a call takes. No other proof opens their definitions: how they reckon with page
-- numbers is said here, and nowhere else.
use Prim.Native.Nat.{ℕ, ◌+◌, ◌*◌, ◌-◌, ◌≤◌, ◌<◌, min}
use native.Mathlib.Omega.{arith}
use native.Mathlib.Decide.{dec_le}
use mathlib.Core.Path.{◌≡◌, refl, sym, ◌∙◌}
use mathlib.Core.Logic.{inl, inr}
use mathlib.Core.List.{List}
use lib.ListN.{length}
use lib.Dec.{ltb}
use borrow.Author.Tests.{lt-ltb, ltb-true}
use Rattle.tree.specs.Row.{page_words}
use Rattle.tree.specs.declared.types.TreeUse.{TreeUse}
use Rattle.tree.specs.declared.types.RootChange.{RootChange}
use Rattle.tree.specs.declared.types.RootChange.TheVariants.{Kept}
use Rattle.tree.specs.Use.{in_use, taken_page, pages_after, use_after, opened_use, page_limit}
use Rattle.tree.specs.Taking.{InUse, HasPages, Takes}
use Rattle.tree.specs.Tree.{Tree, whole_pages, pages_left}
use Rattle.tree.proofs.TakenPages.{After, Allocates}

module _ (used : TreeUse) where
  -- As the code reckons them: cited by the functions that test a page, take one, and say the use afterwards, and by the laws below
  pub in_use_is : (x : ℕ) → in_use used x ≡ ltb x used.pages
  unfolding in_use
  in_use_is x = refl

  pub taken_is : (i : ℕ) → taken_page used i ≡ used.pages + i
  unfolding taken_page
  taken_is i = refl

  pub after_is : (made : ℕ) → pages_after used made ≡ used.pages + made
  unfolding pages_after
  after_is made = refl

  below : (x : ℕ) → InUse used x → x < used.pages
  below x h = ltb-true x used.pages (sym (in_use_is x) ∙ h)

  -- A page in use lies in the table
  pub in_use_inside : (x : ℕ) (table : List ℕ) → InUse used x → used.pages * page_words ≤ length table → x * page_words + page_words ≤ length table
  in_use_inside x table h inside = omega (arith, below x h)

  -- The pages that a call takes were not in use, are different, and lie in a table that has them; in use afterwards are these and those from before
  module _ (takes : Takes used) where
    pub taken_new : (x i : ℕ) → InUse used x → x ≡ taken_page used i → ⊥
    taken_new x i h e = omega (arith, below x h, taken_is i, e)

    pub taken_once : (i j : ℕ) → taken_page used i ≡ taken_page used j → i ≡ j
    taken_once i j e = omega (arith, taken_is i, taken_is j, e)

    pub used_allocates : Allocates (InUse used) (taken_page used)
    used_allocates = record { new = taken_new; once = taken_once }

    pub taken_inside : (i made : ℕ) (table : List ℕ) → HasPages table used made → i < made
        → taken_page used i * page_words + page_words ≤ length table
    taken_inside i made table has h = omega (arith, has.inside, taken_is i, after_is made)

    pub in_after : (made : ℕ) (change : RootChange) (x : ℕ) → After (InUse used) (taken_page used) made x → InUse (use_after used made change) x
    unfolding in_use pages_after taken_page
    in_after made change x (inl h) = lt-ltb x (used.pages + made) (omega (arith, below x h))
    in_after made change x (inr t) = lt-ltb x (used.pages + made) (omega (arith, t.early, t.is))

    pub after_in : (made : ℕ) (change : RootChange) (x : ℕ) → InUse (use_after used made change) x → After (InUse used) (taken_page used) made x
    unfolding in_use pages_after taken_page
    after_in made change x h = go (dec_le used.pages x)
      where
        early : x < used.pages + made
        early = ltb-true x (used.pages + made) h

        go : Dec (used.pages ≤ x) → After (InUse used) (taken_page used) made x
        go (yes l) = inr (record { place = x - used.pages; early = omega (arith, early); is = omega arith })
        go (no l) = inl (lt-ltb x used.pages (omega arith))

  -- A table that has pages has fewer, and those in use
  pub fewer : (less made : ℕ) (table : List ℕ) → less ≤ made → HasPages table used made → HasPages table used less
  fewer less made table h has = record { inside = omega (arith, has.inside, after_is less, after_is made) }

  pub has_used : (made : ℕ) (table : List ℕ) → HasPages table used made → used.pages * page_words ≤ length table
  has_used made table has = omega (arith, has.inside, after_is made)

  -- Its length alone matters
  pub has_same : (made : ℕ) (table other : List ℕ) → length other ≡ length table → HasPages table used made → HasPages other used made
  has_same made table other e has = record { inside = omega (arith, has.inside, e) }

  -- Pages used afterwards: no fewer than before, and more by the pages taken at most
  abbrev pub pages_at_most : ℕ → ℕ
  pages_at_most made = used.pages + made

  pub after_least : (made : ℕ) → used.pages ≤ pages_after used made
  after_least made = omega (arith, after_is made)

  pub after_most : (made : ℕ) → pages_after used made ≤ pages_at_most made
  after_most made = omega (arith, after_is made)

  -- A root list of as many places as pages are used then has one for an entry that comes with a page
  pub place_found_lem : (made places : ℕ) → used.roots ≤ used.pages → 1 ≤ made → pages_after used made ≤ places → used.roots < places
  place_found_lem made places rooted some h = omega (arith, rooted, some, h, after_is made)

-- Where as many pages are left, the table has them, and no more are used afterwards than a tree may use
module _ (tree : Tree) (takes : Takes tree.used) (held : tree.used.pages ≤ whole_pages tree.table) (made : ℕ) where
  pub left_after : made ≤ pages_left tree → pages_after tree.used made ≤ min (whole_pages tree.table) page_limit
  left_after left = omega (arith, takes.used_few, held, left, after_is tree.used made)

  pub left_has : made ≤ pages_left tree → HasPages tree.table tree.used made
  left_has left = record { inside = omega (arith, left_after left) }

  pub left_takes : (change : RootChange) → made ≤ pages_left tree → Takes (use_after tree.used made change)
  left_takes change left = record { used_few = omega (arith, left_after left) }

-- The pages of a table suffice where the pages used afterwards do not outnumber them
pub enough_left : (tree : Tree) (made : ℕ) → pages_after tree.used made ≤ min (whole_pages tree.table) page_limit → made ≤ pages_left tree
enough_left tree made h = omega (arith, h, after_is tree.used made)

-- What a use says of pages, the root entries left out
abbrev pub pages_only : TreeUse → TreeUse
pages_only used = record { pages = used.pages; roots = 0 }

module _ (used : TreeUse) where
  pub in_pages : (x : ℕ) → in_use (pages_only used) x ≡ in_use used x
  unfolding in_use
  in_pages x = refl

  pub taken_pages : (i : ℕ) → taken_page (pages_only used) i ≡ taken_page used i
  unfolding taken_page
  taken_pages i = refl

  pub pages_after_lem : (made : ℕ) (change : RootChange) → pages_only (use_after used made change) ≡ use_after (pages_only used) made Kept
  unfolding pages_after
  pages_after_lem made change = refl

-- Opening uses page 0 alone
pub opened_in : InUse opened_use 0
unfolding in_use
opened_in = refl

pub in_opened : (x : ℕ) → InUse opened_use x → x ≡ 0
in_opened x h = omega (arith, below opened_use x h)

pub opened_takes : Takes opened_use
opened_takes = record { used_few = omega arith }
