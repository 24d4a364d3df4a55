-- What a head that fits says: what lookups, plans and entries ask of the use of each tree, and the bounds of the head's own numbers.
use Prim.Native.Nat.{ℕ, ◌*◌, ◌≤◌}
use native.Mathlib.Omega.{arith}
use mathlib.Core.Path.{◌≡◌, refl}
use mathlib.Core.Bool.{Bool, true, false, cond, not, and-eq-true_iff}
use lib.ListN.{length}
use lib.Dec.{leb}
use borrow.Author.Tests.{leb-true}
use Rattle.tree.specs.Row.{page_words}
use Rattle.tree.specs.Tree.{Tree}
use Rattle.tree.proofs.Main.{UseFits}
use Rattle.store.specs.declared.types.TreeName.{TreeName}
use Rattle.store.specs.Trees.{Store, tree_in}
use Rattle.store.specs.Head.{open_limit, pass_limit, open_passes, passes_fit, numbers_rise, use_fits, head_fits}
use Rattle.store.specs.Refusals.{first_met}
use Rattle.store.proofs.TreeLaws.{of_each}
use Rattle.refusals.specs.Grounds.{head_grounds}

use_facts : (tree : Tree) → use_fits tree ≡ true → UseFits tree
use_facts tree e =
    let facts = simp and-eq-true_iff at e in
    record {
      some_pages = leb-true _ _ facts.0;
      some_roots = leb-true _ _ facts.1.0;
      pages_limit = leb-true _ _ facts.1.1.0;
      pages_held = leb-true _ _ facts.1.1.1.0;
      roots_pages = leb-true _ _ facts.1.1.1.1.0;
      roots_listed = leb-true _ _ facts.1.1.1.1.1;
    }

-- The table has the words of the pages in use
pub use_words : {tree : Tree} → UseFits tree → tree.used.pages * page_words ≤ length tree.table
use_words u = omega (arith, u.pages_held)

pub record HeadFacts (s : Store) : Type 0 where
  pub count : s.head.count ≤ open_limit
  pub passes : passes_fit s.head.started s.head.last (open_passes s.head) ≡ true
  pub started : s.head.started ≤ pass_limit
  pub trees : (name : TreeName) → UseFits (tree_in s name)

module _ (s : Store) where
  head_facts : head_fits s ≡ true → HeadFacts s
  unfolding head_fits
  head_facts e =
      let a = (and-eq-true_iff (leb s.head.count open_limit) _).0 e in
      let b = (and-eq-true_iff (passes_fit s.head.started s.head.last (open_passes s.head)) _).0 a.1 in
      let c = (and-eq-true_iff (numbers_rise (open_passes s.head)) _).0 b.1 in
      let d = (and-eq-true_iff (leb s.head.started pass_limit) _).0 c.1 in
      record { count = leb-true _ _ a.0; passes = b.0; started = leb-true _ _ d.0; trees = λ name. use_facts (tree_in s name) (of_each (λ (n : TreeName). use_fits (tree_in s n)) d.1 name) }

  -- No ground for 20 is met
  pub fits_head : first_met (head_grounds s) ≡ 0 → HeadFacts s
  unfolding first_met
  fits_head e = go (head_fits s) refl e
    where
      go : (b : Bool) → head_fits s ≡ b → ◌≡◌ {A = ℕ} (cond (not b) 20 0) 0 → HeadFacts s
      go true is f = head_facts is
      go false is f = absurd (omega arith)
