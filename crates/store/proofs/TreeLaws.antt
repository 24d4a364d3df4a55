-- The trees of a store by name: what holds of each, and of one by its name.
use Prim.Native.Nat.{ℕ}
use mathlib.Core.Path.{◌≡◌, refl}
use mathlib.Core.Bool.{Bool, true, false, ◌&&◌, ◌||◌, and-eq-true_iff}
use mathlib.Core.List.{List}
use Rattle.tree.specs.Opened.{opened_tree}
use Rattle.store.specs.declared.types.TreeName.{TreeName}
use Rattle.store.specs.declared.types.TreeName.TheVariants.{Starts, Ends, Time}
use Rattle.store.specs.Trees.{each_tree, some_tree, Lent, lent_to, lent_of, tree_in}
use Rattle.store.specs.Writing.{opened_store}
use Rattle.store.proofs.RefusalLaws.{or_false}

module _ (f : TreeName → Bool) where
  pub each_tree_lem : ((name : TreeName) → f name ≡ true) → each_tree f ≡ true
  each_tree_lem h = rw (h Starts, h Ends, h Time) refl

  pub of_each : each_tree f ≡ true → (name : TreeName) → f name ≡ true
  of_each e Starts = ((and-eq-true_iff (f Starts) (f Ends && f Time)).0 e).0
  of_each e Ends = ((and-eq-true_iff (f Ends) (f Time)).0 ((and-eq-true_iff (f Starts) (f Ends && f Time)).0 e).1).0
  of_each e Time = ((and-eq-true_iff (f Ends) (f Time)).0 ((and-eq-true_iff (f Starts) (f Ends && f Time)).0 e).1).1

  pub no_tree : ((name : TreeName) → f name ≡ false) → some_tree f ≡ false
  no_tree h = rw (h Starts, h Ends, h Time) refl

  pub of_none : some_tree f ≡ false → (name : TreeName) → f name ≡ false
  of_none e Starts = (or_false (f Starts) (f Ends || f Time) e).0
  of_none e Ends = (or_false (f Ends) (f Time) (or_false (f Starts) (f Ends || f Time) e).1).0
  of_none e Time = (or_false (f Ends) (f Time) (or_false (f Starts) (f Ends || f Time) e).1).1

-- What opening leaves to a tree
pub opened_tree_lem : (m : Lent) (name : TreeName) → tree_in (opened_store m) name ≡ opened_tree (lent_to m name).table (lent_to m name).roots
opened_tree_lem m Starts = refl
opened_tree_lem m Ends = refl
opened_tree_lem m Time = refl

-- The slices, one by one
pub same_lent : {st st' sr sr' et et' er er' tt tt' tr tr' : List ℕ} → st ≡ st' → sr ≡ sr' → et ≡ et' → er ≡ er' → tt ≡ tt' → tr ≡ tr'
    → lent_of st sr et er tt tr ≡ lent_of st' sr' et' er' tt' tr'
same_lent st sr et er tt tr = λ i. lent_of (st i) (sr i) (et i) (er i) (tt i) (tr i)
