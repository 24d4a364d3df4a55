-- Opening: a store just opened agrees with an empty book.
use Prim.Native.Nat.{ℕ, ◌≤◌}
use native.Mathlib.Omega.{arith}
use mathlib.Core.Path.{◌≡◌, refl, sym, subst}
use mathlib.Core.Bool.{Bool, true, false, cond}
use mathlib.Core.List.{[]}
use lib.ListN.{length, length-replicate}
use lib.Dec.{ltb}
use borrow.Author.Tests.{ltb-false}
use Rattle.tree.specs.Row.{page_words}
use Rattle.tree.specs.Tree.{Tree}
use Rattle.tree.specs.Grown.{grow}
use Rattle.tree.specs.Opened.{opened_tree}
use Rattle.store.specs.declared.types.TreeName.{TreeName}
use Rattle.store.specs.Trees.{LentTree, Lent, lent_to, Store, tree_in}
use Rattle.store.specs.Head.{open_limit, no_pass}
use Rattle.store.specs.Calls.{opening}
use Rattle.store.specs.Refusals.{first_met}
use Rattle.store.specs.Writing.{too_small, lends_too_little, opened_store}
use Rattle.store.specs.Performing.{refusal, served}
use Rattle.store.specs.Points.{points_of}
use Rattle.store.specs.Book.{Book, empty_book}
use Rattle.store.proofs.RefusalLaws.{or_false}
use Rattle.store.proofs.TreeLaws.{of_none, opened_tree_lem}
use Rattle.store.proofs.BookPasses.{empty_kept}
use Rattle.store.proofs.OpenPasses.{open_of}
use Rattle.store.proofs.Agreement.{TreeTook, Agrees, lends_enough}
use Rattle.store.proofs.Ready.{Ready}

-- Opening is refused only for too little memory
pub takes_enough : (s : Store) → refusal s opening ≡ 0 → lends_too_little s.lent ≡ false
unfolding refusal first_met
takes_enough s e = go (lends_too_little s.lent) e
  where
    go : (small : Bool) → ◌≡◌ {A = ℕ} (cond small 8 0) 0 → small ≡ false
    go true f = absurd (omega arith)
    go false f = refl

-- Memory that opening takes
pub record Enough (t : LentTree) : Type 0 where
  pub page : page_words ≤ length t.table
  pub root : 1 ≤ length t.roots

pub enough : (t : LentTree) → too_small t ≡ false → Enough t
enough t e =
    let both = or_false (ltb (length t.table) page_words) (ltb (length t.roots) 1) e in
    record { page = ltb-false (length t.table) page_words both.0; root = ltb-false (length t.roots) 1 both.1 }

pub each_enough : (m : Lent) → lends_too_little m ≡ false → (name : TreeName) → Enough (lent_to m name)
each_enough m e name = enough (lent_to m name) (of_none (λ (n : TreeName). too_small (lent_to m n)) e name)

took_none : (t : LentTree) → Enough t → TreeTook (opened_tree t.table t.roots) 0 []
unfolding grow
took_none t h =
    record {
      table = t.table;
      roots = t.roots;
      entered = [];
      admitted = (h.page, h.root);
      is = refl;
      time = omega arith;
      same = λ f test. refl;
    }

opened_trees : (m : Lent) → lends_too_little m ≡ false → (name : TreeName) → TreeTook (tree_in (opened_store m) name) 0 (points_of name [])
unfolding points_of
opened_trees m e name = subst (λ (t : Tree). TreeTook t 0 []) (sym (opened_tree_lem m name)) (took_none (lent_to m name) (each_enough m e name))

pub opened_agrees : (m : Lent) → lends_too_little m ≡ false → Agrees (opened_store m) empty_book
unfolding open_of
opened_agrees m e =
    record {
      last = refl;
      started = refl;
      places = length-replicate open_limit no_pass;
      listed = refl;
      count = refl;
      most = omega arith;
      kept = empty_kept;
      trees = opened_trees m e;
    }

pub opening_ready : (s : Store) (b : Book) → Agrees s b → Ready s b opening
unfolding served
opening_ready s b a =
    record {
      lookups = tt;
      entries = tt;
      serves = λ rooms. record { answer = refl; next = opened_agrees s.lent (lends_enough s b a); said = refl; most = omega arith };
    }
