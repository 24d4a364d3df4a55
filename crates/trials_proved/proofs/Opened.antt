-- P2 for any memory that opening takes: in a store just opened the head fits, and a lookup in each tree finds nothing in one page.
use Prim.Native.Nat.{ℕ, zero, suc, ◌/◌, ◌≤◌, ◌<◌, zero-le}
use native.Mathlib.Omega.{arith}
use mathlib.Core.Path.{◌≡◌, refl, sym, ap, subst, ◌∙◌}
use mathlib.Core.List.{List, ◌∷◌, ◌++◌}
use mathlib.Core.Bool.{true}
use lib.ListN.{length, length-append, drop}
use borrow.Author.Tests.{le-leb, lt-leb, lt-ltb, ne_eqb}
use Rattle.words.specs.Words.{key_limit, open_end}
use Rattle.words.specs.Value.{zero as nothing}
use Rattle.tree.specs.Row.{page_words}
use Rattle.tree.specs.Tree.{Tree}
use Rattle.tree.specs.Lookup.{found, lookup}
use Rattle.store.specs.declared.types.Answer.{Answer}
use Rattle.store.specs.declared.types.Answer.TheVariants.{Refused, Opened, Started, Ended, Totals, BatTime}
use Rattle.tree.specs.Opened.{first_page}
use Rattle.tree.specs.Use.{opened_use}
use Rattle.store.specs.declared.types.TreeName.{TreeName}
use Rattle.store.specs.Trees.{Lent, lent_to, Store, tree_in}
use Rattle.store.specs.Head.{head_fits, use_fits}
use Rattle.store.specs.Refusals.{first_met}
use Rattle.store.specs.Calls.{opening, lookup_in}
use Rattle.store.specs.Answers.{Answered, unless_refused}
use Rattle.store.specs.Writing.{opened_store}
use Rattle.store.specs.Performing.{refusal, served, perform}
use Rattle.store.proofs.TreeLaws.{each_tree_lem, opened_tree_lem}
use Rattle.trials_proved.specs.Computing.{computing}

-- The tree that opening makes, over whatever else the slices hold
abbrev first_tree : List ℕ → List ℕ → Tree
first_tree rest roots = record { table = first_page ++ rest; roots = 0 ∷ roots; used = opened_use }

nothing_found : (rest roots : List ℕ) (t k : ℕ) → t < open_end → k < key_limit → lookup (first_tree rest roots) t k ≡ found nothing 1
unfolding computing
nothing_found rest roots t k ht hk = simp (le-leb 0 t zero-le, lt-ltb t open_end ht, le-leb 0 k zero-le, lt-ltb k key_limit hk)

page_long : length first_page ≡ page_words
unfolding computing
page_long = refl

one_page : (rest : List ℕ) → 1 ≤ length (first_page ++ rest) / page_words
one_page rest = rw (length-append first_page rest, page_long) (omega arith)

use_fits_lem : (rest roots : List ℕ) → use_fits (first_tree rest roots) ≡ true
use_fits_lem rest roots = rw (le-leb 1 _ (one_page rest), le-leb 1 (suc (length roots)) (omega arith)) refl

-- Each tree that opening makes
opened_fits : (m : Lent) (name : TreeName) → use_fits (tree_in (opened_store m) name) ≡ true
unfolding computing
opened_fits m name =
    ap use_fits (opened_tree_lem m name) ∙ use_fits_lem (drop page_words (lent_to m name).table) (drop 1 (lent_to m name).roots)

opened_nothing : (m : Lent) (name : TreeName) (t k : ℕ) → t < open_end → k < key_limit → lookup (tree_in (opened_store m) name) t k ≡ found nothing 1
unfolding computing
opened_nothing m name t k ht hk =
    ap (λ (x : Tree). lookup x t k) (opened_tree_lem m name)
    ∙ nothing_found (drop page_words (lent_to m name).table) (drop 1 (lent_to m name).roots) t k ht hk

head_fits_lem : (m : Lent) → head_fits (opened_store m) ≡ true
unfolding computing
head_fits_lem m = each_tree_lem (λ (name : TreeName). use_fits (tree_in (opened_store m) name)) (opened_fits m)

-- A lookup that no refusal stops says what it found
lookup_says : (s : Store) (tree : TreeName) (t k : ℕ) → t < open_end → k < key_limit → head_fits s ≡ true → lookup (tree_in s tree) t k ≡ found nothing 1
    → (perform s (lookup_in tree t k)).answer ≡ Totals 0 0 1
unfolding refusal served first_met
lookup_says s tree t k ht hk fits e = simp (e, lt-leb key_limit k hk, ne_eqb t open_end (λ (same : t ≡ open_end). omega arith), fits)

-- No refusal is the answer `Opened`
abbrev IsOpened : Answer → Type 0
IsOpened (Refused n) = ⊥
IsOpened Opened = Unit {0}
IsOpened (Started n) = ⊥
IsOpened Ended = ⊥
IsOpened (Totals count sum pages) = ⊥
IsOpened (BatTime total pages) = ⊥

unrefused : (n : ℕ) (s : Store) (done : Answered) → (unless_refused n s done).answer ≡ Opened → unless_refused n s done ≡ done
unrefused zero s done e = refl
unrefused (suc n) s done e = absurd (subst IsOpened (sym e) tt)

opened_store_lem : (s : Store) → (perform s opening).answer ≡ Opened → (perform s opening).store ≡ opened_store s.lent
unfolding served
opened_store_lem s e = ap (λ (a : Answered). a.store) (unrefused (refusal s opening) s (served s opening) e)

pub opened_empty : (s : Store) → (perform s opening).answer ≡ Opened → (tree : TreeName) (t k : ℕ) → t < open_end → k < key_limit
    → (perform (perform s opening).store (lookup_in tree t k)).answer ≡ Totals 0 0 1
opened_empty s opened tree t k ht hk =
    ap (λ (x : Store). (perform x (lookup_in tree t k)).answer) (opened_store_lem s opened)
    ∙ lookup_says (opened_store s.lent) tree t k ht hk (head_fits_lem s.lent) (opened_nothing s.lent tree t k ht hk)
