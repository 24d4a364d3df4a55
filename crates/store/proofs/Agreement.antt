-- When a store agrees with the book: what each tree holds was grown from the latest opening by the points that the book knows, and the head
-- says what the book says. Then both meet the same grounds of a call's arguments and of what they know.
use Prim.Native.Nat.{ℕ, ◌+◌, ◌≤◌}
use native.Mathlib.Omega.{arith}
use mathlib.Core.Path.{◌≡◌, refl, ap, ap₂, sym, subst, ◌∙◌}
use mathlib.Core.Bool.{Bool, true, false, ◌&&◌, not}
use mathlib.Core.List.{List, [], ◌∷◌, ◌++◌, append_assoc}
use lib.ListN.{length}
use borrow.Author.Tests.{le-leb, le-ltb}
use Rattle.tree.specs.Row.{page_words}
use Rattle.tree.specs.Tree.{Tree}
use Rattle.tree.specs.RowSteps.{Point}
use Rattle.tree.specs.Grown.{grow, last_tick, Admitted}
use Rattle.tree.proofs.Main.{UseFits, use_fits_lem, lengths_stay}
use Rattle.store.specs.declared.types.OpenPass.{OpenPass}
use Rattle.store.specs.declared.types.TreeName.{TreeName}
use Rattle.store.specs.Trees.{lent_to, Store, tree_in}
use Rattle.store.specs.Head.{open_passes, pass_of, find_pass, open_limit, pass_limit, use_fits, passes_fit, numbers_rise, head_fits}
use Rattle.store.specs.Calls.{Call, opening, start, end, question, bat_time, lookup_in, is_opening}
use Rattle.store.specs.Refusals.{first_met}
use Rattle.store.specs.Grounds.{Known, sought_by, argument_grounds, state_grounds}
use Rattle.store.specs.Writing.{too_small, lends_too_little}
use Rattle.store.specs.Performing.{is_found, head_knows, opens_over_too_little, head_unfit, page_grounds, refusal}
use Rattle.store.specs.Passes.{sum_where}
use Rattle.store.specs.Points.{points_of}
use Rattle.store.specs.Book.{Book, is_open, pass_numbered, book_knows}
use Rattle.store.proofs.TreeLaws.{each_tree_lem, no_tree}
use Rattle.store.proofs.RefusalLaws.{first_skips}
use Rattle.store.proofs.BookPasses.{BookKept}
use Rattle.store.proofs.OpenPasses.{open_of, open_count_lem, find_ended, find_open, open_fit, open_rise}

-- A tree that took these points, in whatever order the book lists them: all sums over them are the same
pub record TreeTook (tree : Tree) (last : ℕ) (points : List Point) : Type 0 where
  pub table : List ℕ
  pub roots : List ℕ
  pub entered : List Point
  pub admitted : Admitted table roots entered
  pub is : tree ≡ grow table roots entered
  pub time : last_tick entered ≤ last
  pub same : (f : Point → ℕ) (test : Point → Bool) → sum_where f test entered ≡ sum_where f test points

pub record Agrees (s : Store) (b : Book) : Type 0 where
  pub last : s.head.last ≡ b.last
  pub started : s.head.started ≡ length b.passes
  pub places : length s.head.passes ≡ open_limit
  pub listed : open_passes s.head ≡ open_of 0 b.passes
  pub count : s.head.count ≡ length (open_of 0 b.passes)
  pub most : s.head.count ≤ open_limit
  pub kept : BookKept b
  pub trees : (name : TreeName) → TreeTook (tree_in s name) b.last (points_of name b.passes)

-- 20 never: the use of each tree fits what is lent with it
grown_fits : (tree : Tree) → UseFits tree → use_fits tree ≡ true
grown_fits tree u =
    rw (
      le-leb 1 tree.used.pages u.some_pages,
      le-leb 1 tree.used.roots u.some_roots,
      le-leb tree.used.pages _ u.pages_limit,
      le-leb tree.used.pages _ u.pages_held,
      le-leb tree.used.roots tree.used.pages u.roots_pages,
      le-leb tree.used.roots (length tree.roots) u.roots_listed,
    ) refl

took_fits : {tree : Tree} {last : ℕ} {points : List Point} → TreeTook tree last points → use_fits tree ≡ true
took_fits {tree} t = grown_fits tree (subst UseFits (sym t.is) (use_fits_lem t.table t.roots t.entered t.admitted))

pub head_fits_lem : (s : Store) (b : Book) → Agrees s b → head_fits s ≡ true
unfolding head_fits
head_fits_lem s b a =
    let fit : passes_fit s.head.started s.head.last (open_passes s.head) ≡ true =
    ap (passes_fit s.head.started s.head.last) a.listed
    ∙ ap (λ (n : ℕ). passes_fit s.head.started n (open_of 0 b.passes)) a.last
    ∙ open_fit s.head.started b.last 0 b.passes (omega (arith, a.started)) a.kept.passes in
    let rise : numbers_rise (open_passes s.head) ≡ true = ap numbers_rise a.listed ∙ open_rise 0 b.passes in
    rw (
      le-leb s.head.count open_limit a.most,
      fit,
      rise,
      le-leb s.head.started pass_limit (omega (arith, a.started, a.kept.few)),
    ) (each_tree_lem (λ (name : TreeName). use_fits (tree_in s name)) (λ name. took_fits (a.trees name)))

-- 8 never: opening anew takes what it took before
base_fits : (table roots : List ℕ) (points : List Point) → Admitted table roots points → (page_words ≤ length table) × (1 ≤ length roots)
base_fits table roots [] h = h
base_fits table roots (p ∷ points) h = base_fits table roots points h.2

took_large : {tree : Tree} {last : ℕ} {points : List Point} → TreeTook tree last points
    → too_small (record { table = tree.table; roots = tree.roots }) ≡ false
took_large {tree} t =
    let lengths = lengths_stay t.table t.roots t.entered t.admitted in
    let base = base_fits t.table t.roots t.entered t.admitted in
    let long : page_words ≤ length tree.table = omega (arith, base.0, lengths.0, ap (λ (x : Tree). length x.table) t.is) in
    let some : 1 ≤ length tree.roots = omega (arith, base.1, lengths.1, ap (λ (x : Tree). length x.roots) t.is) in
    rw (le-ltb (length tree.table) page_words long, le-ltb (length tree.roots) 1 some) refl

pub lends_enough : (s : Store) (b : Book) → Agrees s b → lends_too_little s.lent ≡ false
lends_enough s b a = no_tree (λ (name : TreeName). too_small (lent_to s.lent name)) (λ name. took_large (a.trees name))

-- An end finds the pass of a number open in the head exactly if it is open in the book
same_pass : (s : Store) (b : Book) → Agrees s b → (number : ℕ)
    → is_found (pass_of s.head number) ≡ is_open (pass_numbered b number)
same_pass s b a number = go (is_open (pass_numbered b number)) refl
  where
    listed : pass_of s.head number ≡ find_pass (0 + number) 0 (open_of 0 b.passes)
    listed = ap₂ (λ (n : ℕ) (os : List OpenPass). find_pass n 0 os) (omega arith) a.listed

    go : (c : Bool) → is_open (pass_numbered b number) ≡ c → is_found (pass_of s.head number) ≡ c
    go true is = ap is_found (listed ∙ (find_open number 0 0 0 b.passes is).found)
    go false is = ap is_found (listed ∙ find_ended number 0 0 b.passes is)

sought_same : (c : Call) (find other : ℕ → Bool) → ((number : ℕ) → find number ≡ other number) → sought_by c find ≡ sought_by c other
sought_same opening find other h = refl
sought_same (start tick key weight) find other h = refl
sought_same (end tick number) find other h = h number
sought_same (question k1 k2 t1 t2) find other h = refl
sought_same (bat_time k1 k2 t1 t2) find other h = refl
sought_same (lookup_in tree t k) find other h = refl

pub same_known : (s : Store) (b : Book) → Agrees s b → (c : Call) → head_knows s.head c ≡ book_knows b c
same_known s b a c =
    let last = a.last in
    let count = a.count ∙ open_count_lem 0 b.passes in
    let started = a.started in
    let found = sought_same c _ _ (same_pass s b a) in
    λ i. record { last = last i; count = count i; started = started i; found = found i }

-- The store refuses for the book's grounds, else for what the pages say
pub same_grounds : (s : Store) (b : Book) → Agrees s b → (c : Call)
    → refusal s c ≡ first_met ((argument_grounds c ++ state_grounds (book_knows b c) c) ++ page_grounds s c)
unfolding refusal
same_grounds s b a c =
    first_skips (argument_grounds c) _ (opens_over_too_little s c) (ap (◌&&◌ (is_opening c)) (lends_enough s b a) ∙ none (is_opening c))
    ∙ first_skips (argument_grounds c) _ (head_unfit s c)
    (ap (λ (fits : Bool). not (is_opening c) && not fits) (head_fits_lem s b a) ∙ none (not (is_opening c)))
    ∙ ap (λ (known : Known). first_met (argument_grounds c ++ (state_grounds known c ++ page_grounds s c))) (same_known s b a c)
    ∙ ap first_met (sym (append_assoc (argument_grounds c) (state_grounds (book_knows b c) c) (page_grounds s c)))
  where
    none : (b : Bool) → b && false ≡ false
    none true = refl
    none false = refl
