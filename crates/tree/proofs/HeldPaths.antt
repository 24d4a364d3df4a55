-- The path of a lookup, where the root for the tick holds a tree: the tree alone tells it, and each page on it is in use.
use Prim.Native.Nat.{ℕ, ◌<◌, zero, suc, ◌≤◌}
use native.Mathlib.Omega.{arith}
use mathlib.Core.Path.{◌≡◌, sym, ap, ◌∙◌}
use mathlib.Core.Bool.{Bool, true, false, cond, ◌&&◌}
use mathlib.Core.List.{List, [], ◌∷◌}
use lib.Dec.{leb, ltb}
use Rattle.std.specs.Prelude.{Some}
use Rattle.words.specs.Words.{key_limit, open_end}
use Rattle.words.specs.declared.value.Value.{Value}
use Rattle.words.specs.Lists.{All}
use Rattle.words.proofs.Measure.{Measure}
use Rattle.tree.specs.Tree as ours
use Rattle.tree.specs.Tree.{level_of, root_at}
use Rattle.tree.specs.Path.{path_from, path_of_root, path}
use Rattle.tree.specs.Taking.{InUse}
use Rattle.tree.proofs.ModelTrees.{Tree, Holds, Slot, Chain}
use Rattle.tree.proofs.View.{view_table}
use Rattle.tree.proofs.TreeViews.{page_of, WordsKept}
use Rattle.tree.proofs.Reading.{reads, tree_path, slots_path}
use Rattle.tree.proofs.ModelPages.{Page}

pub found_root : (tree : ours.Tree) {last : ℕ} → WordsKept tree last → (t : ℕ) → root_at tree t ≡ Some (page_of (root_at tree t))
found_root tree kept t = let r = kept.roots.found t in r.1 ∙ ap Some (sym (ap page_of r.1))

pub held_path : (measure : Value → ℕ) → Measure measure → (tree : ours.Tree) {last : ℕ} → WordsKept tree last → (t k : ℕ) → t < open_end
    → k < key_limit → (n page : ℕ) (tr : Tree n) → page_of (root_at tree t) ≡ page → level_of tree.table page ≡ n
    → Holds n (view_table measure tree.table) (InUse tree.used) t 0 key_limit page tr → path tree t k ≡ tree_path n k page tr
unfolding path
held_path measure m tree kept t k tick key n page tr is_page is_level held =
    ap (path_of_root tree.table t k) (found_root tree kept t)
    ∙ ap (λ (x : ℕ). path_from tree.table t k (level_of tree.table x) x) is_page
    ∙ ap (λ (level : ℕ). path_from tree.table t k level page) is_level
    ∙ (reads measure m tree kept.small t k tick n 0 key_limit page tr (omega arith) key held).path

-- Each page on the path holds a part of the tree: it is in use, and was born by the tick
slots_all : {A : Type 0} (Q : ℕ → Type 0) (P : ℕ → ℕ → ℕ → A → Type 0) (k : ℕ) (next : ℕ → A → List ℕ)
    → ((a b c : ℕ) (x : A) → P a b c x → All Q (next c x)) → (lo hi : ℕ) (tr : List (Slot A)) → Chain P lo hi tr → All Q (slots_path k next tr)
slots_all Q P k next each lo hi [] c = tt
slots_all Q P k next each lo hi (y ∷ ys) c =
    go (leb y.entry.low k && ltb k y.entry.high) (slots_all Q P k next each y.entry.high hi ys c.rest)
  where
    go : (b : Bool) → All Q (slots_path k next ys) → All Q (cond b (next y.entry.page y.below) (slots_path k next ys))
    go true rest = each lo y.entry.high y.entry.page y.below c.under
    go false rest = rest

pub path_in_use : (n : ℕ) (s : ℕ → Page) (In : ℕ → Type 0) (t k lo hi p : ℕ) (tr : Tree n) → Holds n s In t lo hi p tr
    → All (λ (x : ℕ). In x × ((s x).birth ≤ t)) (tree_path n k p tr)
path_in_use zero s In t k lo hi p tr h = ((h.is_in_use, h.born), tt)
path_in_use (suc n) s In t k lo hi p tr h = (
  (h.is_in_use, h.born),
  slots_all (λ (x : ℕ). In x × ((s x).birth ≤ t)) (Holds n s In t) k (tree_path n k) (λ a b c x. path_in_use n s In t k a b c x) lo hi tr h.chain,
)
