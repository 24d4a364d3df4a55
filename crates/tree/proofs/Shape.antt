-- The shape of a grown tree does not depend on values: points with the same ticks and keys make the same pages and paths, whatever they
-- are worth.
-- The measure that reads every value as 0 shows it.
use Prim.Native.Nat.{ℕ, ◌<◌}
use mathlib.Core.Path.{◌≡◌, refl, sym, ap, ◌∙◌, subst}
use mathlib.Core.List.{List, [], ◌∷◌}
use Rattle.words.specs.Words.{key_limit, open_end}
use Rattle.words.specs.declared.value.Value.{Value}
use Rattle.words.proofs.Measure.{Measure}
use Rattle.tree.specs.Tree.{Tree, level_of, root_at}
use Rattle.tree.specs.RowSteps.{Point}
use Rattle.tree.specs.Path.{path}
use Rattle.tree.specs.Grown.{grow, Admitted}
use Rattle.tree.specs.PointTotals.{SameShape}
use Rattle.tree.specs.Use.{in_use, taken_page, use_after}
use Rattle.tree.specs.Taking.{InUse}
use Rattle.tree.proofs.ModelTrees.{Holds}
use Rattle.tree.proofs.ModelSteps.{Grown, entering}
use Rattle.tree.proofs.GrownStates.{Version}
use Rattle.tree.proofs.View.{view_table}
use Rattle.tree.proofs.TreeViews.{page_of, roots_of, used_after}
use Rattle.tree.proofs.HeldPaths.{held_path}
use Rattle.tree.proofs.Growth.{numbers, kept, next_model, enter_is}
use Rattle.tree.proofs.UseLaws.{pages_only, in_pages, taken_pages, pages_after_lem}
use Rattle.tree.proofs.ModelPages.{Page}
use Rattle.tree.proofs.HeldTrees.{holds_frame}
use Rattle.tree.proofs.SlotLaws.{alike}
use Rattle.tree.specs.declared.types.TreeUse.{TreeUse}
use Rattle.tree.specs.declared.types.RootChange.TheVariants.{Kept}
use Rattle.tree.specs.Enter.{enter_root}

nothing : Value → ℕ
nothing v = 0

nothing_measure : Measure nothing
unfolding nothing
nothing_measure = record { of_zero = refl; of_plus = λ a b. refl }

-- What the values of points do not bear on: the pages without values, the pages used, and the root for each tick
record Shape : Type 0 where
  pub store : ℕ → Page
  pub used : TreeUse
  pub root : ℕ → ℕ

abbrev shape_of : Tree → Shape
shape_of tree = record { store = view_table nothing tree.table; used = pages_only tree.used; root = roots_of tree }

abbrev shape_from : TreeUse → Grown → Shape
shape_from used new = record { store = new.store; used = use_after used new.made Kept; root = new.root }

abbrev shape_after : ℕ → ℕ → Shape → Shape
shape_after t k sh = shape_from sh.used (entering t k 0 sh.store (taken_page sh.used) sh.root (sh.root t))

module _ (table roots : List ℕ) where
  step : (p : Point) (points : List Point) → Admitted table roots (p ∷ points)
      → shape_of (grow table roots (p ∷ points)) ≡ shape_after p.tick p.key (shape_of (grow table roots points))
  unfolding grow nothing
  step p points h =
      let k = kept table roots points h.2 in
      let tree = grow table roots points in
      let root = k.words.roots.found p.tick in
      let page = root.0 in
      let same =
      next_model nothing nothing_measure tree points p k.words ((kept table roots points h.2).tells nothing nothing_measure) h.0 page
      root.1 h.1 in
      let new = enter_root tree p page in
      ap shape_of (enter_is nothing nothing_measure tree points p k.words ((kept table roots points h.2).tells nothing nothing_measure) h.0 page root.1)
      ∙ (λ i. record { store = view_table nothing new.tree.table; used = use_is tree p page i; root = roots_of new.tree })
      ∙ ap (shape_from (pages_only tree.used)) same
      ∙ (λ i. shape_from (pages_only tree.used)
      (entering p.tick p.key 0 (view_table nothing tree.table) (λ (x : ℕ). sym (taken_pages tree.used x) i) (roots_of tree) (roots_of tree p.tick)))
    where
      use_is : (tree : Tree) (p : Point) (page : ℕ)
          → pages_only (enter_root tree p page).tree.used ≡ use_after (pages_only tree.used) (enter_root tree p page).made Kept
      use_is tree p page =
          ap pages_only (used_after tree p page) ∙ pages_after_lem tree.used (enter_root tree p page).made (enter_root tree p page).root

  same_shape : (points others : List Point) → SameShape points others → Admitted table roots points → Admitted table roots others
      → shape_of (grow table roots points) ≡ shape_of (grow table roots others)
  same_shape [] [] e h i = refl
  same_shape [] (q ∷ qs) e h i = absurd e
  same_shape (p ∷ ps) [] e h i = absurd e
  same_shape (p ∷ ps) (q ∷ qs) e h i =
      step p ps h
      ∙ (λ j. shape_after (e.0 j) (e.1 j) (same_shape ps qs e.2 h.2 i.2 j))
      ∙ sym (step q qs i)

  module _ (points others : List Point) (same : SameShape points others) (h : Admitted table roots points)
      (i : Admitted table roots others) where
    pub same_pages : (grow table roots points).used.pages ≡ (grow table roots others).used.pages
    same_pages = ap (λ (sh : Shape). sh.used.pages) (same_shape points others same h i)

    pub same_path : (t k : ℕ) → t < open_end → k < key_limit → path (grow table roots points) t k ≡ path (grow table roots others) t k
    same_path t k tick key =
        held_path nothing nothing_measure tree (kept table roots points h).words t k tick key n page
        version.tree refl refl
        version.held
        ∙ sym
        (held_path nothing nothing_measure other (kept table roots others i).words t k tick key n page
        version.tree
        (ap (λ (sh : Shape). sh.root t) (sym shape)) (ap (λ (sh : Shape). (sh.store page).level) (sym shape))
        (subst (λ (sh : Shape). Holds n sh.store (InUse other.used) t 0 key_limit page version.tree) shape
        (holds_frame n (view_table nothing tree.table) (view_table nothing tree.table) (InUse tree.used) (InUse other.used) t 0 key_limit page
        version.tree (λ x a o b c d. (in_other x a, alike t refl)) version.held)))
      where
        tree : Tree
        tree = grow table roots points

        other : Tree
        other = grow table roots others

        page : ℕ
        page = page_of (root_at (grow table roots points) t)

        n : ℕ
        n = level_of (grow table roots points).table (page_of (root_at (grow table roots points) t))

        shape : shape_of (grow table roots points) ≡ shape_of (grow table roots others)
        shape = same_shape points others same h i

        in_other : (x : ℕ) → InUse (grow table roots points).used x → InUse (grow table roots others).used x
        in_other x a =
            sym (in_pages (grow table roots others).used x)
            ∙ ap (λ (sh : Shape). in_use sh.used x) (sym shape)
            ∙ in_pages (grow table roots points).used x
            ∙ a

        version : Version (view_table nothing (grow table roots points).table) (InUse (grow table roots points).used) t
            (λ q. numbers nothing t q points) (page_of (root_at (grow table roots points) t))
        version = ((kept table roots points h).tells nothing nothing_measure).versions t tick
