-- The test of a head by its parts: the open count and the number started, each tree's use, and then the open passes.
use mathlib.Core.Path.{◌≡◌, refl, sym, ◌∙◌}
use mathlib.Core.Bool.{Bool, true, false, ◌&&◌, and-true, and-eq-true_iff, false≢true}
use lib.Dec.{leb}
use Rattle.store.specs.declared.types.TreeName.{TreeName}
use Rattle.store.specs.declared.types.TreeName.TheVariants.{Starts, Ends, Time}
use Rattle.store.specs.Trees.{Store, tree_in, each_tree}
use Rattle.store.specs.Head.{open_limit, pass_limit, open_passes, passes_fit, numbers_rise, use_fits, head_fits}
use Rattle.store.proofs.TreeLaws.{of_each}

-- All parts hold but two that are in question
two_left : {few started starts ends time : Bool} (passes rise : Bool) → few ≡ true → started ≡ true → starts ≡ true → ends ≡ true → time ≡ true
    → (few && (passes && (rise && (started && (starts && (ends && time)))))) ≡ (passes && rise)
two_left passes rise a b c d e = rw (a, b, c, d, e, and-true rise) refl

-- The last part of five
last_of : (few passes rise started trees : Bool) → (few && (passes && (rise && (started && trees)))) ≡ true → trees ≡ true
last_of few passes rise started trees e =
    let a = ((and-eq-true_iff few (passes && (rise && (started && trees)))).0 e).1 in
    let b = ((and-eq-true_iff passes (rise && (started && trees))).0 a).1 in
    let d = ((and-eq-true_iff rise (started && trees)).0 b).1 in
    ((and-eq-true_iff started trees).0 d).1

module _ (s : Store) where
  abbrev tree_fits : TreeName → Bool
  tree_fits name = use_fits (tree_in s name)

  trees_fit : head_fits s ≡ true → each_tree tree_fits ≡ true
  unfolding head_fits
  trees_fit e =
      last_of (leb s.head.count open_limit) (passes_fit s.head.started s.head.last (open_passes s.head)) (numbers_rise (open_passes s.head))
      (leb s.head.started pass_limit) (each_tree tree_fits) e

  -- A tree whose use does not fit decides
  pub tree_unfit : (name : TreeName) → tree_fits name ≡ false → false ≡ head_fits s
  tree_unfit name e = go (head_fits s) refl
    where
      go : (b : Bool) → head_fits s ≡ b → false ≡ b
      go true f = absurd (false≢true (sym e ∙ of_each tree_fits (trees_fit f) name))
      go false f = refl

  -- Where all fit and the numbers are in range, the open passes decide
  pub passes_decide : leb s.head.count open_limit ≡ true → leb s.head.started pass_limit ≡ true
      → tree_fits Starts ≡ true → tree_fits Ends ≡ true → tree_fits Time ≡ true
      → head_fits s ≡ (passes_fit s.head.started s.head.last (open_passes s.head) && numbers_rise (open_passes s.head))
  unfolding head_fits
  passes_decide few started starts ends time =
      two_left (passes_fit s.head.started s.head.last (open_passes s.head)) (numbers_rise (open_passes s.head)) few started starts ends time
