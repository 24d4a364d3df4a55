-- The root list: the root for a tick after an entry was added or the last one replaced, and what holds of the list of a grown tree.
use Prim.Native.Nat.{ℕ, suc, ◌+◌, ◌-◌, ◌≤◌, ◌<◌}
use native.Mathlib.Omega.{arith}
use mathlib.Core.Path.{◌≡◌, refl, sym, ap, ap₂, ◌∙◌}
use mathlib.Core.Bool.{Bool, true, false, cond}
use mathlib.Core.List.{List, [], ◌∷◌, ◌++◌}
use lib.Dec.{leb, eqb}
use lib.ListN.{length, take, drop, get_or, length-append}
use lib.Seq.{take_at, take-suc, length-take-le}
use borrow.Author.Tests.{eqb-true, le-leb}
use Rattle.std.specs.Prelude.{Option, Some, None}
use Rattle.words.specs.Words.{root_birth, root_page, root_entry}
use Rattle.words.specs.Overwrite.{overwrite}
use Rattle.words.proofs.OverwriteLaws.{overwrite_length, word_inside}
use Rattle.tree.specs.Row.{word}
use Rattle.tree.specs.declared.types.RootChange.TheVariants.{Added, Replaced}
use Rattle.tree.specs.Use.{pages_after, use_after}
use Rattle.tree.specs.Tree.{Tree, in_higher_place, root_for, root_at, last_root}
use Rattle.tree.specs.Enter.{Entered, with_root}
use Rattle.tree.proofs.UseLaws.{after_least, place_found_lem}

-- The entry in the highest place comes first
pub root_behind : (w e : ℕ) (ws : List ℕ)
    → root_for w (ws ++ (e ∷ [])) ≡ cond (leb (root_birth e) w) (Some (root_page e)) (root_for w ws)
unfolding root_for
root_behind w e [] = refl
root_behind w e (v ∷ vs) =
    ap (λ (r : Option ℕ). in_higher_place r (cond (leb (root_birth v) w) (Some (root_page v)) None)) (root_behind w e vs) ∙ go (leb (root_birth e) w)
  where
    go : (b : Bool)
        → in_higher_place (cond b (Some (root_page e)) (root_for w vs)) (cond (leb (root_birth v) w) (Some (root_page v)) None)
        ≡ cond b (Some (root_page e)) (in_higher_place (root_for w vs) (cond (leb (root_birth v) w) (Some (root_page v)) None))
    go true = refl
    go false = refl

-- The entries in use, after one was written behind the first `at`
pub take_written : (roots : List ℕ) (at e : ℕ) → at < length roots → take (at + 1) (overwrite roots at (e ∷ [])) ≡ take at roots ++ (e ∷ [])
unfolding overwrite
take_written roots at e h =
    take_at (take at roots ++ (e ∷ [])) (drop (at + 1) roots) (at + 1)
    (length-append (take at roots) (e ∷ []) ∙ ap (λ (n : ℕ). n + 1) (length-take-le at roots (omega arith)))

take_last : (roots : List ℕ) (n : ℕ) → 1 ≤ n → n ≤ length roots → take n roots ≡ take (n - 1) roots ++ (get_or roots (n - 1) 0 ∷ [])
take_last roots n h l =
    let e : n ≡ suc (n - 1) = omega arith in
    ap (λ (i : ℕ). take i roots) e ∙ take-suc roots (n - 1) 0 (omega arith)

pub written_word : (roots : List ℕ) (at n e : ℕ) → at < length roots → n ≡ at → word (overwrite roots at (e ∷ [])) n ≡ e
written_word roots at n e h i =
    ap (λ (j : ℕ). word (overwrite roots at (e ∷ [])) j) (omega arith) ∙ word_inside roots at (e ∷ []) (omega arith) 0 (omega arith)

-- The root list of a grown tree whose last tick is `last`
pub record RootsKept (tree : Tree) (last : ℕ) : Type 0 where
  pub some : 1 ≤ tree.used.roots
  pub listed : tree.used.roots ≤ length tree.roots
  pub fewer : tree.used.roots ≤ tree.used.pages
  pub born : root_birth (last_root tree) ≤ last
  pub found : (w : ℕ) → (page : ℕ) × (root_at tree w ≡ Some page)

-- From the birth of the last root on it is the root
pub root_now : (tree : Tree) (last w : ℕ) → RootsKept tree last → last ≤ w → root_at tree w ≡ Some (root_page (last_root tree))
root_now tree last w kept l =
    let early : root_birth (last_root tree) ≤ w = omega (arith, kept.born) in
    ap (root_for w) (take_last tree.roots tree.used.roots kept.some kept.listed)
    ∙ root_behind w (last_root tree) (take (tree.used.roots - 1) tree.roots)
    ∙ ap (λ (b : Bool). cond b (Some (root_page (last_root tree))) (root_for w (take (tree.used.roots - 1) tree.roots))) (le-leb _ _ early)

-- The two changes of step 8
abbrev pub root_replaced : Tree → ℕ → ℕ → List ℕ → ℕ → Entered
root_replaced tree t page table made =
    record {
      tree =
          record {
            table = table;
            roots = overwrite tree.roots (tree.used.roots - 1) (root_entry t page ∷ []);
            used = use_after tree.used made Replaced;
          };
      made = made;
      root = Replaced;
    }

abbrev pub root_added : Tree → ℕ → ℕ → List ℕ → ℕ → Entered
root_added tree t page table made =
    record {
      tree =
          record {
            table = table;
            roots = overwrite tree.roots tree.used.roots (root_entry t page ∷ []);
            used = use_after tree.used made Added;
          };
      made = made;
      root = Added;
    }

-- Either change makes the same pages
either_made : (b : Bool) (x y : Entered) (n : ℕ) → x.made ≡ n → y.made ≡ n → (cond b x y).made ≡ n
either_made true x y n e f = e
either_made false x y n e f = f

pub root_made : (tree : Tree) (t page : ℕ) (table : List ℕ) (made : ℕ) → (with_root tree t page table made).made ≡ made
root_made tree t page table made =
    either_made (eqb (root_birth (last_root tree)) t) (root_replaced tree t page table made) (root_added tree t page table made) made refl
    refl

-- A tree that has a new root from tick t on
pub record Rooted (tree : Tree) (t page : ℕ) (words : List ℕ) (new : ℕ) (so : Entered) : Type 0 where
  pub root : (w : ℕ) → root_at so.tree w ≡ cond (leb t w) (Some page) (root_at tree w)
  pub table : so.tree.table ≡ words
  pub pages : so.tree.used.pages ≡ pages_after tree.used new
  pub made : so.made ≡ new
  pub list : length so.tree.roots ≡ length tree.roots
  pub kept : RootsKept so.tree t

module _ (tree : Tree) (last t page : ℕ) (table : List ℕ) (made : ℕ) (kept : RootsKept tree last) (time : last ≤ t)
    (now : t < 4294967296) (some : 1 ≤ made) where
  is_birth : root_birth (root_entry t page) ≡ t
  is_birth = omega arith

  is_page : root_page (root_entry t page) ≡ page
  is_page = omega arith

  new_root_lem : (w : ℕ) (ws : List ℕ) → root_for w (ws ++ (root_entry t page ∷ [])) ≡ cond (leb t w) (Some page) (root_for w ws)
  new_root_lem w ws = root_behind w (root_entry t page) ws ∙ ap₂ (λ (b p : ℕ). cond (leb b w) (Some p) (root_for w ws)) is_birth is_page

  found_new : (new : Tree) → ((w : ℕ) → root_at new w ≡ cond (leb t w) (Some page) (root_at tree w)) → (w : ℕ) → (q : ℕ) × (root_at new w ≡ Some q)
  found_new new h w = go (leb t w) (h w)
    where
      go : (b : Bool) → root_at new w ≡ cond b (Some page) (root_at tree w) → (q : ℕ) × (root_at new w ≡ Some q)
      go true e = (page, e)
      go false e = let f = kept.found w in (f.0, e ∙ f.1)

  pub root_changed : ((with_root tree t page table made).root ≡ Added → tree.used.roots < length tree.roots)
      → Rooted tree t page table made (with_root tree t page table made)
  root_changed place = go (eqb (root_birth (last_root tree)) t) refl place
    where
      replaced : Entered
      replaced = root_replaced tree t page table made

      added : Entered
      added = root_added tree t page table made

      replaced_root : root_birth (last_root tree) ≡ t → (w : ℕ) → root_at replaced.tree w ≡ cond (leb t w) (Some page) (root_at tree w)
      replaced_root e w =
          let n = tree.used.roots in
          let one : n ≡ n - 1 + 1 = omega (arith, kept.some) in
          ap (λ (i : ℕ). root_for w (take i (overwrite tree.roots (n - 1) (root_entry t page ∷ [])))) one
          ∙ ap (root_for w) (take_written tree.roots (n - 1) (root_entry t page) (omega (arith, kept.some, kept.listed)))
          ∙ new_root_lem w (take (n - 1) tree.roots)
          ∙ step (leb t w) refl
        where
          old : root_at tree w ≡ cond (leb t w) (Some (root_page (last_root tree))) (root_for w (take (tree.used.roots - 1) tree.roots))
          old =
              ap (root_for w) (take_last tree.roots tree.used.roots kept.some kept.listed)
              ∙ root_behind w (last_root tree) (take (tree.used.roots - 1) tree.roots)
              ∙ ap (λ (b : ℕ). cond (leb b w) (Some (root_page (last_root tree))) (root_for w (take (tree.used.roots - 1) tree.roots))) e

          step : (b : Bool) → leb t w ≡ b
              → cond b (Some page) (root_for w (take (tree.used.roots - 1) tree.roots)) ≡ cond b (Some page) (root_at tree w)
          step true f = refl
          step false f =
              sym
              (old ∙ ap (λ (b : Bool). cond b (Some (root_page (last_root tree))) (root_for w (take (tree.used.roots - 1) tree.roots)))
              f)

      added_root : tree.used.roots < length tree.roots → (w : ℕ) → root_at added.tree w ≡ cond (leb t w) (Some page) (root_at tree w)
      added_root h w =
          ap (root_for w) (take_written tree.roots tree.used.roots (root_entry t page) h)
          ∙ new_root_lem w (take tree.used.roots tree.roots)

      go : (b : Bool) → eqb (root_birth (last_root tree)) t ≡ b
          → ((cond b replaced added).root ≡ Added → tree.used.roots < length tree.roots)
          → Rooted tree t page table made (cond b replaced added)
      go true e h =
          let inside : tree.used.roots - 1 < length tree.roots = omega (arith, kept.some, kept.listed) in
          record {
            root = replaced_root (eqb-true _ _ e);
            table = refl;
            pages = refl;
            made = refl;
            list = overwrite_length tree.roots (tree.used.roots - 1) (root_entry t page ∷ []) (omega arith);
            kept =
                record {
                  some = kept.some;
                  listed =
                      omega (
                        arith,
                        kept.listed,
                        overwrite_length tree.roots (tree.used.roots - 1) (root_entry t page ∷ [])
                            (omega arith),
                      );
                  fewer = omega (arith, kept.fewer, after_least tree.used made);
                  born =
                      omega (
                        arith,
                        ap root_birth (written_word tree.roots (tree.used.roots - 1) (tree.used.roots - 1) (root_entry t page)
                            inside refl),
                        is_birth,
                      );
                  found = found_new replaced.tree (replaced_root (eqb-true _ _ e));
                };
          }
      go false e h =
          let inside : tree.used.roots < length tree.roots = h refl in
          record {
            root = added_root inside;
            table = refl;
            pages = refl;
            made = refl;
            list = overwrite_length tree.roots tree.used.roots (root_entry t page ∷ []) (omega arith);
            kept =
                record {
                  some = omega arith;
                  listed = omega (arith, overwrite_length tree.roots tree.used.roots (root_entry t page ∷ []) (omega arith));
                  fewer = omega (arith, place_found_lem tree.used made (pages_after tree.used made) kept.fewer some (omega arith));
                  born =
                      omega (
                        arith,
                        ap root_birth (written_word tree.roots tree.used.roots (tree.used.roots + 1 - 1) (root_entry t page)
                            inside (omega arith)),
                        is_birth,
                      );
                  found = found_new added.tree (added_root inside);
                };
          }
