use borrow.Author.Tests.{eq-eqb, ne_eqb}
use mathlib.Core.Path.{◌≡◌, ◌∙◌}
use Prim.Native.Nat.{◌-◌}
use native.Mathlib.Omega.{arith}
use Rattle.words.specs.Words.{root_birth, root_entry}
use Rattle.words.proofs.OverwriteLaws.{overwrite_one}
use Rattle.tree.specs.Row.{word}
use Rattle.enter.proofs.growing.put_root.Goals as goal

pub use_after-requires : goal.use_after-requires
use_after-requires c =
    record {
      takes = c.requires.takes;
      roots_le_page_limit = c.requires.roots_few;
      made_le_most_made = c.requires.made_few;
    }

pub returns-then-root_birth-t : goal.returns-then-root_birth-t
returns-then-root_birth-t c = let a = c.args in
    let born : root_birth (word a.roots.now (a.used.roots - 1)) ≡ a.t =
    omega (arith, c.root_birth.ensures, c.if-root_birth-t.true) in
    record {
      list = rw (eq-eqb _ _ born, c.root_entry-entry.ensures) (overwrite_one a.roots.now (a.used.roots - 1) (root_entry a.t a.page) (omega (arith, c.requires.some, c.requires.inside)));
      use_is = rw (eq-eqb _ _ born) c.use_after.ensures;
    }

pub bounds-roots-count-2 : goal.bounds-roots-count-2
bounds-roots-count-2 c = let a = c.args in
    let other : root_birth (word a.roots.now (a.used.roots - 1)) ≡ a.t → ⊥ = λ e. c.if-root_birth-t.false (c.root_birth.ensures ∙ e) in
    omega (arith, c.requires.place other)

pub use_after-requires-2 : goal.use_after-requires-2
use_after-requires-2 c =
    record {
      takes = c.requires.takes;
      roots_le_page_limit = c.requires.roots_few;
      made_le_most_made = c.requires.made_few;
    }

pub returns : goal.returns
returns c = let a = c.args in
    let other : root_birth (word a.roots.now (a.used.roots - 1)) ≡ a.t → ⊥ = λ e. c.if-root_birth-t.false (c.root_birth.ensures ∙ e) in
    record {
      list = rw (ne_eqb _ _ other, c.root_entry-entry.ensures) (overwrite_one a.roots.now a.used.roots (root_entry a.t a.page) (c.requires.place other));
      use_is = rw (ne_eqb _ _ other) c.use_after-2.ensures;
    }
