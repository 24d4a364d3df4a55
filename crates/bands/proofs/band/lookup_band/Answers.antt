use Prim.Native.Nat.{◌-◌}
use mathlib.Core.Path.{◌∙◌}
use borrow.Author.Tests.{eq-eqb}
use Rattle.tree.specs.Tree.{Tree}
use Rattle.tree.specs.Taking.{tree_with}
use Rattle.bands.proofs.BandLaws.{looked_up, band_between, few_pages}
use Rattle.bands.proofs.band.lookup_band.Goals as goal

pub returns-then-band-eq0 : goal.returns-then-band-eq0
returns-then-band-eq0 c =
    let a = c.args in
    let tree : Tree = tree_with a.tree a.roots.now in
    rw (eq-eqb a.band.k1 0 c.if-band-eq0.true) (looked_up tree a.t (a.band.k2 - 1) c.find_root-root.ensures c.lookup_at.ensures)

pub without-requires : goal.without-requires
without-requires c =
    let a = c.args in
    let tree : Tree = tree_with a.tree a.roots.now in
    record {
      all_bound = few_pages tree a.t (a.band.k2 - 1) (looked_up tree a.t (a.band.k2 - 1) c.find_root-root.ensures c.lookup_two_at-two.ensures.upper_value);
      part_bound = few_pages tree a.t (a.band.k1 - 1) (looked_up tree a.t (a.band.k1 - 1) c.find_root-root.ensures c.lookup_two_at-two.ensures.lower_value);
    }

pub returns : goal.returns
returns c =
    let a = c.args in
    let tree : Tree = tree_with a.tree a.roots.now in
    c.without.ensures
    ∙ band_between tree a.t a.band.k1 a.band.k2 c.if-band-eq0.false (looked_up tree a.t (a.band.k2 - 1) c.find_root-root.ensures c.lookup_two_at-two.ensures.upper_value) (looked_up tree a.t (a.band.k1 - 1) c.find_root-root.ensures c.lookup_two_at-two.ensures.lower_value)
