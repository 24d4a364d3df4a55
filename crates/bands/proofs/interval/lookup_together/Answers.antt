use Prim.Native.Nat.{◌-◌}
use native.Mathlib.Omega.{arith}
use mathlib.Core.Path.{◌≡◌, ◌∙◌}
use borrow.Author.Tests.{ne_eqb}
use Rattle.tree.specs.Tree.{Tree}
use Rattle.tree.specs.Taking.{tree_with}
use Rattle.bands.proofs.BandLaws.{looked_up, band_between, few_pages}
use Rattle.bands.proofs.interval.lookup_together.Goals as goal

pub band_between-requires : goal.band_between-requires
band_between-requires c =
    let a = c.args in
    let tree : Tree = tree_with a.tree a.roots.now in
    record {
      upper_bound = few_pages tree (a.t2 - 1) (a.band.k2 - 1) (looked_up tree (a.t2 - 1) (a.band.k2 - 1) c.find_root-later.ensures c.lookup_ticks_at-found.ensures.upper_value);
      lower_bound = few_pages tree (a.t2 - 1) (a.band.k1 - 1) (looked_up tree (a.t2 - 1) (a.band.k1 - 1) c.find_root-later.ensures c.lookup_ticks_at-found.ensures.lower_value);
    }

pub band_between-requires-2 : goal.band_between-requires-2
band_between-requires-2 c =
    let a = c.args in
    let tree : Tree = tree_with a.tree a.roots.now in
    record {
      upper_bound = few_pages tree (a.t1 - 1) (a.band.k2 - 1) (looked_up tree (a.t1 - 1) (a.band.k2 - 1) c.find_root-earlier.ensures c.lookup_ticks_at-found.ensures.upper_value_2);
      lower_bound = few_pages tree (a.t1 - 1) (a.band.k1 - 1) (looked_up tree (a.t1 - 1) (a.band.k1 - 1) c.find_root-earlier.ensures c.lookup_ticks_at-found.ensures.lower_value_2);
    }

pub returns : goal.returns
returns c =
    let a = c.args in
    let tree : Tree = tree_with a.tree a.roots.now in
    let some_key : a.band.k1 ≡ 0 → ⊥ = λ e. omega (arith, e, c.requires.k1_nonzero) in
    let some_tick : a.t1 ≡ 0 → ⊥ = λ e. omega (arith, e, c.requires.t1_nonzero) in
    record {
      until_value = c.band_between.ensures
          ∙ band_between tree (a.t2 - 1) a.band.k1 a.band.k2 some_key (looked_up tree (a.t2 - 1) (a.band.k2 - 1) c.find_root-later.ensures c.lookup_ticks_at-found.ensures.upper_value) (looked_up tree (a.t2 - 1) (a.band.k1 - 1) c.find_root-later.ensures c.lookup_ticks_at-found.ensures.lower_value);
      before_value = rw (ne_eqb a.t1 0 some_tick)
          (c.band_between-2.ensures
          ∙ band_between tree (a.t1 - 1) a.band.k1 a.band.k2 some_key (looked_up tree (a.t1 - 1) (a.band.k2 - 1) c.find_root-earlier.ensures c.lookup_ticks_at-found.ensures.upper_value_2) (looked_up tree (a.t1 - 1) (a.band.k1 - 1) c.find_root-earlier.ensures c.lookup_ticks_at-found.ensures.lower_value_2));
    }
