use Prim.Native.Nat.{◌-◌}
use native.Mathlib.Omega.{arith}
use mathlib.Core.Path.{refl, ap, ap₂, ◌∙◌}
use Rattle.std.specs.Prelude.{Result}
use Rattle.tree.specs.declared.types.Lookup.{Lookup}
use Rattle.tree.specs.declared.types.SpoiledPage.{SpoiledPage}
use Rattle.tree.specs.Tree.{Tree}
use Rattle.store.specs.declared.types.TreeName.TheVariants.{Starts, Ends, Time}
use Rattle.store.specs.Trees.{tree_in}
use Rattle.store.specs.Lending.{store_seen}
use Rattle.store.proofs.RefusedNumbers.{numbered}
use Rattle.refusals.proofs.HeadFacts.{use_words}
use Rattle.bands.specs.Bands.{without}
use Rattle.bands.proofs.BandLaws.{band_few, band_before_few}
use Rattle.bands.proofs.FewerRoots.{with_roots, band_same, before_same}
use Rattle.found_answers.specs.FoundAnswers.{answer_of, time_of}
use Rattle.queries.proofs.BandAnswers.{query_refused, is_query_lem, some_ticks, some_keys, keys_bound, use_fits, question_answered, bat_time_answered}
use Rattle.queries.proofs.reading.query.Goals as goal

pub returns-in-Err : goal.returns-in-Err
returns-in-Err c =
    let a = c.args in
    c.from.ensures ∙ query_refused (store_seen a.store.now) a.time a.k1 a.k2 a.t1 a.t2 c.question_input.ensures c.in-Err.ensures (numbered _)

pub overflow_sub-t2 : goal.overflow_sub-t2
overflow_sub-t2 c =
    let a = c.args in
    let s = store_seen a.store.now in
    omega (arith, some_ticks s a.k1 a.k2 a.t1 a.t2 c.question_input.ensures c.in_default.ensures refl)

pub overflow_sub-t2-then-time : goal.overflow_sub-t2-then-time
overflow_sub-t2-then-time c =
    let a = c.args in
    let s = store_seen a.store.now in
    omega (arith, some_ticks s a.k1 a.k2 a.t1 a.t2 c.question_input.ensures c.in_default.ensures refl)

pub skip_later-entries-requires : goal.skip_later-entries-requires
skip_later-entries-requires c =
    let a = c.args in
    let s = store_seen a.store.now in
    (use_fits s a.k1 a.k2 a.t1 a.t2 c.question_input.ensures c.in_default.ensures refl Time).roots_listed

pub invariant_of-tree : goal.invariant_of-tree
invariant_of-tree c =
    let a = c.args in
    let s = store_seen a.store.now in
    record { page_words_in_bounds = use_words (use_fits s a.k1 a.k2 a.t1 a.t2 c.question_input.ensures c.in_default.ensures refl Time) }

pub invariant_of-band : goal.invariant_of-band
invariant_of-band c =
    let a = c.args in
    let s = store_seen a.store.now in
    record { k1_lt_k2 = some_keys s a.k1 a.k2 a.t1 a.t2 c.question_input.ensures c.in_default.ensures refl; k2_le_key_limit = keys_bound s a.k1 a.k2 a.t1 a.t2 c.question_input.ensures c.in_default.ensures refl }

pub lookup_band-until-requires : goal.lookup_band-until-requires
lookup_band-until-requires c =
    let a = c.args in
    let s = store_seen a.store.now in
    omega (arith, (use_fits s a.k1 a.k2 a.t1 a.t2 c.question_input.ensures c.in_default.ensures refl Time).roots_listed, c.skip_later-entries.ensures.upper_bound)

pub lookup_band_before-before-requires : goal.lookup_band_before-before-requires
lookup_band_before-before-requires c =
    let a = c.args in
    let s = store_seen a.store.now in
    omega (arith, (use_fits s a.k1 a.k2 a.t1 a.t2 c.question_input.ensures c.in_default.ensures refl Time).roots_listed, c.skip_later-entries.ensures.upper_bound)

pub invariant_of-started : goal.invariant_of-started
invariant_of-started c =
    let a = c.args in
    let s = store_seen a.store.now in
    record { page_words_in_bounds = use_words (use_fits s a.k1 a.k2 a.t1 a.t2 c.question_input.ensures c.in_default.ensures refl Starts) }

pub invariant_of-band-2 : goal.invariant_of-band-2
invariant_of-band-2 c =
    let a = c.args in
    let s = store_seen a.store.now in
    record { k1_lt_k2 = some_keys s a.k1 a.k2 a.t1 a.t2 c.question_input.ensures c.in_default.ensures refl; k2_le_key_limit = keys_bound s a.k1 a.k2 a.t1 a.t2 c.question_input.ensures c.in_default.ensures refl }

pub lookup_band-starts-requires : goal.lookup_band-starts-requires
lookup_band-starts-requires c =
    let a = c.args in
    let s = store_seen a.store.now in
    (use_fits s a.k1 a.k2 a.t1 a.t2 c.question_input.ensures c.in_default.ensures refl Starts).roots_listed

pub invariant_of-ended : goal.invariant_of-ended
invariant_of-ended c =
    let a = c.args in
    let s = store_seen a.store.now in
    record { page_words_in_bounds = use_words (use_fits s a.k1 a.k2 a.t1 a.t2 c.question_input.ensures c.in_default.ensures refl Ends) }

pub lookup_band_before-ends-requires : goal.lookup_band_before-ends-requires
lookup_band_before-ends-requires c =
    let a = c.args in
    let s = store_seen a.store.now in
    (use_fits s a.k1 a.k2 a.t1 a.t2 c.question_input.ensures c.in_default.ensures refl Ends).roots_listed

pub time_of-requires : goal.time_of-requires
time_of-requires c =
    let a = c.args in
    let s = store_seen a.store.now in
    let tree : Tree = with_roots (tree_in s Time) c.skip_later-entries.result in
    record {
      until_bound = band_few tree (a.t2 - 1) a.k1 a.k2 c.lookup_band-until.ensures;
      before_bound = band_before_few tree a.t1 a.k1 a.k2 c.lookup_band_before-before.ensures;
    }

pub returns-then-time : goal.returns-then-time
returns-then-time c =
    let a = c.args in
    let s = store_seen a.store.now in
    let left = c.skip_later-entries in
    let later = some_ticks s a.k1 a.k2 a.t1 a.t2 c.question_input.ensures c.in_default.ensures refl in
    c.time_of.ensures
    ∙ ap₂ (λ (until before : Result Lookup SpoiledPage). time_of until a.t2 before a.t1)
    (c.lookup_band-until.ensures ∙ band_same (tree_in s Time) left.result (a.t2 - 1) (left.ensures.by_index (a.t2 - 1) (omega arith)) a.k1 a.k2)
    (c.lookup_band_before-before.ensures ∙ before_same (tree_in s Time) left.result a.t1 (left.ensures.by_index (a.t1 - 1) (omega (arith, later))) a.k1 a.k2)
    ∙ bat_time_answered s a.k1 a.k2 a.t1 a.t2 c.question_input.ensures c.in_default.ensures refl
    ∙ is_query_lem s a.k1 a.k2 a.t1 a.t2 c.if-time.true

pub overflow_sub-t2-2 : goal.overflow_sub-t2-2
overflow_sub-t2-2 c =
    let a = c.args in
    let s = store_seen a.store.now in
    omega (arith, some_ticks s a.k1 a.k2 a.t1 a.t2 c.question_input.ensures c.in_default.ensures refl)

pub without-requires : goal.without-requires
without-requires c =
    let a = c.args in
    let s = store_seen a.store.now in
    record {
      all_bound = band_few (tree_in s Starts) (a.t2 - 1) a.k1 a.k2 c.lookup_band-starts.ensures;
      part_bound = band_before_few (tree_in s Ends) a.t1 a.k1 a.k2 c.lookup_band_before-ends.ensures;
    }

pub returns : goal.returns
returns c =
    let a = c.args in
    let s = store_seen a.store.now in
    c.answer_of.ensures
    ∙ ap answer_of (c.without.ensures ∙ ap₂ without c.lookup_band-starts.ensures c.lookup_band_before-ends.ensures)
    ∙ question_answered s a.k1 a.k2 a.t1 a.t2 c.question_input.ensures c.in_default.ensures refl
    ∙ is_query_lem s a.k1 a.k2 a.t1 a.t2 c.if-time.false
