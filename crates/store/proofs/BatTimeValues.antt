-- The total of bat-time: the four lookups of the tree of time, modulo 2^64, make the book's number exactly, since no number of them reaches 2^52.
use Prim.Native.Nat.{ℕ, ◌+◌, ◌-◌, ◌%◌, ◌^◌, ◌≤◌}
use native.Mathlib.Omega.{arith}
use native.Mathlib.Decide.{ℕ_discrete}
use mathlib.Core.Path.{◌≡◌, ap, sym, ◌∙◌}
use mathlib.Core.Bool.{cond, ◌||◌}
use lib.Dec.{leb, ltb, eqb}
use borrow.Author.Tests.{eq-eqb, ne_eqb}
use Rattle.std.specs.Prelude.{Result}
use Rattle.words.specs.Lists.{All}
use Rattle.words.specs.Words.{open_end}
use Rattle.words.specs.Value as value
use Rattle.words.specs.Value.{add_words, subtract_words, line_at}
use Rattle.words.proofs.LineLaws.{line_words, line_zero}
use Rattle.tree.specs.declared.types.Lookup.{Lookup}
use Rattle.tree.specs.declared.types.SpoiledPage.{SpoiledPage}
use Rattle.tree.proofs.Lists.{all_map}
use Rattle.store.specs.declared.types.TreeName.TheVariants.{Time}
use Rattle.store.specs.Trees.{Store}
use Rattle.store.specs.Reading.{value_of, found_in, points_before, line_before, bat_time_total}
use Rattle.store.specs.Passes.{Pass, sum_where}
use Rattle.store.specs.BatTime.{bat_time_of}
use Rattle.store.specs.Points.{points_of, lookup_count, lookup_sum}
use Rattle.store.specs.Book.{Book}
use Rattle.store.proofs.SumLaws.{sum_where_same}
use Rattle.store.proofs.QuestionSums.{StartedBy, up_to_is_before}
use Rattle.store.proofs.LivedTicks.{lived}
use Rattle.store.proofs.BookPasses.{PassKept}
use Rattle.store.proofs.ArgumentFacts.{Asked}
use Rattle.store.proofs.BandLookups.{before_in}
use Rattle.store.proofs.Agreement.{Agrees}
use Rattle.store.proofs.LookupTotals.{found_as_book}
use Rattle.store.proofs.TimeValues.{time_lived}
use Rattle.store.proofs.BatTimeSums.{lived_below, four_lived, none_before_0, none_below_0, most_time, lived_most}
use Rattle.store.proofs.QuestionValues.{four_numbers}

module _ (s : Store) (b : Book) (a : Agrees s b) (k1 k2 t1 t2 : ℕ) (wide : t2 ≤ open_end) (ask : Asked k1 k2 t1 t2) where
  begun : All (λ (p : Pass). StartedBy p.start p.end) b.passes
  begun = all_map (PassKept b.last) (λ (p : Pass). StartedBy p.start p.end) (λ p k. k.lived) b.passes a.kept.passes

  -- What was gathered is far below 2^64
  below_most : (t k : ℕ) → t ≤ t2 → lived_below t k b.passes ≤ most_time
  below_most t k early = lived_most b a.kept t (omega arith) (λ (p : Pass). ltb p.key k)

  -- A lookup that is made
  one_made : (t k : ℕ) → 1 ≤ t → 1 ≤ k → t ≤ t2 → k ≤ k2 → line_at (value_of (found_in s (points_before Time t k))) (t - 1) ≡ lived_below t k b.passes
  one_made t k tick key early low =
      ap (λ (x : Result Lookup SpoiledPage). line_at (value_of x) (t - 1)) (found_as_book s b a (points_before Time t k) (before_in k1 k2 t1 t2 wide ask Time t k early low))
      ∙ line_words (lookup_count (t - 1) (k - 1) (points_of Time b.passes)) (lookup_sum (t - 1) (k - 1) (points_of Time b.passes)) (t - 1)
      ∙ time_lived (t - 1) (k - 1) b.passes begun
      ∙ ap (λ (n : ℕ). sum_where (lived n) (λ (p : Pass). leb p.key (k - 1)) b.passes % 2 ^ 64) again
      ∙ ap (λ (n : ℕ). n % 2 ^ 64) (sum_where_same (lived t) _ (λ (p : Pass). ltb p.key k) (λ p. up_to_is_before k p.key key) b.passes)
      ∙ small (lived_below t k b.passes) (below_most t k early)
    where
      again : t - 1 + 1 ≡ t
      again = omega arith

      small : (n : ℕ) → n ≤ most_time → n % 2 ^ 64 ≡ n
      small n h = omega arith

  -- or not
  pub line_is : (t k : ℕ) → t ≤ t2 → k ≤ k2 → line_before s t k ≡ lived_below t k b.passes
  line_is t k early low = go (ℕ_discrete t 0) (ℕ_discrete k 0)
    where
      some : (n : ℕ) → (n ≡ 0 → ⊥) → 1 ≤ n
      some n g = omega (arith, g)

      go : Dec (t ≡ 0) → Dec (k ≡ 0)
          → line_at (cond (eqb t 0 || eqb k 0) value.zero (value_of (found_in s (points_before Time t k)))) (t - 1) ≡ lived_below t k b.passes
      go (yes e) below =
          rw (eq-eqb t 0 e) (line_zero (t - 1) ∙ sym (ap (λ (n : ℕ). lived_below n k b.passes) e ∙ none_before_0 k b.passes))
      go (no e) (yes f) =
          rw (ne_eqb t 0 e, eq-eqb k 0 f) (line_zero (t - 1) ∙ sym (ap (λ (n : ℕ). lived_below t n b.passes) f ∙ none_below_0 t b.passes))
      go (no e) (no f) = rw (ne_eqb t 0 e, ne_eqb k 0 f) (one_made t k (some t e) (some k f) early low)

  line_small : (t k : ℕ) → t ≤ t2 → k ≤ k2 → line_before s t k ≤ 2 ^ 52
  line_small t k early low = omega (arith, line_is t k early low, below_most t k early)

  balance : line_before s t2 k2 + line_before s t1 k1 ≡ bat_time_of k1 k2 t1 t2 b.passes + (line_before s t1 k2 + line_before s t2 k1)
  balance =
      omega (
        arith,
        line_is t2 k2 (omega arith) (omega arith),
        line_is t1 k2 (omega (arith, ask.ticks)) (omega arith),
        line_is t2 k1 (omega arith) (omega (arith, ask.band)),
        line_is t1 k1 (omega (arith, ask.ticks)) (omega (arith, ask.band)),
        four_lived k1 k2 t1 t2 ask.band ask.ticks b.passes,
      )

  pub bat_time_exact : bat_time_total s k1 k2 t1 t2 ≡ bat_time_of k1 k2 t1 t2 b.passes
  unfolding bat_time_total
  bat_time_exact =
      let sooner : t1 ≤ t2 = omega (arith, ask.ticks) in
      let lower : k1 ≤ k2 = omega (arith, ask.band) in
      four_numbers (line_before s t2 k2) (line_before s t1 k2) (line_before s t2 k1) (line_before s t1 k1) _ balance
      (line_small t2 k2 (omega arith) (omega arith)) (line_small t1 k2 sooner (omega arith)) (line_small t2 k1 (omega arith) lower) (line_small t1 k1 sooner lower)
