-- The value of a question: "starts(t2 - 1, k2 - 1) - ends(t1 - 1, k2 - 1) - starts(t2 - 1, k1 - 1) + ends(t1 - 1, k1 - 1)", modulo 2^64, is the book's.
use Prim.Native.Nat.{ℕ, ◌+◌, ◌-◌, ◌%◌, ◌^◌, ◌≤◌, ◌<◌}
use native.Mathlib.Omega.{arith}
use native.Mathlib.Decide.{ℕ_discrete}
use mathlib.Core.Path.{◌≡◌, refl, ap, ap₂, sym, ◌∙◌}
use mathlib.Core.Bool.{Bool, cond, ◌||◌}
use mathlib.Core.List.{List}
use lib.Dec.{eqb}
use borrow.Author.Tests.{eq-eqb, ne_eqb}
use Rattle.std.specs.Prelude.{Result}
use Rattle.words.specs.Lists.{All}
use Rattle.words.specs.Words.{open_end}
use Rattle.words.specs.declared.value.Value.{Value}
use Rattle.words.specs.Value as value
use Rattle.words.specs.Value.{plus, minus}
use Rattle.words.proofs.Measure.{count_of, sum_of}
use Rattle.tree.specs.declared.types.Lookup.{Lookup}
use Rattle.tree.specs.declared.types.SpoiledPage.{SpoiledPage}
use Rattle.tree.specs.RowSteps.{Point}
use Rattle.tree.specs.PointSums.{dominated}
use Rattle.tree.proofs.Lists.{all_map}
use Rattle.store.specs.declared.types.TreeName.{TreeName}
use Rattle.store.specs.declared.types.TreeName.TheVariants.{Starts, Ends, Time}
use Rattle.store.specs.Trees.{Store}
use Rattle.store.specs.Reading.{value_of, found_in, points_before, value_before, question_value}
use Rattle.store.specs.Passes.{Pass, meets, sum_where, question_count, question_sum}
use Rattle.store.specs.Points.{points_of, answered_by}
use Rattle.store.specs.Book.{Book}
use Rattle.store.proofs.QuestionSums.{StartedBy, pass_amount, before, added_before, up_to_before, none_before, none_below, four_sums}
use Rattle.store.proofs.PointLaws.{CountsPasses}
use Rattle.store.proofs.BookPasses.{PassKept}
use Rattle.store.proofs.ArgumentFacts.{Asked}
use Rattle.store.proofs.BandLookups.{before_in}
use Rattle.store.proofs.Agreement.{Agrees}
use Rattle.store.proofs.LookupTotals.{weight_total, count_most, sum_most, tree_light, tree_few, book_value, found_as_book}

-- Numbers modulo 2^64
below_mod : (x : ℕ) → x < 2 ^ 64 → x % 2 ^ 64 ≡ x
below_mod x h = omega arith

mod_add : (x y : ℕ) → (x % 2 ^ 64 + y) % 2 ^ 64 ≡ (x + y) % 2 ^ 64
mod_add x y = omega arith

regroup : (x y z : ℕ) → x + y + z ≡ x + (y + z)
regroup x y z = omega arith

whole : (c1 c2 c3 c4 q : ℕ) → c1 + c4 ≡ q + (c2 + c3) → c2 ≤ 2 ^ 52 → c3 ≤ 2 ^ 52
    → c1 + (2 ^ 64 - c2) + (2 ^ 64 - c3 + c4) ≡ q + 2 ^ 64 + 2 ^ 64
whole c1 c2 c3 c4 q e b c = omega arith

twice_more : (q : ℕ) → q < 2 ^ 64 → (q + 2 ^ 64 + 2 ^ 64) % 2 ^ 64 ≡ q
twice_more q h = omega arith

small_enough : (n : ℕ) → n ≤ weight_total → n ≤ 2 ^ 52
small_enough n h = omega arith

-- The difference of the four, where all of them are small
pub four_numbers : (c1 c2 c3 c4 q : ℕ) → c1 + c4 ≡ q + (c2 + c3) → c1 ≤ 2 ^ 52 → c2 ≤ 2 ^ 52 → c3 ≤ 2 ^ 52 → c4 ≤ 2 ^ 52
    → (((c1 + (2 ^ 64 - c2 % 2 ^ 64)) % 2 ^ 64 + (2 ^ 64 - c3 % 2 ^ 64)) % 2 ^ 64 + c4) % 2 ^ 64 ≡ q
four_numbers c1 c2 c3 c4 q e a b c d =
    let two : c2 % 2 ^ 64 ≡ c2 = below_mod c2 (omega arith) in
    let three : c3 % 2 ^ 64 ≡ c3 = below_mod c3 (omega arith) in
    ap₂ (λ (x y : ℕ). (((c1 + (2 ^ 64 - x)) % 2 ^ 64 + (2 ^ 64 - y)) % 2 ^ 64 + c4) % 2 ^ 64) two three
    ∙ mod_add ((c1 + (2 ^ 64 - c2)) % 2 ^ 64 + (2 ^ 64 - c3)) c4
    ∙ ap (λ (n : ℕ). n % 2 ^ 64) (regroup ((c1 + (2 ^ 64 - c2)) % 2 ^ 64) (2 ^ 64 - c3) c4)
    ∙ mod_add (c1 + (2 ^ 64 - c2)) (2 ^ 64 - c3 + c4)
    ∙ ap (λ (n : ℕ). n % 2 ^ 64) (whole c1 c2 c3 c4 q e b c)
    ∙ twice_more q (omega arith)

module _ (s : Store) (b : Book) (a : Agrees s b) (k1 k2 t1 t2 : ℕ) (wide : t2 ≤ open_end) (ask : Asked k1 k2 t1 t2) where
  lived : All (λ (p : Pass). StartedBy p.start p.end) b.passes
  lived = all_map (PassKept b.last) (λ (p : Pass). StartedBy p.start p.end) (λ p k. k.lived) b.passes a.kept.passes

  abbrev points : TreeName → List Point
  points name = points_of name b.passes

  -- One number of the four values, whose sums over a tree's points are small
  module _ (measure : Value → ℕ) (z : measure value.zero ≡ 0)
      (is : (tree : TreeName) → CountsPasses tree → (t k : ℕ)
      → measure (book_value s b a (record { tree = tree; tick = t; key = k })) ≡ sum_where (λ (p : Point). measure p.value) (dominated t k) (points tree))
      (small : (tree : TreeName) → CountsPasses tree → (test : Point → Bool) → sum_where (λ (p : Point). measure p.value) test (points tree) ≤ weight_total) where
    abbrev found : TreeName → ℕ → ℕ → ℕ
    found tree t k = measure (value_before s tree t k)

    -- What a lookup finds is what the points before t and below k bring, also where none is made
    found_is : (tree : TreeName) → CountsPasses tree → (t k : ℕ) → t ≤ t2 → k ≤ k2 → found tree t k ≡ added_before measure t k (points tree)
    found_is tree counts t k early low = go (ℕ_discrete t 0) (ℕ_discrete k 0)
      where
        go : Dec (t ≡ 0) → Dec (k ≡ 0)
            → measure (cond (eqb t 0 || eqb k 0) value.zero (value_of (found_in s (points_before tree t k)))) ≡ added_before measure t k (points tree)
        go (yes e) below =
            rw (eq-eqb t 0 e) (z ∙ sym (ap (λ (n : ℕ). added_before measure n k (points tree)) e ∙ none_before measure k (points tree)))
        go (no e) (yes f) =
            rw (ne_eqb t 0 e, eq-eqb k 0 f)
            (z ∙ sym (ap (λ (n : ℕ). added_before measure t n (points tree)) f ∙ none_below measure t (points tree)))
        go (no e) (no f) =
            rw (ne_eqb t 0 e, ne_eqb k 0 f)
            (ap (λ (x : Result Lookup SpoiledPage). measure (value_of x)) (found_as_book s b a (points_before tree t k) (before_in k1 k2 t1 t2 wide ask tree t k early low))
            ∙ is tree counts (t - 1) (k - 1)
            ∙ up_to_before measure t k (some t e) (some k f) (points tree))
          where
            some : (n : ℕ) → (n ≡ 0 → ⊥) → 1 ≤ n
            some n g = omega (arith, g)

    found_small : (tree : TreeName) → CountsPasses tree → (t k : ℕ) → t ≤ t2 → k ≤ k2 → found tree t k ≤ weight_total
    found_small tree counts t k early low = omega (arith, found_is tree counts t k early low, small tree counts (before measure t k))

    earlier : t1 ≤ t2
    earlier = omega (arith, ask.ticks)

    lower : k1 ≤ k2
    lower = omega (arith, ask.band)

    balance : found Starts t2 k2 + found Ends t1 k1
        ≡ sum_where (pass_amount measure) (meets k1 k2 t1 t2) b.passes + (found Ends t1 k2 + found Starts t2 k1)
    balance =
        omega (
          arith,
          found_is Starts tt t2 k2 (omega arith) (omega arith),
          found_is Ends tt t1 k2 earlier (omega arith),
          found_is Starts tt t2 k1 (omega arith) lower,
          found_is Ends tt t1 k1 earlier lower,
          four_sums measure k1 k2 t1 t2 ask.band ask.ticks b.passes lived,
        )

    pub difference : (((found Starts t2 k2 + (2 ^ 64 - found Ends t1 k2 % 2 ^ 64)) % 2 ^ 64 + (2 ^ 64 - found Starts t2 k1 % 2 ^ 64)) % 2 ^ 64
        + found Ends t1 k1) % 2 ^ 64
        ≡ sum_where (pass_amount measure) (meets k1 k2 t1 t2) b.passes
    difference =
        four_numbers (found Starts t2 k2) (found Ends t1 k2) (found Starts t2 k1) (found Ends t1 k1) _ balance
        (small_enough _ (found_small Starts tt t2 k2 (omega arith) (omega arith))) (small_enough _ (found_small Ends tt t1 k2 earlier (omega arith)))
        (small_enough _ (found_small Starts tt t2 k1 (omega arith) lower)) (small_enough _ (found_small Ends tt t1 k1 earlier lower))

  -- Both numbers are exact in the trees of starts and of ends
  exactly : (tree : TreeName) → CountsPasses tree → (n : ℕ) → answered_by tree n ≡ n
  exactly Starts counts n = refl
  exactly Ends counts n = refl
  exactly Time counts n = absurd counts

  count_small : (tree : TreeName) → CountsPasses tree → (test : Point → Bool) → sum_where (λ (p : Point). p.value.count) test (points tree) ≤ weight_total
  count_small tree counts test = omega (arith, count_most (points tree) (tree_light s b a tree counts) (tree_few s b a tree counts) test)

  sum_small : (tree : TreeName) → CountsPasses tree → (test : Point → Bool) → sum_where (λ (p : Point). p.value.sum) test (points tree) ≤ weight_total
  sum_small tree counts test = sum_most (points tree) (tree_light s b a tree counts) (tree_few s b a tree counts) test

  pub question_count_lem : (question_value s k1 k2 t1 t2).count ≡ question_count k1 k2 t1 t2 b.passes
  unfolding plus minus
  question_count_lem = difference count_of refl (λ tree counts t k. exactly tree counts _) count_small

  pub question_sum_lem : (question_value s k1 k2 t1 t2).sum ≡ question_sum k1 k2 t1 t2 b.passes
  unfolding plus minus
  question_sum_lem = difference sum_of refl (λ tree counts t k. exactly tree counts _) sum_small
