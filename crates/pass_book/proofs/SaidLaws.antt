-- What passes add up to is what the book says.
use Prim.Native.Nat.{ℕ, ◌*◌, ◌%◌, ◌^◌, ◌≤◌, ◌<◌}
use native.Mathlib.Omega.{arith}
use mathlib.Core.Path.{◌≡◌, refl, ap, ap₂, sym, ◌∙◌}
use mathlib.Core.Bool.{Bool, true, false, cond}
use mathlib.Core.List.{List, [], ◌∷◌}
use lib.ListN.{length}
use Rattle.words.specs.Lists.{All}
use Rattle.words.specs.Value.{plus}
use Rattle.words.specs.declared.value.Value.{Value}
use Rattle.words.proofs.Measure.{count_of, sum_of, count_measure, sum_measure}
use Rattle.tree.specs.RowSteps.{Point}
use Rattle.tree.specs.PointSums.{dominated}
use Rattle.tree.specs.TrueValue.{total_where}
use Rattle.tree.proofs.Lists.{all_map}
use Rattle.store.specs.Passes.{End, still_open, ended_at, Pass, sum_where, meets}
use Rattle.store.specs.Writing.{point_of}
use Rattle.store.specs.declared.types.TreeName.{TreeName}
use Rattle.store.specs.declared.types.TreeName.TheVariants.{Starts, Ends, Time}
use Rattle.store.specs.Points.{end_points_of, points_of_pass, points_of, answered_by}
use Rattle.store.specs.Book.{Book, says, book_says, book_part}
use Rattle.store.proofs.SumLaws.{sum_where_append, sum_where_one, sum_where_most, total_is_sum}
use Rattle.store.proofs.PointLaws.{CountsPasses}
use Rattle.pass_list.specs.declared.types.Asked.{Asked}
use Rattle.pass_list.specs.declared.types.Asked.TheVariants as ask
use Rattle.pass_list.specs.PassList.{Light}
use Rattle.pass_book.specs.BookCalls.{asked_call}
use Rattle.pass_list.specs.Counted.{points_worth, counts, adds, total_of}
use Rattle.pass_book.specs.Turns.{answer_of, in_words}
use Rattle.pass_list.proofs.TotalLaws.{total_append}

-- What each pass adds to a lookup is added up over its points
points_total : (tree : TreeName) (t k : ℕ) (ps : List Pass) → total_of (ask.Lookup tree t k) ps ≡ points_worth t k (points_of tree ps)
unfolding total_where points_of
points_total tree t k [] = refl
points_total tree t k (p ∷ ps) =
    ap (plus (points_worth t k (points_of_pass tree p))) (points_total tree t k ps)
    ∙ sym (total_append (λ (q : Point). q.value) (dominated t k) (points_of_pass tree p) (points_of tree ps))

-- What a point carries
abbrev count_in : Point → ℕ
count_in q = q.value.count

abbrev sum_in : Point → ℕ
sum_in q = q.value.sum

-- A number of the points of a tree, of which a pass has at most one
module _ (f : Point → ℕ) (most t k : ℕ) where
  abbrev Within : Pass → Type 0
  Within p = (tick : ℕ) → f (point_of tick p.key p.weight) ≤ most

  one_most : (q : Point) → f q ≤ most → sum_where f (dominated t k) (q ∷ []) ≤ most
  one_most q h = rw (sum_where_one f (dominated t k) q) (go (dominated t k q))
    where
      go : (b : Bool) → cond b (f q) 0 ≤ most
      go true = h
      go false = omega arith

  pass_most : (tree : TreeName) → CountsPasses tree → (p : Pass) → Within p → sum_where f (dominated t k) (points_of_pass tree p) ≤ most
  unfolding sum_where
  pass_most Starts counts p h = one_most (point_of p.start p.key p.weight) (h p.start)
  pass_most Ends counts p h = go p.end
    where
      go : (e : End) → sum_where f (dominated t k) (end_points_of p e) ≤ most
      go still_open = omega arith
      go (ended_at e) = one_most (point_of e p.key p.weight) (h e)
  pass_most Time counts p h = absurd counts

  points_most : (tree : TreeName) → CountsPasses tree → (ps : List Pass) → All Within ps → sum_where f (dominated t k) (points_of tree ps) ≤ most * length ps
  unfolding sum_where points_of
  points_most tree counts [] h = omega arith
  points_most tree counts (p ∷ ps) h =
      omega (
        arith,
        sum_where_append f (dominated t k) (points_of_pass tree p) (points_of tree ps),
        pass_most tree counts p h.0,
        points_most tree counts ps h.1,
      )

-- What the book says to a call that only reads
module _ (b : Book) (few : length b.passes < 2 ^ 32) (light : All Light b.passes) where
  abbrev ps : List Pass
  ps = b.passes

  -- Each pass is one, and weighs less than 2^32: their number and their weight sum fit a word
  fits : {n total : ℕ} → n ≡ total % 2 ^ 64 → total ≤ 4294967295 * length ps → n ≡ total
  fits is within = omega arith

  -- A sum over the points of a tree, exact where they carry a count and a weight
  answered : (tree : TreeName) {n total : ℕ} → n ≡ total % 2 ^ 64 → (CountsPasses tree → total ≤ 4294967295 * length ps) → n ≡ answered_by tree total
  answered Starts is within = fits is (within tt)
  answered Ends is within = fits is (within tt)
  answered Time is within = is

  pub said_as : (asked : Asked) {v : Value} → v ≡ total_of asked ps → book_part (answer_of asked v) ≡ in_words (asked_call asked) (book_says b (asked_call asked))
  said_as (ask.Question w) is =
      let asked : Asked = ask.Question w in
      let one = all_map Light (λ (p : Pass). 1 ≤ 1) (λ p h. omega arith) ps light in
      let weights = all_map Light (λ (p : Pass). p.weight ≤ 4294967295) (λ p h. omega (arith, h)) ps light in
      let passes = sum_where_most (λ (p : Pass). 1) (meets w.k1 w.k2 w.t1 w.t2) 1 ps one in
      ap₂ (λ (count sum : ℕ). says (count ∷ (sum ∷ [])))
      (fits (ap count_of is ∙ total_is_sum count_of count_measure (adds asked) (counts asked) ps) (omega (arith, passes)))
      (fits (ap sum_of is ∙ total_is_sum sum_of sum_measure (adds asked) (counts asked) ps)
      (sum_where_most (λ (p : Pass). p.weight) (meets w.k1 w.k2 w.t1 w.t2) 4294967295 ps weights))
  said_as (ask.BatTime w) is =
      let asked : Asked = ask.BatTime w in
      ap (λ (total : ℕ). says (total ∷ [])) (ap sum_of is ∙ total_is_sum sum_of sum_measure (adds asked) (counts asked) ps)
  said_as (ask.Lookup tree t k) is =
      let points = is ∙ points_total tree t k ps in
      let one = all_map Light (Within count_in 1 t k) (λ p h tick. omega arith) ps light in
      let weights = all_map Light (Within sum_in 4294967295 t k) (λ p h tick. omega (arith, h)) ps light in
      ap₂ (λ (count sum : ℕ). says (count ∷ (sum ∷ [])))
      (answered tree (ap count_of points ∙ total_is_sum count_of count_measure (λ (q : Point). q.value) (dominated t k) (points_of tree ps))
      (λ counts. omega (arith, points_most count_in 1 t k tree counts ps one)))
      (answered tree (ap sum_of points ∙ total_is_sum sum_of sum_measure (λ (q : Point). q.value) (dominated t k) (points_of tree ps))
      (λ counts. points_most sum_in 4294967295 t k tree counts ps weights))
