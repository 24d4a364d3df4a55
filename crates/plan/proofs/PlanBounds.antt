-- The numbers of a plan are small: a page has at most 64 rows, and each page on the way makes two pages at most.
use Prim.Native.Nat.{ℕ, zero, suc, ◌+◌, ◌-◌, ◌*◌, ◌≤◌, ◌<◌}
use native.Mathlib.Omega.{arith}
use mathlib.Core.Path.{◌≡◌, refl, sym, subst}
use mathlib.Core.Bool.{Bool, true, false, cond, and-eq-true_iff}
use mathlib.Core.List.{List}
use lib.Dec.{leb, ltb, eqb}
use lib.ListN.{length}
use borrow.Author.Tests.{ltb-true}
use Rattle.tree.specs.declared.types.Row.{Row}
use Rattle.tree.specs.declared.types.TreeUse.{TreeUse}
use Rattle.std.specs.Prelude.{Option, Some, None, Result, Ok, Err, IfSome, IfOk}
use Rattle.tree.specs.declared.types.SpoiledPage.{SpoiledPage}
use Rattle.tree.specs.Spoiled.{spoiled}
use Rattle.tree.specs.Row.{word, row_at, row_start, rows_of, header_words, live, row_limit, copy_limit}
use Rattle.tree.specs.KeyOrder.{Placed, key_order}
use Rattle.tree.specs.TrueValue.{Search, none, one, first}
use Rattle.tree.specs.PageTest.{sound_at}
use Rattle.ranges.specs.Nearest.{place_found}
use Rattle.live.specs.Survey.{survey_of, is_around}
use Rattle.rows.proofs.SeatedRows.{Seated, order_seated}
use Rattle.tree.proofs.Searches.{first_has, first_passes}
use Rattle.live.proofs.PageReadings.{sound_few}
use Rattle.plan.specs.declared.planning.Counts.{Counts}
use Rattle.plan.specs.declared.planning.Met.{Met}
use Rattle.plan.specs.declared.planning.PagePlan.{PagePlan}
use Rattle.tree.specs.Tree.{page_at}
use Rattle.tree.specs.Use.{in_use}
use Rattle.plan.specs.PlanSteps.{appended, counts_of, met_around, met_survey, met_words, met_page, Few, FewMet, FewParts}
use Rattle.plan.specs.PlanSteps.{parts_of, plan_page, plan_above, plan_over, plan_cut, plan_found, plan_met, plan_from}
use Rattle.plan.proofs.RowCounts.{live_count, rows_count, count_at_most}

module _ (t : ℕ) (words : List ℕ) where
  appended_small : (pl : Option ℕ) → appended t words pl ≤ 1
  appended_small None = omega arith
  appended_small (Some p) = go (eqb (row_at words (row_start p)).birth t)
    where
      go : (b : Bool) → cond b 0 1 ≤ 1
      go true = omega arith
      go false = omega arith

  module _ (k level low high : ℕ) where
    counts_few : sound_at t level low high words ≡ true → Few (counts_of t words (survey_of t k words))
    counts_few e =
        let few = sound_few t level low high words e in
        let many : length (key_order t (rows_of words)) ≤ length (rows_of words) =
        subst (λ (n : ℕ). n ≤ length (rows_of words)) (sym (live_count t (rows_of words))) (count_at_most (live t) (rows_of words)) in
        record {
          few_rows = few;
          few_live = at_most (length (key_order t (rows_of words))) (length (rows_of words)) (word words 1) many
              (rows_count words header_words (word words 1)) few;
          few_gain = appended_small (survey_of t k words).gain;
          few_inner = appended_small (survey_of t k words).inner;
        }
      where
        at_most : (a b c : ℕ) → a ≤ b → b ≡ c → c ≤ row_limit → a ≤ row_limit
        at_most a b c p q r = omega arith

    words_few : FewMet (met_words t k level low high words)
    unfolding met_words
    words_few = go (sound_at t level low high words) refl
      where
        go : (b : Bool) → sound_at t level low high words ≡ b → FewMet (cond b (Ok (met_survey t words (survey_of t k words))) spoiled)
        go true e = counts_few e
        go false e = tt

pub parts_few : (rows live : ℕ) → parts_of rows live ≤ 2
parts_few rows live = go (leb rows row_limit) (leb live copy_limit)
  where
    go : (a b : Bool) → cond a 0 (cond b 1 2) ≤ 2
    go true b = omega arith
    go false true = omega arith
    go false false = omega arith

module _ (table : List ℕ) (used : TreeUse) (t k : ℕ) where
  page_met_few : (level low high page : ℕ) → FewMet (met_page table used t k level low high page)
  unfolding met_page
  page_met_few level low high page = go (in_use used page)
    where
      go : (b : Bool) → FewMet (cond b (met_words t k level low high (page_at table page)) spoiled)
      go true = words_few t (page_at table page) k level low high
      go false = tt

  pub met_few : (level low high page : ℕ) {m : Met} → Ok m ≡ met_page table used t k level low high page → Few m.counts
  met_few level low high page is = subst FewMet (sym is) (page_met_few level low high page)

  abbrev FewPlanned : ℕ → Result PagePlan SpoiledPage → Type 0
  FewPlanned limit r = IfOk r (FewParts limit)

  page_few : (made rows live limit : ℕ) → made + 2 ≤ limit → FewParts limit (plan_page made rows live)
  unfolding plan_page
  page_few made rows live limit h = (sum_few (parts_of rows live) (parts_few rows live), parts_few rows live)
    where
      sum_few : (n : ℕ) → n ≤ 2 → made + n ≤ limit
      sum_few n p = omega arith

  above_few : (counts : Counts) (limit : ℕ) (below : Result PagePlan SpoiledPage) → FewPlanned limit below → FewPlanned (limit + 2) (plan_over counts below)
  unfolding plan_above
  above_few counts limit (Err e) h = tt
  above_few counts limit (Ok below) h = go (eqb below.parts 0)
    where
      go : (b : Bool) → FewParts (limit + 2) (cond b
          (plan_page below.made (counts.rows + counts.gain) counts.live)
          (plan_page below.made (counts.rows + counts.gain + counts.inner + (below.parts - 1)) (counts.live + (below.parts - 1))))
      go true = page_few below.made _ _ (limit + 2) (omega arith)
      go false = page_few below.made _ _ (limit + 2) (omega arith)

  met_plan_few : (limit : ℕ) (around : Counts → Row → Result PagePlan SpoiledPage) → 2 ≤ limit → ((c : Counts) (r : Row) → FewPlanned limit (around c r)) →
      (m : Result Met SpoiledPage) → FewPlanned limit (plan_met around m)
  met_plan_few limit around h f (Err e) = tt
  met_plan_few limit around h f (Ok m) = go m.around
    where
      go : (r : Option Row) → FewPlanned limit (plan_found (around m.counts) m.counts r)
      go None = page_few 0 _ _ limit (omega arith)
      go (Some row) = f m.counts row

  -- Each page on the way makes two pages at most
  plan_few : (level low high page : ℕ) → FewPlanned (2 * level + 2) (plan_from table used t k level low high page)
  unfolding plan_from
  plan_few zero low high page =
      met_plan_few 2 (λ (counts : Counts) (row : Row). Ok (plan_cut counts)) (omega arith)
      (λ c r. page_few 0 (c.rows + c.inner + 1) (c.live + 1) 2 (omega arith))
      (met_page table used t k 0 low high page)
  plan_few (suc l) low high page =
      subst (λ (n : ℕ). FewPlanned n (plan_from table used t k (suc l) low high page)) (limit_next l)
      (met_plan_few (2 * l + 2 + 2)
      (λ (counts : Counts) (row : Row). plan_over counts (plan_from table used t k l row.low row.high row.child)) (omega arith)
      (λ c r. above_few c (2 * l + 2) (plan_from table used t k l r.low r.high r.child) (plan_few l r.low r.high r.child))
      (met_page table used t k (suc l) low high page))
    where
      limit_next : (n : ℕ) → 2 * n + 2 + 2 ≡ 2 * suc n + 2
      limit_next n = omega arith

  pub plan_within : (limit level low high page : ℕ) → 2 * level + 2 ≤ limit → {planned : PagePlan}
      → Ok planned ≡ plan_from table used t k level low high page →
      FewParts limit planned
  plan_within limit level low high page h is =
      let few = subst (FewPlanned (2 * level + 2)) (sym is) (plan_few level low high page) in
      (omega (arith, few.0), few.1)

-- The row that a plan goes on from has its key inside, so its key range has one
abbrev Wide : Result Met SpoiledPage → Type 0
Wide r = IfOk r (λ m. IfSome m.around (λ row. row.low < row.high))

words_wide : (t k level low high : ℕ) (words : List ℕ) → Wide (met_words t k level low high words)
unfolding met_words
words_wide t k level low high words = go (sound_at t level low high words)
  where
    found : (s : Search Placed) → first (is_around k) (key_order t (rows_of words)) ≡ s → Wide (Ok (met_around words (counts_of t words (survey_of t k words)) (place_found s)))
    found none e = tt
    found (one x) e =
        let h = (and-eq-true_iff (ltb x.row.low k) (ltb k x.row.high)).0 (first_passes (is_around k) (key_order t (rows_of words)) e) in
        let seat = first_has (Seated words (word words 1)) (is_around k) (key_order t (rows_of words))
        (order_seated words (word words 1) t 0 (word words 1) (omega arith)) e in
        subst (λ (r : Row). r.low < r.high) seat.same (omega (arith, ltb-true x.row.low k h.0, ltb-true k x.row.high h.1))

    go : (b : Bool) → Wide (cond b (Ok (met_survey t words (survey_of t k words))) spoiled)
    go true = found (first (is_around k) (key_order t (rows_of words))) refl
    go false = tt

page_wide : (table : List ℕ) (used : TreeUse) (t k level low high page : ℕ) → Wide (met_page table used t k level low high page)
unfolding met_page
page_wide table used t k level low high page = go (in_use used page)
  where
    go : (b : Bool) → Wide (cond b (met_words t k level low high (page_at table page)) spoiled)
    go true = words_wide t k level low high (page_at table page)
    go false = tt

pub met_wide : (table : List ℕ) (used : TreeUse) (t k level low high page : ℕ) {m : Met} {row : Row} → Ok m ≡ met_page table used t k level low high page
    → m.around ≡ Some row → row.low < row.high
met_wide table used t k level low high page {m} is found =
    subst (λ (r : Option Row). IfSome r (λ row. row.low < row.high)) found (subst Wide (sym is) (page_wide table used t k level low high page))
