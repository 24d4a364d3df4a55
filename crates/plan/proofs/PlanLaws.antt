-- The plan by counts is the plan of document 01's steps: a page goes to as many parts as its rows after the steps do.
use Prim.Native.Nat.{ℕ, zero, suc, ◌+◌, ◌<◌}
use native.Mathlib.Omega.{arith}
use mathlib.Core.Path.{◌≡◌, refl, sym, ap, ap₂, ◌∙◌}
use mathlib.Core.Bool.{Bool, true, false, cond, ◌&&◌}
use mathlib.Core.List.{List}
use lib.Dec.{leb, eqb}
use lib.ListN.{length}
use Rattle.std.specs.Prelude.{Result, Ok}
use Rattle.words.specs.Words.{open_end}
use Rattle.tree.specs.declared.types.SpoiledPage.{SpoiledPage}
use Rattle.tree.specs.Spoiled.{spoiled}
use Rattle.tree.specs.declared.types.Row.{Row}
use Rattle.tree.specs.Row.{word, rows_of, header_words, live, row_limit, copy_limit}
use Rattle.tree.specs.KeyOrder.{Placed, key_order}
use Rattle.tree.specs.TrueValue.{Search, none, one, first}
use Rattle.tree.specs.PageTest.{sound_at}
use Rattle.ranges.specs.Nearest.{place_found}
use Rattle.live.specs.Survey.{starts_from, is_around, survey_of}
use Rattle.tree.proofs.Lists.{count}
use Rattle.rows.proofs.SeatedRows.{Seated, order_seated}
use Rattle.tree.proofs.Searches.{first_has}
use Rattle.plan.specs.declared.planning.Counts.{Counts}
use Rattle.plan.specs.declared.planning.Met.{Met}
use Rattle.plan.specs.declared.planning.PagePlan.{PagePlan}
use Rattle.tree.specs.Tree.{Tree, page_at, met_at}
use Rattle.tree.specs.RowSteps.{Point, row_around, gain_rows, leaf_rows, relink_row}
use Rattle.tree.specs.declared.types.Became.{Became}
use Rattle.tree.specs.declared.types.Became.TheVariants.{Stays, Copied, Halved}
use Rattle.tree.specs.Overflow.{Written, finish_page, copied_rows}
use Rattle.tree.specs.Enter.{unwritten, enter_below, enter_from}
use Rattle.tree.specs.Plan.{sound_below, descent_sound}
use Rattle.tree.specs.Use.{in_use}
use Rattle.plan.specs.PlanSteps.{appended, counts_of, met_around, met_survey, met_words, met_page}
use Rattle.plan.specs.PlanSteps.{plan_page, plan_above, plan_over, plan_lowest, plan_cut, plan_met, plan_from}
use Rattle.plan.proofs.RowCounts.{live_count, copied_count, rows_count}
use Rattle.plan.proofs.ShapeLaws.{cost_of, cost_in, gain_rows_lem, gain_live, leaf_lowest, cut_rows, cut_live}
use Rattle.plan.proofs.ShapeLaws.{copied_rows_lem, copied_live, halved_rows, halved_live}

-- How many pages took the rows of a page
abbrev pub parts_in : Became → ℕ
parts_in Stays = 0
parts_in (Copied c) = 1
parts_in (Halved c d) = 2

-- What the plan says of what was written
abbrev pub outcome : Written → PagePlan
outcome so = record { made = so.made; parts = parts_in so.became }

same_made : {a b c d : ℕ} → a ≡ b → c ≡ d → ◌≡◌ {A = PagePlan} (record { made = a; parts = c }) (record { made = b; parts = d })
same_made p q = λ i. record { made = p i; parts = q i }

-- Step 5 by counts
pub finish_is : (tree : Tree) (t : ℕ) (so : Written) (page : ℕ) (rows : List Row) →
    outcome (finish_page tree t so page rows) ≡ plan_page so.made (length rows) (count (live t) rows)
unfolding finish_page plan_page
finish_is tree t so page rows =
    go (leb (length rows) row_limit) (leb (length (copied_rows t rows)) copy_limit) refl refl
  where
    go : (a b : Bool) → leb (length rows) row_limit ≡ a → leb (length (copied_rows t rows)) copy_limit ≡ b →
        outcome (finish_page tree t so page rows) ≡ plan_page so.made (length rows) (count (live t) rows)
    go true b e f = rw e (same_made (omega arith) refl)
    go false true e f =
        let f' : leb (count (live t) rows) copy_limit ≡ true = ap (λ (n : ℕ). leb n copy_limit) (sym (copied_count t rows)) ∙ f in
        rw (e, f, f') refl
    go false false e f =
        let f' : leb (count (live t) rows) copy_limit ≡ false = ap (λ (n : ℕ). leb n copy_limit) (sym (copied_count t rows)) ∙ f in
        rw (e, f, f') refl

-- The tests of a page, joined
met_tests : (around : Counts → Row → Result PagePlan SpoiledPage) (a b : Bool) (m : Met) →
    plan_met around (cond a (cond b (Ok m) spoiled) spoiled) ≡ cond (a && b) (plan_met around (Ok m)) spoiled
met_tests around true true m = refl
met_tests around true false m = refl
met_tests around false b m = refl

-- Two tests, one after the other
pub join_tests : {X : Type 0} (a b : Bool) (x y : X) → cond a (cond b x y) y ≡ cond (a && b) x y
join_tests true b x y = refl
join_tests false b x y = refl

above_test : (counts : Counts) (b : Bool) (x : PagePlan) → plan_over counts (cond b (Ok x) spoiled) ≡ cond b (Ok (plan_above counts x)) spoiled
above_test counts true x = refl
above_test counts false x = refl

-- A row that a search finds in the order is the page's row at that place
pub found_seated : (t : ℕ) (words : List ℕ) (test : Placed → Bool) {x : Placed} →
    first test (key_order t (rows_of words)) ≡ one x → Seated words (word words 1) x
found_seated t words test e =
    first_has (Seated words (word words 1)) test (key_order t (rows_of words))
    (order_seated words (word words 1) t 0 (word words 1) (omega arith)) e

appended_is : (t : ℕ) (words : List ℕ) (test : Placed → Bool) →
    appended t words (place_found (first test (key_order t (rows_of words)))) ≡ cost_in t (first test (key_order t (rows_of words)))
appended_is t words test = go (first test (key_order t (rows_of words))) refl
  where
    go : (s : Search Placed) → first test (key_order t (rows_of words)) ≡ s → appended t words (place_found s) ≡ cost_in t s
    go none e = refl
    go (one x) e = ap (λ (r : Row). cond (eqb r.birth t) 0 1) (sym (found_seated t words test e).same)

sum_three : (a b g i c l m : ℕ) → a + b ≡ g → i ≡ c → l ≡ g + (c + m) → a + b + i + m ≡ l
sum_three a b g i c l m p q r = omega arith

sum_two : (a i c l m : ℕ) → i ≡ c → l ≡ a + (c + m) → a + i + m ≡ l
sum_two a i c l m q r = omega arith

-- One page by its words, and the rows that it stands for
module _ (p : Point) (small : p.tick < open_end) (words : List ℕ) where
  abbrev the_counts : Counts
  the_counts = counts_of p.tick words (survey_of p.tick p.key words)

  gained_count : word words 1 + the_counts.gain ≡ length (gain_rows p (rows_of words))
  gained_count =
      ap₂ ◌+◌ (sym (rows_count words header_words (word words 1))) (appended_is p.tick words (starts_from p.key))
      ∙ sym (gain_rows_lem p small (rows_of words))

  gained_live_count : the_counts.live ≡ count (live p.tick) (gain_rows p (rows_of words))
  gained_live_count = live_count p.tick (rows_of words) ∙ sym (gain_live p small (rows_of words))

  module _ {x : Placed} (e : row_around p (rows_of words) ≡ one x) where
    inner_cost : the_counts.inner ≡ cost_of p.tick x
    inner_cost = appended_is p.tick words (is_around p.key) ∙ ap (cost_in p.tick) e

    cut_count : word words 1 + the_counts.inner + 1 ≡ length (leaf_rows p (rows_of words))
    cut_count =
        sum_two (word words 1) the_counts.inner (cost_of p.tick x) (length (leaf_rows p (rows_of words))) 1 inner_cost
        (cut_rows p small (rows_of words) e ∙ ap (λ (n : ℕ). n + (cost_of p.tick x + 1)) (rows_count words header_words (word words 1)))

    cut_live_count : the_counts.live + 1 ≡ count (live p.tick) (leaf_rows p (rows_of words))
    cut_live_count = ap (λ (n : ℕ). n + 1) (live_count p.tick (rows_of words)) ∙ sym (cut_live p small (rows_of words) e)

    -- Steps 3 and 7, for each thing that the child became
    relink_is : (made : ℕ) (b : Became) → plan_above the_counts (record { made = made; parts = parts_in b })
        ≡ plan_page made (length (relink_row p.tick x b (gain_rows p (rows_of words))))
        (count (live p.tick) (relink_row p.tick x b (gain_rows p (rows_of words))))
    unfolding plan_above relink_row
    relink_is made Stays = ap₂ (plan_page made) gained_count gained_live_count
    relink_is made (Copied c) =
        ap₂ (plan_page made)
        (sum_three (word words 1) the_counts.gain _ the_counts.inner _ _ 0 gained_count inner_cost
        (copied_rows_lem p small (rows_of words) e c))
        (ap (λ (n : ℕ). n + 0) gained_live_count ∙ sym (copied_live p small (rows_of words) e c))
    relink_is made (Halved c d) =
        ap₂ (plan_page made)
        (sum_three (word words 1) the_counts.gain _ the_counts.inner _ _ 1 gained_count inner_cost
        (halved_rows p small (rows_of words) e c d))
        (ap (λ (n : ℕ). n + 1) gained_live_count ∙ sym (halved_live p small (rows_of words) e c d))

module _ (tree : Tree) (p : Point) (small : p.tick < open_end) where
  lowest_is : (page : ℕ) → plan_lowest (the_counts p small (page_at tree.table page))
      ≡ outcome (finish_page tree p.tick (unwritten tree) page (gain_rows p (rows_of (page_at tree.table page))))
  lowest_is page =
      ap₂ (plan_page 0) (gained_count p small (page_at tree.table page)) (gained_live_count p small (page_at tree.table page))
      ∙ sym (finish_is tree p.tick (unwritten tree) page (gain_rows p (rows_of (page_at tree.table page))))

  leaf_is : (page : ℕ) → plan_met (λ (counts : Counts) (row : Row). Ok (plan_cut counts))
      (Ok (met_survey p.tick (page_at tree.table page) (survey_of p.tick p.key (page_at tree.table page))))
      ≡ Ok (outcome (finish_page tree p.tick (unwritten tree) page (leaf_rows p (rows_of (page_at tree.table page)))))
  leaf_is page = go (row_around p (rows_of (page_at tree.table page))) refl
    where
      go : (s : Search Placed) → row_around p (rows_of (page_at tree.table page)) ≡ s →
          plan_met (λ (counts : Counts) (row : Row). Ok (plan_cut counts))
          (Ok (met_around (page_at tree.table page) (the_counts p small (page_at tree.table page)) (place_found s)))
          ≡ Ok (outcome (finish_page tree p.tick (unwritten tree) page (leaf_rows p (rows_of (page_at tree.table page)))))
      go none e =
          ap Ok (lowest_is page)
          ∙ ap (λ (rows : List Row). Ok (outcome (finish_page tree p.tick (unwritten tree) page rows)))
          (sym (leaf_lowest p small (rows_of (page_at tree.table page)) e))
      go (one x) e =
          ap Ok (ap₂ (plan_page 0) (cut_count p small (page_at tree.table page) e) (cut_live_count p small (page_at tree.table page) e)
          ∙ sym (finish_is tree p.tick (unwritten tree) page (leaf_rows p (rows_of (page_at tree.table page)))))

  -- What the plan says of the page below a row
  abbrev below : ℕ → Row → Result PagePlan SpoiledPage
  below l row = plan_from tree.table tree.used p.tick p.key l row.low row.high row.child

  abbrev IsPlan : ℕ → Type 0
  IsPlan l = (low high page : ℕ) →
      plan_from tree.table tree.used p.tick p.key l low high page
      ≡ cond (descent_sound tree p l low high page) (Ok (outcome (enter_from tree p l page))) spoiled

  above_is : (l page : ℕ) → IsPlan l →
      plan_met (λ (counts : Counts) (row : Row). plan_over counts (below l row))
      (Ok (met_survey p.tick (page_at tree.table page) (survey_of p.tick p.key (page_at tree.table page))))
      ≡ cond
      (sound_below (λ (row : Row). descent_sound tree p l row.low row.high row.child)
      (row_around p (rows_of (page_at tree.table page))))
      (Ok (outcome (enter_below tree p page (λ (child : ℕ). enter_from tree p l child) (row_around p (rows_of (page_at tree.table page))))))
      spoiled
  above_is l page ih = go (row_around p (rows_of (page_at tree.table page))) refl
    where
      go : (s : Search Placed) → row_around p (rows_of (page_at tree.table page)) ≡ s →
          plan_met (λ (counts : Counts) (row : Row). plan_over counts (below l row))
          (Ok (met_around (page_at tree.table page) (the_counts p small (page_at tree.table page)) (place_found s)))
          ≡ cond (sound_below (λ (row : Row). descent_sound tree p l row.low row.high row.child) s)
          (Ok (outcome (enter_below tree p page (λ (child : ℕ). enter_from tree p l child) s))) spoiled
      go none e = ap Ok (lowest_is page)
      go (one x) e =
          let counts : Counts = the_counts p small (page_at tree.table page) in
          let so : Written = enter_from tree p l x.row.child in
          let sound : Bool = descent_sound tree p l x.row.low x.row.high x.row.child in
          ap (λ (row : Row). plan_over counts (below l row)) (sym (found_seated p.tick (page_at tree.table page) _ e).same)
          ∙ ap (plan_over counts) (ih x.row.low x.row.high x.row.child)
          ∙ above_test counts sound (outcome so)
          ∙ ap (λ (y : PagePlan). cond sound (Ok y) spoiled)
          (relink_is p small (page_at tree.table page) e so.made so.became
          ∙ sym (finish_is tree p.tick so page (relink_row p.tick x so.became (gain_rows p (rows_of (page_at tree.table page))))))

  -- From any page down, the plan by counts meets a spoiled page where the descent does, and counts the pages that the entry makes
  pub plan_from_is : (level : ℕ) → IsPlan level
  unfolding plan_from met_page met_words descent_sound enter_from
  plan_from_is zero low high page =
      met_tests (λ (counts : Counts) (row : Row). Ok (plan_cut counts)) (in_use tree.used page)
      (sound_at p.tick 0 low high (page_at tree.table page))
      (met_survey p.tick (page_at tree.table page) (survey_of p.tick p.key (page_at tree.table page)))
      ∙ ap (λ (y : Result PagePlan SpoiledPage). cond (met_at tree p.tick 0 low high page) y spoiled) (leaf_is page)
  plan_from_is (suc l) low high page =
      met_tests (λ (counts : Counts) (row : Row). plan_over counts (below l row)) (in_use tree.used page)
      (sound_at p.tick (suc l) low high (page_at tree.table page))
      (met_survey p.tick (page_at tree.table page) (survey_of p.tick p.key (page_at tree.table page)))
      ∙ ap (λ (y : Result PagePlan SpoiledPage). cond (met_at tree p.tick (suc l) low high page) y spoiled) (above_is l page (plan_from_is l))
      ∙ join_tests (met_at tree p.tick (suc l) low high page) _ _ spoiled
