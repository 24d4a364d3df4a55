-- What the plan reads of a page: the rows it looks up lie in the page's words, and a survey says what step 1 meets.
use Prim.Native.Nat.{ℕ, ◌+◌, ◌*◌, ◌≤◌}
use native.Mathlib.Omega.{arith}
use mathlib.Core.Path.{◌≡◌, refl, sym, ap, subst, ◌∙◌}
use mathlib.Core.Bool.{Bool, true, false, cond, ◌&&◌, and-eq-true_iff}
use mathlib.Core.List.{List}
use lib.ListN.{length}
use borrow.Author.Tests.{eq-eqb, ne_eqb}
use Rattle.tree.specs.declared.types.Row.{Row}
use Rattle.tree.specs.declared.pages.TreePages.{TreePages}
use Rattle.tree.specs.declared.pages.ExpectedPage.{ExpectedPage}
use Rattle.std.specs.Prelude.{Option, Some, Result, Ok, Err}
use Rattle.tree.specs.declared.types.SpoiledPage.{SpoiledPage}
use Rattle.tree.specs.Spoiled.{spoiled}
use Rattle.live.specs.declared.survey.Survey.{Survey}
use Rattle.tree.specs.Row.{word, row_at, row_start, row_words, rows_of, row_limit, page_words}
use Rattle.tree.specs.KeyOrder.{Placed, key_order}
use Rattle.tree.specs.TrueValue.{Search, none, one, first}
use Rattle.tree.specs.PageTest.{sound_at}
use Rattle.ranges.specs.Nearest.{place_found}
use Rattle.live.specs.Survey.{starts_from, is_around, survey_of}
use Rattle.tree.specs.Tree.{page_at, met_at}
use Rattle.tree.specs.Use.{in_use}
use Rattle.tree.specs.Taking.{tree_of_pages}
use Rattle.tree.proofs.Answered.{not_spoiled, same_answer}
use Rattle.tree.proofs.TableLaws.{page_length}
use Rattle.live.proofs.LiveReadings.{met_inside, met_few}
use Rattle.plan.specs.declared.planning.Met.{Met}
use Rattle.plan.specs.PlanSteps.{InWords, appended, met_survey, met_words, met_page}
use Rattle.plan.proofs.PlanLaws.{found_seated}

module _ (t : ℕ) (words : List ℕ) where
  pub in_words : {pl : Option ℕ} {p : ℕ} → pl ≡ Some p → InWords words pl → row_start p + row_words ≤ length words
  in_words e h = subst (λ (q : Option ℕ). InWords words q) e h

  -- What replacing a row costs, from the row itself
  module _ {pl : Option ℕ} {p : ℕ} {r : Row} (at : pl ≡ Some p) (is : r ≡ row_at words (row_start p)) where
    pub altered : r.birth ≡ t → appended t words pl ≡ 0
    altered e =
        let birth : (row_at words (row_start p)).birth ≡ t = ap (λ (s : Row). s.birth) (sym is) ∙ e in
        ap (appended t words) at ∙ rw (eq-eqb (row_at words (row_start p)).birth t birth)

    pub replaced : (r.birth ≡ t → ⊥) → appended t words pl ≡ 1
    replaced n =
        let birth : (row_at words (row_start p)).birth ≡ t → ⊥ = λ e. n (ap (λ (s : Row). s.birth) is ∙ e) in
        ap (appended t words) at ∙ rw (ne_eqb (row_at words (row_start p)).birth t birth)

  found_in_lem : word words 1 ≤ row_limit → length words ≡ page_words → (test : Placed → Bool) →
      InWords words (place_found (first test (key_order t (rows_of words))))
  found_in_lem few long test = go (first test (key_order t (rows_of words))) refl
    where
      go : (s : Search Placed) → first test (key_order t (rows_of words)) ≡ s → InWords words (place_found s)
      go none e = tt
      go (one x) e = omega (arith, (found_seated t words test e).within)

-- The answer of a survey in the table, taken apart
module _ (pages : TreePages) (t k : ℕ) (e : ExpectedPage) where
  abbrev words : List ℕ
  words = page_at pages.table.now e.page

  abbrev meets : Bool
  meets = met_at (tree_of_pages pages) t e.level e.low e.high e.page

  abbrev sound : Bool
  sound = sound_at t e.level e.low e.high words

  abbrev met_here : Result Met SpoiledPage
  met_here = met_page pages.table.now pages.used t k e.level e.low e.high e.page

  abbrev met_by : Bool → Result Survey SpoiledPage
  met_by b = cond b (Ok (survey_of t k words)) spoiled

  pub met_spoiled : {error : SpoiledPage} → Err error ≡ met_by meets → Err error ≡ met_here
  unfolding met_page met_words
  met_spoiled {error} f = go (in_use pages.used e.page) sound f
    where
      go : (a b : Bool) → Err error ≡ met_by (a && b) → Err error ≡ cond a (cond b (Ok (met_survey t words (survey_of t k words))) spoiled) spoiled
      go true true g = not_spoiled g
      go true false g = refl
      go false b g = refl

  module _ {s : Survey} (is : Ok s ≡ met_by meets) where
    sound_of : (meets ≡ true) × (survey_of t k words ≡ s)
    sound_of = go meets refl is
      where
        go : (b : Bool) → meets ≡ b → Ok s ≡ met_by b → (meets ≡ true) × (survey_of t k words ≡ s)
        go true f g = (f, sym (same_answer g))
        go false f g = not_spoiled (sym g)

    pub met_sound : Ok (met_survey t words s) ≡ met_here
    unfolding met_page met_words
    met_sound =
        let f = sound_of in
        let tests = (and-eq-true_iff (in_use pages.used e.page) sound).0 f.0 in
        ap (λ (q : Survey). Ok (met_survey t words q)) (sym f.1) ∙ rw (tests.0, tests.1)

    -- The page lies in the table, and the rows that were found lie in the page
    pub sound_inside : e.page * page_words + page_words ≤ length pages.table.now
    sound_inside = met_inside pages t e sound_of.0

    found_inside : (test : Placed → Bool) → InWords words (place_found (first test (key_order t (rows_of words))))
    found_inside = found_in_lem t words (met_few pages t e sound_of.0) (page_length pages.table.now e.page sound_inside)

    pub gain_in_lem : InWords words s.gain
    gain_in_lem = subst (λ (q : Survey). InWords words q.gain) sound_of.1 (found_inside (starts_from k))

    pub inner_in : InWords words s.inner
    inner_in = subst (λ (q : Survey). InWords words q.inner) sound_of.1 (found_inside (is_around k))
