-- Entering a point from a page down, in the terms of the code: the level that falls, and the places that a survey of the page finds.
use Prim.Native.Nat.{ℕ, zero, suc, ◌+◌, ◌*◌, ◌-◌, ◌≤◌, ◌<◌}
use native.Mathlib.Omega.{arith}
use mathlib.Core.Path.{◌≡◌, refl, sym, ap, ◌∙◌}
use mathlib.Core.List.{List}
use lib.ListN.{length}
use Rattle.tree.specs.declared.types.Row.{Row}
use Rattle.std.specs.declared.option.Option.TheVariants.{Some, None}
use Rattle.tree.specs.Row.{word, rows_of, row_start, row_words, row_limit, page_words}
use Rattle.tree.specs.RowEdits.{row_in}
use Rattle.tree.specs.KeyOrder.{Placed}
use Rattle.tree.specs.TrueValue.{Search, none, one}
use Rattle.ranges.specs.Nearest.{place_found}
use Rattle.live.specs.declared.survey.Survey.{Survey}
use Rattle.live.specs.Survey.{survey_of, is_around, starts_from}
use Rattle.split.specs.declared.done.Done.{Done}
use Rattle.tree.specs.Tree.{Tree, page_at}
use Rattle.tree.specs.RowSteps.{Point, row_around}
use Rattle.tree.specs.Enter.{enter_from}
use Rattle.row_steps.specs.declared.steps.Change.{Change}
use Rattle.row_steps.specs.declared.steps.Change.TheVariants.{Lowest, Above}
use Rattle.row_steps.specs.PageEdits.{Within, ChangeWithin}
use Rattle.enter.specs.EnterWords.{made_so, settled, changed, CanSettle, CanEnter, DoneAs, leaf_edited, gain_edited, link_edited}
use Rattle.tree.proofs.TableLaws.{page_length}
use Rattle.enter.proofs.StepRows.{Seen, found_seen, found_within}
use Rattle.enter.proofs.EnterLaws.{few_rows, inside, leaf_can, leaf_is, lowest_can, lowest_is, child_can, above_can, above_is, above_rows}

-- What a found place says of the search
none_found : (s : Search Placed) → place_found s ≡ None → s ≡ none
none_found none e = refl
none_found (one x) e = let z : ◌≡◌ {A = ℕ} 0 1 = cc in absurd (omega arith)

record FoundAt (s : Search Placed) (q : ℕ) : Type 0 where
  placed : Placed
  found : s ≡ one placed
  there : placed.place ≡ q

one_found : (s : Search Placed) (q : ℕ) → place_found s ≡ Some q → FoundAt s q
one_found none q e = let z : ◌≡◌ {A = ℕ} 0 1 = cc in absurd (omega arith)
one_found (one x) q e = record { placed = x; found = refl; there = cc }

-- A page that can be settled with these words, which is the whole entry from it down
pub record Settles (tree : Tree) (p : Point) (level page : ℕ) (now : List ℕ) (made : ℕ) (words : List ℕ) : Type 0 where
  pub can : CanSettle tree.used p.tick (made_so now made) page words
  pub is : settled tree.used p.tick (made_so now made) page words ≡ enter_from tree p level page

module _ (tree : Tree) (p : Point) (small : p.tick < 4294967296) (narrow : p.key < 65536) (page : ℕ) where
  abbrev pub page_of : List ℕ
  page_of = page_at tree.table page

  pub gain_within : Within (word (page_at tree.table page) 1) (survey_of p.tick p.key (page_at tree.table page)).gain
  gain_within = found_within p.tick (page_at tree.table page) (starts_from p.key)

  pub leaf_step : (level : ℕ) → level ≡ 0 → CanEnter tree p level page →
      Settles tree p level page tree.table 0 (leaf_edited p.tick p.key p.value tree.table page)
  leaf_step zero e can = record { can = leaf_can tree p small narrow page can; is = leaf_is tree p small narrow page can }
  leaf_step (suc l) e can = absurd (omega arith)

  pub lowest_step : (level : ℕ) → (level ≡ 0 → ⊥) → CanEnter tree p level page →
      (survey_of p.tick p.key (page_at tree.table page)).inner ≡ None →
      Settles tree p level page tree.table 0
      (gain_edited p.tick p.value tree.table page (survey_of p.tick p.key (page_at tree.table page)).gain)
  lowest_step zero n can e = absurd (n refl)
  lowest_step (suc l) n can e =
      let found = none_found (row_around p (rows_of (page_at tree.table page))) e in
      record { can = lowest_can tree p small narrow page l can found; is = lowest_is tree p small narrow page l can found }

  module _ (q : ℕ) (e : (survey_of p.tick p.key (page_at tree.table page)).inner ≡ Some q) where
    found_at : FoundAt (row_around p (rows_of (page_at tree.table page))) q
    found_at = one_found (row_around p (rows_of (page_at tree.table page))) q e

    seen : Seen p.tick (page_at tree.table page) (is_around p.key) found_at.placed
    seen = found_seen p.tick (page_at tree.table page) (is_around p.key) found_at.found

    pub place_inside : q < word (page_at tree.table page) 1
    place_inside = omega (arith, seen.inside, found_at.there)

    row_is : found_at.placed.row ≡ row_in (page_at tree.table page) q
    row_is = sym seen.same ∙ ap (row_in (page_at tree.table page)) found_at.there

    pub child_step : (level : ℕ) → (level ≡ 0 → ⊥) → CanEnter tree p level page → CanEnter tree p (level - 1) (row_in (page_at tree.table page) q).child
    child_step zero n can = absurd (n refl)
    child_step (suc l) n can =
        let same : suc l - 1 ≡ l = omega arith in
        let c = child_can tree p small narrow page l can found_at.placed found_at.found in
        rw same (ap_child found_at.placed.row (row_in (page_at tree.table page) q) row_is c)
      where
        ap_child : (r s : Row) → r ≡ s → CanEnter tree p l r.child → CanEnter tree p l s.child
        ap_child r s f c = let g : r.child ≡ s.child = ap (λ (x : Row). x.child) f in rw g at c

    pub above_step : (level : ℕ) → (level ≡ 0 → ⊥) → CanEnter tree p level page → (done : Done) (now : List ℕ) →
        DoneAs (enter_from tree p (level - 1) (row_in (page_at tree.table page) q).child) now done →
        (word (page_at now page) 1 ≡ word (page_at tree.table page) 1)
        × Settles tree p level page now done.made
        (link_edited p.tick p.value now page (survey_of p.tick p.key (page_at tree.table page)).gain q done.became)
    above_step zero n can done now is = absurd (n refl)
    above_step (suc l) n can done now is =
        let same : suc l - 1 ≡ l = omega arith in
        let x : Placed = found_at.placed in
        let child : (row_in (page_at tree.table page) q).child ≡ x.row.child = sym (ap (λ (r : Row). r.child) row_is) in
        let is' : DoneAs (enter_from tree p l x.row.child) now done = rw (same, child) at is in
        let place : x.place ≡ q = found_at.there in
        let can' = above_can tree p small narrow page l can x found_at.found done now is' in
        let fin = above_is tree p small narrow page l can x found_at.found done now is' in
        (above_rows tree p small narrow page l can x found_at.found done now is', record { can = rw place at can'; is = rw place at fin })

-- A change that the code may make to a page, and that ends the entry from it down
pub record Completes (tree : Tree) (p : Point) (level page : ℕ) (now : List ℕ) (made : ℕ) (change : Change) : Type 0 where
  pub few : word (page_at now page) 1 ≤ row_limit
  pub within : ChangeWithin (word (page_at now page) 1) change
  pub can : CanSettle tree.used p.tick (made_so now made) page (changed p.tick p.value now page change)
  pub is : settled tree.used p.tick (made_so now made) page (changed p.tick p.value now page change) ≡ enter_from tree p level page

module _ {tree : Tree} {p : Point} {level page : ℕ} (can : CanEnter tree p level page) (small : p.tick < 4294967296) (narrow : p.key < 65536) where
  pub words_inside : page * page_words + page_words ≤ length tree.table
  words_inside = inside tree p small narrow level page can

  pub words_few : word (page_at tree.table page) 1 ≤ row_limit
  words_few = few_rows tree p small narrow level page can

  module _ {words : List ℕ} (words_are : words ≡ page_at tree.table page) where
    pub words_long : length words ≡ page_words
    words_long = ap length words_are ∙ page_length tree.table page words_inside

    -- Above the leaves, by what the survey of these words found
    module _ {survey : Survey} (survey_is : survey ≡ survey_of p.tick p.key words) (above : level ≡ 0 → ⊥) where
      page_survey : survey ≡ survey_of p.tick p.key (page_at tree.table page)
      page_survey = survey_is ∙ ap (survey_of p.tick p.key) words_are

      gain_is : survey.gain ≡ (survey_of p.tick p.key (page_at tree.table page)).gain
      gain_is = ap (λ (s : Survey). s.gain) page_survey

      gain_inside : Within (word (page_at tree.table page) 1) survey.gain
      gain_inside = rw gain_is (gain_within tree p small narrow page)

      pub lowest_completes : survey.inner ≡ None → Completes tree p level page tree.table 0 (Lowest survey.gain)
      lowest_completes missing =
          let step = lowest_step tree p small narrow page level above can (sym (ap (λ (s : Survey). s.inner) page_survey) ∙ missing) in
          record { few = words_few; within = gain_inside; can = rw gain_is step.can; is = rw gain_is step.is }

      module _ {place : ℕ} (found : survey.inner ≡ Some place) where
        place_is : (survey_of p.tick p.key (page_at tree.table page)).inner ≡ Some place
        place_is = sym (ap (λ (s : Survey). s.inner) page_survey) ∙ found

        place_low : place < word (page_at tree.table page) 1
        place_low = place_inside tree p small narrow page place place_is

        pub row_inside : row_start place + row_words ≤ length words
        row_inside = omega (arith, place_low, words_few, words_long)

        module _ {row : Row} (row_is : row ≡ row_in words place) where
          child_is : row.child ≡ (row_in (page_at tree.table page) place).child
          child_is = ap (λ (r : Row). r.child) (row_is ∙ ap (λ (w : List ℕ). row_in w place) words_are)

          pub child_enters : CanEnter tree p (level - 1) row.child
          child_enters = rw child_is (child_step tree p small narrow page place place_is level above can)

          pub above_completes : {done : Done} {now : List ℕ} → DoneAs (enter_from tree p (level - 1) row.child) now done →
              Completes tree p level page now done.made (Above place survey.gain done.became)
          above_completes {done} {now} below =
              let step = above_step tree p small narrow page place place_is level above can done now (rw child_is at below) in
              record {
                few = omega (arith, step.0, words_few);
                within = (omega (arith, step.0, place_low), rw step.0 gain_inside);
                can = rw gain_is step.1.can;
                is = rw gain_is step.1.is;
              }
