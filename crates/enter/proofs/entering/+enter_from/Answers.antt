use borrow.Author.Rules.{rules}
use Rattle.enter.proofs.EnterSteps.{leaf_step, words_inside, words_few, words_long, row_inside, child_enters, lowest_completes, above_completes}
use Rattle.enter.proofs.entering.+enter_from.Goals as goal

pub enter_leaf-requires : goal.enter_leaf-requires
enter_leaf-requires t c =
    let a = c.args in
    record {
      page_bound = words_few c.requires c.ranges.t.fits c.ranges.k.fits;
      can_settle = (leaf_step _ _ c.ranges.t.fits c.ranges.k.fits a.page a.level c.if-level-eq0.true c.requires).can;
    }

pub returns-then-level-eq0 : goal.returns-then-level-eq0
returns-then-level-eq0 t c =
    let a = c.args in
    let leaf = leaf_step _ _ c.ranges.t.fits c.ranges.k.fits a.page a.level c.if-level-eq0.true c.requires in
    rw leaf.is at c.enter_leaf.ensures

pub page_at-words-requires : goal.page_at-words-requires
page_at-words-requires t c = words_inside c.requires c.ranges.t.fits c.ranges.k.fits

pub survey_page-survey-requires : goal.survey_page-survey-requires
survey_page-survey-requires t c =
    record {
      page_len = words_long c.requires c.ranges.t.fits c.ranges.k.fits c.page_at-words.ensures;
      page_bound = rw c.page_at-words.ensures (words_few c.requires c.ranges.t.fits c.ranges.k.fits);
    }

pub change_page-requires : goal.change_page-requires
change_page-requires t c =
    let lowest = lowest_completes c.requires c.ranges.t.fits c.ranges.k.fits c.page_at-words.ensures c.survey_page-survey.ensures c.if-level-eq0.false c.in_default.is in
    record { page_bound = lowest.few; change_within = lowest.within; can_settle = lowest.can }

pub returns-in_default : goal.returns-in_default
returns-in_default t c =
    let lowest = lowest_completes c.requires c.ranges.t.fits c.ranges.k.fits c.page_at-words.ensures c.survey_page-survey.ensures c.if-level-eq0.false c.in_default.is in
    rw lowest.is at c.change_page.ensures

pub row_at-row-requires : goal.row_at-row-requires
row_at-row-requires t c =
    row_inside c.requires c.ranges.t.fits c.ranges.k.fits c.page_at-words.ensures c.survey_page-survey.ensures c.if-level-eq0.false c.in-Some.is

pub enter_from-below-requires : goal.enter_from-below-requires
enter_from-below-requires t c = (
  search rules,
  child_enters c.requires c.ranges.t.fits c.ranges.k.fits c.page_at-words.ensures c.survey_page-survey.ensures c.if-level-eq0.false c.in-Some.is
      c.row_at-row.ensures,
)

pub change_page-requires-2 : goal.change_page-requires-2
change_page-requires-2 t c =
    let above = above_completes c.requires c.ranges.t.fits c.ranges.k.fits c.page_at-words.ensures c.survey_page-survey.ensures c.if-level-eq0.false c.in-Some.is
    c.row_at-row.ensures c.enter_from-below.ensures in
    record { page_bound = above.few; change_within = above.within; can_settle = above.can }

pub returns : goal.returns
returns t c =
    let above = above_completes c.requires c.ranges.t.fits c.ranges.k.fits c.page_at-words.ensures c.survey_page-survey.ensures c.if-level-eq0.false c.in-Some.is
    c.row_at-row.ensures c.enter_from-below.ensures in
    rw above.is at c.change_page-2.ensures
