use Prim.Native.Nat.{ℕ}
use mathlib.Core.Path.{◌≡◌, ap, ◌∙◌}
use mathlib.Core.List.{List}
use lib.ListN.{length}
use Rattle.tree.specs.Tree.{page_at}
use Rattle.live.specs.Survey.{survey_of, is_around, starts_from}
use Rattle.tree.proofs.TableLaws.{page_length}
use Rattle.enter.proofs.StepRows.{found_within}
use Rattle.enter.proofs.entering.enter_leaf.Goals as goal

pub page_at-requires : goal.page_at-requires
page_at-requires c = c.requires.can_settle.inside

pub survey_page-survey-requires : goal.survey_page-survey-requires
survey_page-survey-requires c =
    let a = c.args in
    record {
      page_len = ap length c.page_at.ensures ∙ page_length a.table.now a.page c.requires.can_settle.inside;
      page_bound = rw c.page_at.ensures c.requires.page_bound;
    }

pub change_page-requires : goal.change_page-requires
change_page-requires c =
    let a = c.args in
    let page : List ℕ = page_at a.table.now a.page in
    let found : c.survey_page-survey.result ≡ survey_of a.t a.k page =
    c.survey_page-survey.ensures ∙ ap (survey_of a.t a.k) c.page_at.ensures in
    record {
      page_bound = c.requires.page_bound;
      change_within = rw found (found_within a.t page (is_around a.k), found_within a.t page (starts_from a.k));
      can_settle = rw found c.requires.can_settle;
    }

pub returns : goal.returns
returns c =
    let a = c.args in
    let page : List ℕ = page_at a.table.now a.page in
    let found : c.survey_page-survey.result ≡ survey_of a.t a.k page =
    c.survey_page-survey.ensures ∙ ap (survey_of a.t a.k) c.page_at.ensures in
    rw found at c.change_page.ensures
