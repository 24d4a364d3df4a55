-- The plan by counts alone: what a page becomes depends on how many rows it has and how many of them are live, so no row is made.
-- PlanLaws proves that the counts are those of the rows that document 01's steps make.
use Rattle.std.specs.Prelude.{ℕ, zero, suc, ◌+◌, ◌-◌, ◌≤◌, List, cond, length, leb, eqb, Option, Some, None, Result, Ok, Err, IfOk}
use Rattle.words.specs.Words.{root_birth}
use Rattle.tree.specs.declared.types.Row.{Row}
use Rattle.live.specs.declared.survey.Survey.{Survey}
use Rattle.tree.specs.declared.types.TreeUse.{TreeUse}
use Rattle.tree.specs.Use.{in_use}
use Rattle.tree.specs.Row.{row_at, row_start, row_words, row_limit, copy_limit}
use Rattle.tree.specs.PageTest.{sound_at}
use Rattle.live.specs.Survey.{survey_of}
use Rattle.plan.specs.declared.planning.Counts.{Counts}
use Rattle.plan.specs.declared.planning.Met.{Met}
use Rattle.plan.specs.declared.planning.PagePlan.{PagePlan}
use Rattle.tree.specs.declared.types.Plan.{Plan}
use Rattle.tree.specs.declared.types.SpoiledPage.{SpoiledPage}
use Rattle.tree.specs.Spoiled.{spoiled}
use Rattle.tree.specs.Plan.{ready}
use Rattle.tree.specs.declared.types.RootChange.TheVariants.{Kept, Added, Replaced}
use Rattle.tree.specs.Tree.{page_at, top_level}

-- The row at the place lies in these words
abbrev pub InWords : List ℕ → Option ℕ → Type 0
InWords words None = Unit {0}
InWords words (Some p) = row_start p + row_words ≤ length words

-- "A row born at t is altered where it is, not ended": the rows appended where a row is replaced, besides its further rows
abbrev pub appended : ℕ → List ℕ → Option ℕ → ℕ
appended t words None = 0
appended t words (Some p) = cond (eqb (row_at words (row_start p)).birth t) 0 1

abbrev pub counts_of : ℕ → List ℕ → Survey → Counts
counts_of t words s = record { rows = s.rows; live = s.live; gain = appended t words s.gain; inner = appended t words s.inner }

-- The row at a place, where one was found
abbrev pub row_found : List ℕ → Option ℕ → Option Row
row_found words None = None
row_found words (Some p) = Some (row_at words (row_start p))

abbrev pub met_around : List ℕ → Counts → Option ℕ → Met
met_around words counts pl = record { counts = counts; around = row_found words pl }

abbrev pub met_survey : ℕ → List ℕ → Survey → Met
met_survey t words s = met_around words (counts_of t words s) s.inner

unfoldable pub met_words : (t k level low high : ℕ) → (words : List ℕ) → Result Met SpoiledPage
met_words t k level low high words = cond (sound_at t level low high words) (Ok (met_survey t words (survey_of t k words))) spoiled

unfoldable pub met_page : (table : List ℕ) → TreeUse → (t k level low high page : ℕ) → Result Met SpoiledPage
met_page table used t k level low high page = cond (in_use used page) (met_words t k level low high (page_at table page)) spoiled

-- "Over 64 rows, the page overflows"; "Over 40 of them go to two pages"
abbrev pub parts_of : ℕ → ℕ → ℕ
parts_of rows live = cond (leb rows row_limit) 0 (cond (leb live copy_limit) 1 2)

unfoldable pub plan_page : ℕ → ℕ → ℕ → PagePlan
plan_page made rows live = record { made = made + parts_of rows live; parts = parts_of rows live }

-- Steps 3 and 7: a page that takes the rows of the child beside the first gets a further row, which is live
unfoldable pub plan_above : Counts → PagePlan → PagePlan
plan_above counts below =
    cond (eqb below.parts 0)
    (plan_page below.made (counts.rows + counts.gain) counts.live)
    (plan_page below.made (counts.rows + counts.gain + counts.inner + (below.parts - 1)) (counts.live + (below.parts - 1)))

abbrev pub plan_over : Counts → Result PagePlan SpoiledPage → Result PagePlan SpoiledPage
plan_over counts (Err e) = Err e
plan_over counts (Ok below) = Ok (plan_above counts below)

-- Step 3 alone
abbrev pub plan_lowest : Counts → PagePlan
plan_lowest counts = plan_page 0 (counts.rows + counts.gain) counts.live

-- Step 2: the row around the key is replaced, and one row more follows it
abbrev pub plan_cut : Counts → PagePlan
plan_cut counts = plan_page 0 (counts.rows + counts.inner + 1) (counts.live + 1)

abbrev pub plan_found : (Row → Result PagePlan SpoiledPage) → Counts → Option Row → Result PagePlan SpoiledPage
plan_found around counts None = Ok (plan_lowest counts)
plan_found around counts (Some row) = around row

abbrev pub plan_met : (Counts → Row → Result PagePlan SpoiledPage) → Result Met SpoiledPage → Result PagePlan SpoiledPage
plan_met around (Err e) = Err e
plan_met around (Ok m) = plan_found (around m.counts) m.counts m.around

unfoldable pub plan_from : (table : List ℕ) → TreeUse → (t k level low high page : ℕ) → Result PagePlan SpoiledPage
plan_from table used t k zero low high page = plan_met (λ (counts : Counts) (row : Row). Ok (plan_cut counts))
    (met_page table used t k 0 low high page)
plan_from table used t k (suc l) low high page =
    plan_met (λ (counts : Counts) (row : Row). plan_over counts (plan_from table used t k l row.low row.high row.child))
    (met_page table used t k (suc l) low high page)

-- Step 8, and "a level 3 root whose rows must go to two pages"
unfoldable pub plan_top : (made parts top last t : ℕ) → Result Plan SpoiledPage
plan_top made parts top last t =
    cond (eqb parts 0)
    (ready made Kept)
    (cond (eqb parts 1)
    (ready made (cond (eqb (root_birth last) t) Replaced Added))
    (cond (eqb top top_level) spoiled (ready (made + 1) (cond (eqb (root_birth last) t) Replaced Added))))

-- The numbers are small
pub record Few (counts : Counts) : Type 0 where
  pub few_rows : counts.rows ≤ row_limit
  pub few_live : counts.live ≤ row_limit
  pub few_gain : counts.gain ≤ 1
  pub few_inner : counts.inner ≤ 1

abbrev pub FewMet : Result Met SpoiledPage → Type 0
FewMet r = IfOk r (λ m. Few m.counts)

abbrev pub FewParts : ℕ → PagePlan → Type 0
FewParts limit planned = (planned.made ≤ limit) × (planned.parts ≤ 2)
