-- Entering a point as the code does it: each page is changed as if in a copy with room for more rows, then written back or split.
use Rattle.std.specs.Prelude.{ℕ, ◌+◌, ◌-◌, ◌*◌, ◌≤◌, ◌<◌, ◌≡◌, List, ◌++◌, true, cond, length, take, leb, Option}
use Rattle.words.specs.declared.value.Value.{Value}
use Rattle.tree.specs.Row.{word, rows_of, row_limit, page_words, row_words}
use Rattle.tree.specs.Limits.{most_rows, most_appended, most_made}
use Rattle.live.specs.Survey.{survey_of}
use Rattle.tree.specs.Fresh.{zeros}
use Rattle.tree.specs.declared.types.TreeUse.{TreeUse}
use Rattle.split.specs.declared.done.Done.{Done}
use Rattle.tree.specs.Taking.{HasPages, Takes, rootless}
use Rattle.tree.specs.Tree.{Tree, page_at, put_page, top_level}
use Rattle.tree.specs.RowSteps.{Point}
use Rattle.tree.specs.declared.types.Became.{Became}
use Rattle.tree.specs.declared.types.Became.TheVariants.{Stays}
use Rattle.tree.specs.Enter.{enter_from}
use Rattle.tree.specs.Plan.{descent_sound}
use Rattle.tree.specs.Overflow.{Written, split_page, copied_rows}
use Rattle.split.specs.SplitWords.{scratch_words}
use Rattle.row_steps.specs.declared.steps.Change.{Change}
use Rattle.row_steps.specs.declared.steps.Change.TheVariants.{Leaf, Lowest, Above}
use Rattle.row_steps.specs.PageEdits.{change_words}

-- The words of the rows that one entry may append, and the copy of a page that has room for them
abbrev pub appended_words : ℕ
appended_words = most_appended * row_words

abbrev pub loaded : List ℕ → ℕ → List ℕ
loaded table page = page_at table page ++ zeros appended_words

-- A page of at most so many rows has room for them in its own words
abbrev pub roomy_rows : ℕ
roomy_rows = row_limit - most_appended

abbrev pub made_so : List ℕ → ℕ → Written
made_so table made = record { table = table; made = made; became = Stays }

-- The edited copy goes back into the page's own words, or its live rows into new pages
unfoldable pub settled : TreeUse → (t : ℕ) → Written → (page : ℕ) → (words : List ℕ) → Written
settled used t so page words =
    cond (leb (word words 1) row_limit)
    (record { table = put_page so.table page (take page_words words); made = so.made; became = Stays })
    (split_page (rootless so.table used) t so words (copied_rows t (rows_of words)))

-- What the code answers and leaves is this
pub record DoneAs (so : Written) (table : List ℕ) (done : Done) : Type 0 where
  pub table_is : table ≡ so.table
  pub made_is : done.made ≡ so.made
  pub became_is : done.became ≡ so.became

-- A copy that can be settled: as many words and rows as the code has room for, and pages left for its split
pub record CanSettle (used : TreeUse) (t : ℕ) (so : Written) (page : ℕ) (words : List ℕ) : Type 0 where
  pub size : length words ≡ scratch_words
  pub rows : word words 1 ≤ most_rows
  pub few : so.made < most_made
  pub inside : page * page_words + page_words ≤ length so.table
  pub takes : Takes used
  pub room : HasPages so.table used (settled used t so page words).made

-- An entry from a page down that the plan found sound and that has room
pub record CanEnter (tree : Tree) (p : Point) (level page : ℕ) : Type 0 where
  pub sound : (low : ℕ) × ((high : ℕ) × (descent_sound tree p level low high page ≡ true))
  pub room : HasPages tree.table tree.used (enter_from tree p level page).made
  pub in_table : tree.used.pages * page_words ≤ length tree.table
  pub takes : Takes tree.used
  pub low_level : level ≤ top_level

abbrev pub point_at : ℕ → ℕ → Value → Point
point_at t k v = record { tick = t; key = k; value = v }

-- The copy of a page after a change, and the three changes that a survey of the page leads to
abbrev pub changed : (t : ℕ) → Value → (table : List ℕ) → (page : ℕ) → Change → List ℕ
changed t v table page change = change_words t v (loaded table page) change

abbrev pub leaf_edited : (t k : ℕ) → Value → (table : List ℕ) → (page : ℕ) → List ℕ
leaf_edited t k v table page =
    let s = survey_of t k (page_at table page) in
    changed t v table page (Leaf s.inner s.gain k)

abbrev pub gain_edited : (t : ℕ) → Value → (table : List ℕ) → (page : ℕ) → Option ℕ → List ℕ
gain_edited t v table page gain = changed t v table page (Lowest gain)

abbrev pub link_edited : (t : ℕ) → Value → (table : List ℕ) → (page : ℕ) → Option ℕ → (place : ℕ) → Became → List ℕ
link_edited t v table page gain place became = changed t v table page (Above place gain became)
