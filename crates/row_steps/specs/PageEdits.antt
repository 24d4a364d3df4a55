-- The steps of an entry on a page's own words, as the code makes them. `proofs/EditedRows` shows that they write the rows of RowSteps.
use Rattle.std.specs.Prelude.{ℕ, ◌<◌, List, cond, eqb, Option, Some, None}
use Rattle.words.specs.declared.value.Value.{Value}
use Rattle.words.specs.Value.{zero}
use Rattle.tree.specs.declared.types.Row.{Row}
use Rattle.tree.specs.RowEdits.{row_in, put_row, end_row, append_row}
use Rattle.tree.specs.Edit.{born_at}
use Rattle.tree.specs.Fresh.{new_row}
use Rattle.tree.specs.RowSteps.{gained, cut_at, linked_to}
use Rattle.tree.specs.declared.types.Became.{Became}
use Rattle.tree.specs.declared.types.Became.TheVariants.{Stays, Copied, Halved}
use Rattle.row_steps.specs.declared.steps.Change.{Change}
use Rattle.row_steps.specs.declared.steps.Change.TheVariants.{Leaf, Lowest, Above}

-- A place that was found is one of the page's n rows
abbrev pub Within : ℕ → Option ℕ → Type 0
Within n None = Unit {0}
Within n (Some place) = place < n

-- Step 4: a row born at t is written over where it is; another one ends at t, and what it becomes is added
abbrev pub replace_words : (t : ℕ) → (page : List ℕ) → (place : ℕ) → Row → Row → List ℕ
replace_words t page place old new =
    cond (eqb old.birth t) (put_row page place new) (append_row (end_row page place t) (born_at t new))

-- Step 3
abbrev pub gain_words : ℕ → Value → List ℕ → Option ℕ → List ℕ
gain_words t v page None = page
gain_words t v page (Some place) = replace_words t page place (row_in page place) (gained v (row_in page place))

-- Step 2
abbrev pub cut_words : (t k : ℕ) → Value → (page : List ℕ) → (place : ℕ) → List ℕ
cut_words t k v page place =
    append_row (replace_words t page place (row_in page place) (cut_at k (row_in page place))) (new_row t k (row_in page place).high 0 v)

-- A leaf: step 2 where a row has the key inside, else step 3
abbrev pub leaf_words : (t k : ℕ) → Value → (page : List ℕ) → Option ℕ → Option ℕ → List ℕ
leaf_words t k v page None gain = gain_words t v page gain
leaf_words t k v page (Some place) gain = cut_words t k v page place

-- Step 7, for the row that stood at the place before step 3
abbrev pub link_words : (t : ℕ) → (page : List ℕ) → (place : ℕ) → Row → Became → List ℕ
link_words t page place old Stays = page
link_words t page place old (Copied c) = replace_words t page place old (linked_to c old)
link_words t page place old (Halved c d) =
    append_row (replace_words t page place old (linked_to c old)) (new_row t d.low d.high d.page zero)

-- What an entry does to one page: above the lowest page step 3, then step 7
abbrev pub change_words : ℕ → Value → List ℕ → Change → List ℕ
change_words t v page (Leaf inner gain k) = leaf_words t k v page inner gain
change_words t v page (Lowest gain) = gain_words t v page gain
change_words t v page (Above place gain became) = link_words t (gain_words t v page gain) place (row_in page place) became

-- The places that it names are those of rows
abbrev pub ChangeWithin : ℕ → Change → Type 0
ChangeWithin n (Leaf inner gain k) = Within n inner × Within n gain
ChangeWithin n (Lowest gain) = Within n gain
ChangeWithin n (Above place gain became) = (place < n) × Within n gain
