-- How many rows and words a page has after its rows were edited.
use Prim.Native.Nat.{ℕ, ◌+◌, ◌≤◌, ◌<◌}
use native.Mathlib.Omega.{arith}
use mathlib.Core.Path.{◌≡◌, refl, ◌∙◌}
use mathlib.Core.Bool.{Bool, true, false, cond}
use mathlib.Core.List.{List, [], ◌∷◌}
use lib.Dec.{eqb}
use lib.ListN.{length}
use Rattle.words.proofs.OverwriteLaws.{overwrite_length, word_inside}
use Rattle.tree.specs.declared.types.Row.{Row}
use Rattle.tree.specs.Row.{word, row_at, row_start, row_words}
use Rattle.tree.specs.Limits.{most_appended}
use Rattle.tree.specs.RowEdits.{row_in, put_row, end_row, append_row}
use Rattle.tree.specs.Edit.{ended, born_at}
use Rattle.tree.proofs.PageCodec.{put_length, put_before}
use Rattle.words.specs.declared.value.Value.{Value}
use Rattle.words.specs.Value.{zero}
use Rattle.tree.specs.Fresh.{new_row}
use Rattle.std.specs.declared.option.Option.{Option}
use Rattle.std.specs.declared.option.Option.TheVariants.{Some, None}
use Rattle.tree.specs.RowSteps.{gained, cut_at, linked_to}
use Rattle.tree.specs.declared.types.Became.{Became}
use Rattle.tree.specs.declared.types.Became.TheVariants.{Stays, Copied, Halved}
use Rattle.row_steps.specs.declared.steps.Change.{Change}
use Rattle.row_steps.specs.declared.steps.Change.TheVariants.{Leaf, Lowest, Above}
use Rattle.row_steps.specs.PageEdits.{replace_words, gain_words, link_words, change_words, Within, ChangeWithin}

module _ (page : List ℕ) (r : Row) (room : row_start (word page 1 + 1) ≤ length page) where
  put_fits : row_start (word page 1) + row_words ≤ length page
  put_fits = omega arith

  one_room : 1 + 1 ≤ length (put_row page (word page 1) r)
  one_room = omega (arith, put_length page (word page 1) r put_fits)

  pub append_size : length (append_row page r) ≡ length page
  append_size = overwrite_length (put_row page (word page 1) r) 1 ((word page 1 + 1) ∷ []) one_room ∙ put_length page (word page 1) r put_fits

  pub append_count : word (append_row page r) 1 ≡ word page 1 + 1
  append_count = word_inside (put_row page (word page 1) r) 1 ((word page 1 + 1) ∷ []) one_room 0 (omega arith)

-- What is known of a page after an edit that adds at most n rows
pub record Grown (n : ℕ) (page after : List ℕ) : Type 0 where
  pub size : length after ≡ length page
  pub rows : word after 1 ≤ word page 1 + n
  pub least : word page 1 ≤ word after 1

-- Edits that add at most m rows and then at most n
grown_further : (m n l : ℕ) (page mid after : List ℕ) → Grown m page mid → Grown n mid after → m + n ≤ l → Grown l page after
grown_further m n l page mid after g h most =
    record { size = h.size ∙ g.size; rows = omega (arith, g.rows, h.rows); least = omega (arith, g.least, h.least) }

grown_not : (n : ℕ) (page : List ℕ) → Grown n page page
grown_not n page = record { size = refl; rows = omega arith; least = omega arith }

append_grown : (page : List ℕ) (r : Row) → row_start (word page 1 + 1) ≤ length page → Grown 1 page (append_row page r)
append_grown page r room =
    let count = append_count page r room in
    record { size = append_size page r room; rows = omega arith; least = omega arith }

module _ (page : List ℕ) (place : ℕ) (inside : place < word page 1) (room : row_start (word page 1 + 1) ≤ length page) where
  fits : row_start place + row_words ≤ length page
  fits = omega arith

  pub put_grown : (r : Row) → Grown 1 page (put_row page place r)
  put_grown r =
      let one = put_before page place r fits 1 (omega arith) in
      record { size = put_length page place r fits; rows = omega arith; least = omega arith }

  pub end_count : (t : ℕ) → word (end_row page place t) 1 ≡ word page 1
  end_count t = put_before page place (ended t (row_at page (row_start place))) fits 1 (omega arith)

  end_size : (t : ℕ) → length (end_row page place t) ≡ length page
  end_size t = put_length page place (ended t (row_at page (row_start place))) fits

  pub end_room : (t : ℕ) → row_start (word (end_row page place t) 1 + 1) ≤ length (end_row page place t)
  end_room t = omega (arith, end_count t, end_size t)

  pub replace_grown : (t : ℕ) (old new : Row) → Grown 1 page (replace_words t page place old new)
  replace_grown t old new = go (eqb old.birth t)
    where
      go : (b : Bool) → Grown 1 page (cond b (put_row page place new) (append_row (end_row page place t) (born_at t new)))
      go true = put_grown new
      go false =
          let one = append_grown (end_row page place t) (born_at t new) (end_room t) in
          record {
            size = one.size ∙ end_size t;
            rows = omega (arith, one.rows, end_count t);
            least = omega (arith, one.least, end_count t);
          }

-- A row replaced and another one added
module _ (page : List ℕ) (place : ℕ) (inside : place < word page 1) (room : row_start (word page 1 + 2) ≤ length page) where
  pub replace_and_more : (t : ℕ) (old new more : Row) → Grown 2 page (append_row (replace_words t page place old new) more)
  replace_and_more t old new more =
      let one = replace_grown page place inside (omega arith) t old new in
      grown_further 1 1 2 page (replace_words t page place old new) (append_row (replace_words t page place old new) more) one
      (append_grown (replace_words t page place old new) more (omega (arith, one.size, one.rows))) (omega arith)

  -- Step 7 adds at most two rows
  link_grown : (t : ℕ) (old : Row) (became : Became) → Grown 2 page (link_words t page place old became)
  link_grown t old Stays = grown_not 2 page
  link_grown t old (Copied c) =
      let one = replace_grown page place inside (omega arith) t old (linked_to c old) in
      grown_further 1 0 2 page _ _ one (grown_not 0 _) (omega arith)
  link_grown t old (Halved c d) = replace_and_more t old (linked_to c old) (new_row t d.low d.high d.page zero)

-- Step 3 adds at most one row
pub gain_grown : (t : ℕ) (v : Value) (page : List ℕ) (gain : Option ℕ) → Within (word page 1) gain → row_start (word page 1 + 1) ≤ length page →
    Grown 1 page (gain_words t v page gain)
gain_grown t v page None inside room = grown_not 1 page
gain_grown t v page (Some place) inside room = replace_grown page place inside room t (row_in page place) (gained v (row_in page place))

-- An entry adds at most three rows to a page
pub change_grown : (t : ℕ) (v : Value) (page : List ℕ) (change : Change) → ChangeWithin (word page 1) change → row_start (word page 1 + most_appended) ≤ length page →
    Grown most_appended page (change_words t v page change)
change_grown t v page (Leaf None gain k) inside room =
    grown_further 1 0 most_appended page _ _ (gain_grown t v page gain inside.1 (omega arith)) (grown_not 0 _) (omega arith)
change_grown t v page (Leaf (Some place) gain k) inside room =
    let row : Row = row_in page place in
    grown_further 2 0 most_appended page _ _ (replace_and_more page place inside.0 (omega arith) t row (cut_at k row) (new_row t k row.high 0 v)) (grown_not 0 _) (omega arith)
change_grown t v page (Lowest gain) inside room =
    grown_further 1 0 most_appended page _ _ (gain_grown t v page gain inside (omega arith)) (grown_not 0 _) (omega arith)
change_grown t v page (Above place gain became) inside room =
    let one = gain_grown t v page gain inside.1 (omega arith) in
    grown_further 1 2 most_appended page (gain_words t v page gain) _ one
    (link_grown (gain_words t v page gain) place (omega (arith, inside.0, one.least)) (omega (arith, one.size, one.rows)) t (row_in page place) became) (omega arith)
