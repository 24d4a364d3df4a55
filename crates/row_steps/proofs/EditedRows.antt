-- The steps of an entry on a page's words leave the page with the rows that the steps say: one law a step.
use Prim.Native.Nat.{ℕ, ◌+◌, ◌≤◌, ◌<◌}
use native.Mathlib.Omega.{arith}
use mathlib.Core.Path.{◌≡◌, sym, ap, ◌∙◌}
use mathlib.Core.Bool.{Bool, true, false, cond}
use mathlib.Core.List.{List, [], ◌∷◌, ◌++◌, append_assoc, append-nil}
use lib.Dec.{eqb}
use lib.ListN.{length, set, length-set, length-append}
use Rattle.words.specs.Lists.{All}
use Rattle.tree.specs.declared.types.Row.{Row}
use Rattle.tree.specs.Row.{word, row_start, rows_of, header_words}
use Rattle.tree.specs.RowEdits.{row_in, put_row, end_row, append_row}
use Rattle.tree.specs.KeyOrder.{Placed}
use Rattle.tree.specs.Edit.{ended, born_at, with_rows}
use Rattle.tree.proofs.Lists.{all_set, all_append}
use Rattle.tree.proofs.PageCodec.{Fits, row_fits_lem, rows_fit, rows_length, with_length, with_count, with_rows_lem}
use Rattle.rows.proofs.WithRows.{put_is_with, append_is_with, with_with}
use Rattle.tree.specs.RowSteps.{replace_row}
use Rattle.row_steps.specs.PageEdits.{replace_words}

-- A page with n rows before, and rows after
pub append_to_with : (page : List ℕ) (rows : List Row) (r : Row) → All Fits rows → row_start (length rows + 1) ≤ length page →
    append_row (with_rows page rows) r ≡ with_rows page (rows ++ (r ∷ []))
append_to_with page rows r fit room =
    let small : row_start (length rows) ≤ length page = omega arith in
    let count : word (with_rows page rows) 1 ≡ length rows = with_count page rows small in
    let size : length (with_rows page rows) ≡ length page = with_length page rows small in
    let longer : length (rows ++ (r ∷ [])) ≡ length rows + 1 = length-append rows (r ∷ []) in
    append_is_with (with_rows page rows) r (omega arith)
    ∙ ap (λ (xs : List Row). with_rows (with_rows page rows) (xs ++ (r ∷ []))) (with_rows_lem page rows small fit)
    ∙ with_with page rows (rows ++ (r ∷ [])) (omega arith) (omega arith)

-- The row at a place of a page
abbrev pub placed_in : ℕ → Row → Placed
placed_in place r = record { place = place; row = r }

module _ (t : ℕ) (page : List ℕ) (place : ℕ) (old : Row) (inside : place < word page 1) (is_old : row_in page place ≡ old) (room : row_start (word page 1 + 1) ≤ length page) where
  count_rows : length (rows_of page) ≡ word page 1
  count_rows = rows_length page header_words (word page 1)

  old_fits : Fits old
  old_fits = rw (← is_old) (row_fits_lem page (row_start place))

  rows_fits : All Fits (rows_of page)
  rows_fits = rows_fit page header_words (word page 1)

  stopped_fits : All Fits (set (rows_of page) place (ended t old))
  stopped_fits = all_set Fits (rows_of page) place (ended t old) (record { low = old_fits.low; high = old_fits.high; birth = old_fits.birth }) rows_fits

  pub replaced_fits : (new : Row) (further : List Row) → t < 4294967296 → Fits new → All Fits further → All Fits (replace_row t (placed_in place old) new further (rows_of page))
  replaced_fits new further small n f = go (eqb old.birth t)
    where
      go : (b : Bool) → All Fits (cond b (set (rows_of page) place new ++ further) (set (rows_of page) place (ended t old) ++ (born_at t new ∷ further)))
      go true = all_append Fits (set (rows_of page) place new) further (all_set Fits (rows_of page) place new n rows_fits) f
      go false = all_append Fits (set (rows_of page) place (ended t old)) (born_at t new ∷ further) stopped_fits (record { low = n.low; high = n.high; birth = small }, f)

  pub replaced_length : (new : Row) → (length (replace_row t (placed_in place old) new [] (rows_of page)) ≤ word page 1 + 1) × (word page 1 ≤ length (replace_row t (placed_in place old) new [] (rows_of page)))
  replaced_length new = go (eqb old.birth t)
    where
      go : (b : Bool) →
          (length (cond b (set (rows_of page) place new ++ []) (set (rows_of page) place (ended t old) ++ (born_at t new ∷ []))) ≤ word page 1 + 1)
          × (word page 1 ≤ length (cond b (set (rows_of page) place new ++ []) (set (rows_of page) place (ended t old) ++ (born_at t new ∷ []))))
      go true =
          let l = length-append (set (rows_of page) place new) [] in
          omega (arith, length-set (rows_of page) place new, count_rows)
      go false =
          let l = length-append (set (rows_of page) place (ended t old)) (born_at t new ∷ []) in
          omega (arith, length-set (rows_of page) place (ended t old), count_rows)

  pub replaced_most : (new : Row) (further : List Row) → length (replace_row t (placed_in place old) new further (rows_of page)) ≤ word page 1 + 1 + length further
  replaced_most new further = go (eqb old.birth t)
    where
      go : (b : Bool) →
          length (cond b (set (rows_of page) place new ++ further) (set (rows_of page) place (ended t old) ++ (born_at t new ∷ further))) ≤ word page 1 + 1 + length further
      go true = let l = length-append (set (rows_of page) place new) further in omega (arith, length-set (rows_of page) place new, count_rows)
      go false =
          let l = length-append (set (rows_of page) place (ended t old)) (born_at t new ∷ further) in
          omega (arith, length-set (rows_of page) place (ended t old), count_rows)

  -- Step 4
  pub replace_is_with : (new : Row) → replace_words t page place old new ≡ with_rows page (replace_row t (placed_in place old) new [] (rows_of page))
  replace_is_with new = go (eqb old.birth t)
    where
      end_is : end_row page place t ≡ with_rows page (set (rows_of page) place (ended t old))
      end_is =
          ap (λ (r : Row). put_row page place (ended t r)) is_old
          ∙ put_is_with page (ended t old) place inside (omega arith)

      go : (b : Bool) → cond b (put_row page place new) (append_row (end_row page place t) (born_at t new))
          ≡ with_rows page (cond b (set (rows_of page) place new ++ []) (set (rows_of page) place (ended t old) ++ (born_at t new ∷ [])))
      go true = put_is_with page new place inside (omega arith) ∙ ap (with_rows page) (sym (append-nil (set (rows_of page) place new)))
      go false =
          ap (λ (w : List ℕ). append_row w (born_at t new)) end_is
          ∙ append_to_with page (set (rows_of page) place (ended t old)) (born_at t new) stopped_fits
          (omega (arith, length-set (rows_of page) place (ended t old), count_rows))

  replace_more : (new f : Row) → replace_row t (placed_in place old) new [] (rows_of page) ++ (f ∷ []) ≡ replace_row t (placed_in place old) new (f ∷ []) (rows_of page)
  replace_more new f = go (eqb old.birth t)
    where
      go : (b : Bool) → cond b (set (rows_of page) place new ++ []) (set (rows_of page) place (ended t old) ++ (born_at t new ∷ [])) ++ (f ∷ [])
          ≡ cond b (set (rows_of page) place new ++ (f ∷ [])) (set (rows_of page) place (ended t old) ++ (born_at t new ∷ (f ∷ [])))
      go true = ap (λ (xs : List Row). xs ++ (f ∷ [])) (append-nil (set (rows_of page) place new))
      go false = append_assoc (set (rows_of page) place (ended t old)) (born_at t new ∷ []) (f ∷ [])

  -- and a further row behind it
  pub replace_and_add : (new f : Row) → t < 4294967296 → Fits new → row_start (word page 1 + 2) ≤ length page →
      append_row (replace_words t page place old new) f ≡ with_rows page (replace_row t (placed_in place old) new (f ∷ []) (rows_of page))
  replace_and_add new f small n more =
      ap (λ (w : List ℕ). append_row w f) (replace_is_with new)
      ∙ append_to_with page (replace_row t (placed_in place old) new [] (rows_of page)) f (replaced_fits new [] small n tt) (omega (arith, replaced_length new))
      ∙ ap (with_rows page) (replace_more new f)
