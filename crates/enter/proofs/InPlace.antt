-- A page changed in its own words: with further words behind it the same change is made, and they stay, as long as its rows stay inside the page.
use Prim.Native.Nat.{ℕ, ◌+◌, ◌≤◌, ◌<◌}
use native.Mathlib.Omega.{arith}
use mathlib.Core.Path.{◌≡◌, refl, sym, ap, ap₂, ◌∙◌}
use mathlib.Core.Bool.{Bool, true, false, cond}
use mathlib.Core.List.{List, [], ◌∷◌, ◌++◌, append_assoc}
use lib.Dec.{eqb}
use lib.ListN.{length, take, drop}
use lib.Seq.{take-append-le, drop-append-le, take_at}
use Rattle.words.specs.Overwrite.{overwrite}
use Rattle.words.specs.declared.value.Value.{Value}
use Rattle.words.specs.Value.{zero}
use Rattle.tree.specs.declared.types.Row.{Row}
use Rattle.tree.specs.Row.{word, row_start, row_words, page_words, encode_row}
use Rattle.tree.specs.Limits.{most_appended}
use Rattle.tree.specs.RowEdits.{row_in, put_row, end_row, append_row}
use Rattle.tree.specs.Edit.{put_count, ended, born_at}
use Rattle.tree.specs.Fresh.{new_row, zeros}
use Rattle.tree.specs.RowSteps.{gained, cut_at, linked_to}
use Rattle.tree.specs.Tree.{page_at, put_page}
use Rattle.tree.specs.Overflow.{Written}
use Rattle.tree.specs.declared.types.TreeUse.{TreeUse}
use Rattle.tree.specs.declared.types.Became.{Became}
use Rattle.tree.specs.declared.types.Became.TheVariants.{Stays, Copied, Halved}
use Rattle.tree.proofs.PageCodec.{put_length}
use Rattle.std.specs.declared.option.Option.{Option}
use Rattle.std.specs.declared.option.Option.TheVariants.{Some, None}
use Rattle.row_steps.specs.declared.steps.Change.{Change}
use Rattle.row_steps.specs.declared.steps.Change.TheVariants.{Leaf, Lowest, Above}
use Rattle.row_steps.specs.PageEdits.{replace_words, gain_words, link_words, change_words, Within, ChangeWithin}
use Rattle.enter.specs.EnterWords.{settled, changed, appended_words, roomy_rows}
use Rattle.row_steps.proofs.EditSizes.{end_room, replace_grown, gain_grown, change_grown}
use Rattle.enter.proofs.SettleLaws.{settled_stays, word_front, row_front}

module _ (extra : List ℕ) where
  overwrite_front : (words : List ℕ) (at : ℕ) (new : List ℕ) → at + length new ≤ length words → overwrite (words ++ extra) at new ≡ overwrite words at new ++ extra
  unfolding overwrite
  overwrite_front words at new h =
      ap₂ (λ (a b : List ℕ). a ++ new ++ b) (take-append-le at words extra (omega arith)) (drop-append-le (at + length new) words extra h)
      ∙ sym (append_assoc (take at words ++ new) (drop (at + length new) words) extra)

  put_front : (page : List ℕ) (place : ℕ) (r : Row) → row_start place + row_words ≤ length page → put_row (page ++ extra) place r ≡ put_row page place r ++ extra
  put_front page place r h = overwrite_front page (row_start place) (encode_row r) h

  append_front : (page : List ℕ) (r : Row) → row_start (word page 1 + 1) ≤ length page → append_row (page ++ extra) r ≡ append_row page r ++ extra
  append_front page r room =
      ap (λ (n : ℕ). put_count (put_row (page ++ extra) n r) (n + 1)) (word_front page extra 1 (omega arith))
      ∙ ap (λ (w : List ℕ). put_count w (word page 1 + 1)) (put_front page (word page 1) r (omega arith))
      ∙ overwrite_front (put_row page (word page 1) r) 1 ((word page 1 + 1) ∷ []) (omega (arith, put_length page (word page 1) r (omega arith)))

  module _ (t : ℕ) (page : List ℕ) (place : ℕ) (inside : place < word page 1) where
    here_front : row_start (word page 1 + 1) ≤ length page → row_in (page ++ extra) place ≡ row_in page place
    here_front room = row_front page extra (row_start place) (omega arith)

    replace_front : (old new : Row) → row_start (word page 1 + 1) ≤ length page → replace_words t (page ++ extra) place old new ≡ replace_words t page place old new ++ extra
    replace_front old new room = go (eqb old.birth t)
      where
        go : (b : Bool) → cond b (put_row (page ++ extra) place new) (append_row (end_row (page ++ extra) place t) (born_at t new))
            ≡ cond b (put_row page place new) (append_row (end_row page place t) (born_at t new)) ++ extra
        go true = put_front page place new (omega arith)
        go false =
            ap (λ (r : Row). append_row (put_row (page ++ extra) place (ended t r)) (born_at t new)) (here_front room)
            ∙ ap (λ (w : List ℕ). append_row w (born_at t new)) (put_front page place (ended t (row_in page place)) (omega arith))
            ∙ append_front (end_row page place t) (born_at t new) (end_room page place inside room t)

    module _ (room : row_start (word page 1 + 2) ≤ length page) where
      more_front : (old new more : Row) → append_row (replace_words t (page ++ extra) place old new) more ≡ append_row (replace_words t page place old new) more ++ extra
      more_front old new more =
          let one = replace_grown page place inside (omega arith) t old new in
          ap (λ (w : List ℕ). append_row w more) (replace_front old new (omega arith))
          ∙ append_front (replace_words t page place old new) more (omega (arith, one.size, one.rows))

      link_front : (old : Row) (became : Became) → link_words t (page ++ extra) place old became ≡ link_words t page place old became ++ extra
      link_front old Stays = refl
      link_front old (Copied c) = replace_front old (linked_to c old) (omega arith)
      link_front old (Halved c d) = more_front old (linked_to c old) (new_row t d.low d.high d.page zero)

  module _ (t : ℕ) (v : Value) (page : List ℕ) where
    gain_front : (gain : Option ℕ) → Within (word page 1) gain → row_start (word page 1 + 1) ≤ length page → gain_words t v (page ++ extra) gain ≡ gain_words t v page gain ++ extra
    gain_front None inside room = refl
    gain_front (Some place) inside room =
        ap (λ (r : Row). replace_words t (page ++ extra) place r (gained v r)) (here_front t page place inside room)
        ∙ replace_front t page place inside (row_in page place) (gained v (row_in page place)) room

    change_front : (change : Change) → ChangeWithin (word page 1) change → row_start (word page 1 + most_appended) ≤ length page →
        change_words t v (page ++ extra) change ≡ change_words t v page change ++ extra
    change_front (Leaf None gain k) inside room = gain_front gain inside.1 (omega arith)
    change_front (Leaf (Some place) gain k) inside room =
        let row : Row = row_in page place in
        ap (λ (r : Row). append_row (replace_words t (page ++ extra) place r (cut_at k r)) (new_row t k r.high 0 v)) (here_front t page place inside.0 (omega arith))
        ∙ more_front t page place inside.0 (omega arith) row (cut_at k row) (new_row t k row.high 0 v)
    change_front (Lowest gain) inside room = gain_front gain inside (omega arith)
    change_front (Above place gain became) inside room =
        let one = gain_grown t v page gain inside.1 (omega arith) in
        ap₂ (λ (w : List ℕ) (r : Row). link_words t w place r became) (gain_front gain inside.1 (omega arith)) (here_front t page place inside.0 (omega arith))
        ∙ link_front t (gain_words t v page gain) place (omega (arith, inside.0, one.least)) (omega (arith, one.size, one.rows)) (row_in page place) became

-- A page of at most 61 rows stays, and the change is made in its own words
module _ (used : TreeUse) (t : ℕ) (so : Written) (page : ℕ) (v : Value) (change : Change) (whole : length (page_at so.table page) ≡ page_words)
    (few : word (page_at so.table page) 1 ≤ roomy_rows) (inside : ChangeWithin (word (page_at so.table page) 1) change) where
  abbrev new : List ℕ
  new = change_words t v (page_at so.table page) change

  pub in_place_size : length new ≡ page_words
  in_place_size = (change_grown t v (page_at so.table page) change inside (omega arith)).size ∙ whole

  pub in_place : settled used t so page (changed t v so.table page change) ≡ record { table = put_page so.table page new; made = so.made; became = Stays }
  in_place =
      let front : changed t v so.table page change ≡ new ++ zeros appended_words = change_front (zeros appended_words) t v (page_at so.table page) change inside (omega arith) in
      let rows = (change_grown t v (page_at so.table page) change inside (omega arith)).rows in
      let count : word (new ++ zeros appended_words) 1 ≡ word new 1 = word_front new (zeros appended_words) 1 (omega (arith, in_place_size)) in
      ap (settled used t so page) front
      ∙ settled_stays used t so page (new ++ zeros appended_words) (omega arith)
      ∙ ap (λ (w : List ℕ). record { table = put_page so.table page w; made = so.made; became = Stays }) (take_at new (zeros appended_words) page_words in_place_size)
