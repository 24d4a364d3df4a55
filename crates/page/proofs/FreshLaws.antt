-- A page written whole: its header, its rows one behind the other, and zeros up to its end.
use Prim.Native.Nat.{ℕ, ◌+◌, ◌-◌, ◌*◌, ◌≤◌, ◌<◌}
use native.Mathlib.Numerals.{add-one}
use native.Mathlib.Omega.{arith}
use mathlib.Core.Path.{◌≡◌, refl, ap, sym, ◌∙◌}
use mathlib.Core.List.{List, [], ◌∷◌, ◌++◌, append_assoc, append-nil}
use lib.ListN.{length, get_or, set, take, length-append, length-replicate}
use lib.Seq.{take-suc, length-take-le, get_or-take}
use Rattle.words.specs.Words.{key_range}
use Rattle.words.specs.Overwrite.{overwrite}
use Rattle.words.proofs.OverwriteLaws.{overwrite_sets, overwrite_more, overwrite_all, overwrite_length}
use Rattle.tree.specs.declared.types.Row.{Row}
use Rattle.page.specs.declared.fresh.Page.{Page}
use Rattle.tree.proofs.PageCodec.{encode_length}
use Rattle.tree.specs.Row.{row_words, row_limit, row_start, page_words, encode_row, encode_rows}
use Rattle.tree.specs.RowEdits.{put_row}
use Rattle.tree.specs.Fresh.{zeros, fresh_page}
use Rattle.page.specs.PageValue.{page_rows, encode_page}

pub zeros_length : (n : ℕ) → length (zeros n) ≡ n
unfolding zeros
zeros_length n = length-replicate n 0

-- Rows written one behind the other
pub encode_append : (xs ys : List Row) → encode_rows (xs ++ ys) ≡ encode_rows xs ++ encode_rows ys
unfolding encode_rows
encode_append [] ys = refl
encode_append (x ∷ xs) ys = ap (◌++◌ (encode_row x)) (encode_append xs ys) ∙ sym (append_assoc (encode_row x) (encode_rows xs) (encode_rows ys))

abbrev pub header_of : Page → List ℕ
header_of p = p.level ∷ (p.count ∷ (key_range p.low p.high ∷ (p.birth ∷ [])))

-- the header and the rows in the first places
abbrev pub up_to : Page → ℕ → List ℕ
up_to p n = header_of p ++ encode_rows (take n p.rows)

module _ (words : List ℕ) (p : Page) (long : length words ≡ page_words) (full : length p.rows ≡ row_limit) where
  pub header_words_lem : set (set (set (set words 0 p.level) 1 p.count) 2 (key_range p.low p.high)) 3 p.birth ≡ overwrite words 0 (up_to p 0)
  unfolding encode_rows
  header_words_lem = overwrite_sets words 0 (header_of p) (omega arith) ∙ ap (overwrite words 0) (sym (append-nil (header_of p)))

  up_to_length : (n : ℕ) → n ≤ row_limit → length (up_to p n) ≡ row_start n
  up_to_length n h = omega (arith, encode_length (take n p.rows), length-take-le n p.rows (omega arith))

  pub row_words_lem : (d : Row) (n : ℕ) → n < p.count → p.count ≤ row_limit →
      put_row (overwrite words 0 (up_to p n)) n (get_or (page_rows p) n d) ≡ overwrite words 0 (up_to p (n + 1))
  unfolding encode_rows
  row_words_lem d n h m =
      let here : length (up_to p n) ≡ row_start n = up_to_length n (omega arith) in
      let rows = take n p.rows in
      let row : Row = get_or p.rows n d in
      ap (put_row (overwrite words 0 (up_to p n)) n) (get_or-take p.count p.rows n d h)
      ∙ overwrite_more words 0 (up_to p n) (omega arith) (row_start n) (encode_row row) (omega arith)
      ∙ ap (overwrite words 0)
      (append_assoc (header_of p) (encode_rows rows) (encode_row row)
      ∙ ap (◌++◌ (header_of p))
      (ap (◌++◌ (encode_rows rows)) (sym (append-nil (encode_row row)))
      ∙ sym (encode_append rows (row ∷ []))
      ∙ ap encode_rows (sym (take-suc p.rows n d (omega arith)) ∙ ap (λ (m : ℕ). take m p.rows) (sym (add-one n)))))

  -- and what is left of the page set to zero
  pub whole_words : (n : ℕ) → n ≡ p.count → p.count ≤ row_limit →
      overwrite (overwrite words 0 (up_to p n)) (row_start n) (zeros (length (overwrite words 0 (up_to p n)) - row_start n)) ≡ encode_page p
  unfolding fresh_page
  whole_words n e h =
      let here : length (up_to p n) ≡ row_start n = up_to_length n (omega arith) in
      let rows : List Row = page_rows p in
      let count : length rows ≡ p.count = length-take-le p.count p.rows (omega arith) in
      let room : 0 + length (up_to p n) ≤ length words = omega arith in
      let left : length (overwrite words 0 (up_to p n)) - row_start n ≡ row_words * (row_limit - length rows) =
      omega (arith, overwrite_length words 0 (up_to p n) room) in
      let rest : List ℕ = zeros (row_words * (row_limit - length rows)) in
      let size : length (up_to p n ++ rest) ≡ length words =
      length-append (up_to p n) rest ∙ omega (arith, zeros_length (row_words * (row_limit - length rows))) in
      ap (λ (k : ℕ). overwrite (overwrite words 0 (up_to p n)) (row_start n) (zeros k)) left
      ∙ overwrite_more words 0 (up_to p n) room (row_start n) rest (omega arith)
      ∙ overwrite_all words (up_to p n ++ rest) size
      ∙ ap (λ (m : ℕ). up_to p m ++ rest) e
      ∙ ap (λ (m : ℕ). p.level ∷ (m ∷ (key_range p.low p.high ∷ (p.birth ∷ (encode_rows rows ++ rest))))) (sym count)
