-- One page of a page table written over: it then has the words that were written, and every other page has those it had.
use Prim.Native.Nat.{ℕ, ◌+◌, ◌*◌, ◌≤◌, ◌<◌}
use native.Mathlib.Omega.{arith}
use native.Mathlib.Decide.{dec_le}
use mathlib.Core.Path.{◌≡◌, sym, ap, ◌∙◌}
use mathlib.Core.List.{List, ◌++◌, append_assoc}
use lib.ListN.{length, take, drop, get_or, length-take, length-drop}
use lib.Seq.{length-take-le, take_at, drop_at, get_or-take, get_or-drop, ext_get_or}
use Rattle.words.specs.Overwrite.{overwrite}
use Rattle.words.proofs.OverwriteLaws.{overwrite_length, word_before, word_behind}
use Rattle.tree.specs.Row.{word, page_words}
use Rattle.tree.specs.Tree.{page_at, put_page, level_of}

-- The length of a page that lies in the table
pub page_length : (table : List ℕ) (page : ℕ) → page * page_words + page_words ≤ length table → length (page_at table page) ≡ page_words
page_length table page fits = length-take-le page_words (drop (page * page_words) table) (rw length-drop (omega arith))

module _ (table : List ℕ) (page : ℕ) (words : List ℕ) (fits : page * page_words + page_words ≤ length table) (whole : length words ≡ page_words) where
  inside : page * page_words + length words ≤ length table
  inside = omega arith

  pub put_length : length (put_page table page words) ≡ length table
  put_length = overwrite_length table (page * page_words) words inside

  pub put_same : page_at (put_page table page words) page ≡ words
  unfolding overwrite
  put_same =
      let from : length (take (page * page_words) table) ≡ page * page_words = length-take-le (page * page_words) table (omega arith) in
      let rest : List ℕ = drop (page * page_words + length words) table in
      ap (λ (l : List ℕ). take page_words (drop (page * page_words) l)) (append_assoc (take (page * page_words) table) words rest)
      ∙ ap (take page_words) (drop_at (take (page * page_words) table) (words ++ rest) (page * page_words) from)
      ∙ take_at words rest page_words whole

  pub put_other : (other : ℕ) → (other ≡ page → ⊥) → page_at (put_page table page words) other ≡ page_at table other
  put_other other apart = ext_get_or 0 (page_at (put_page table page words) other) (page_at table other) same_length same_word
    where
      same_length : length (page_at (put_page table page words) other) ≡ length (page_at table other)
      same_length = simp (length-take, length-drop, put_length)

      in_table : (i : ℕ) → i < page_words → get_or (put_page table page words) (other * page_words + i) 0 ≡ get_or table (other * page_words + i) 0
      in_table i h = go (dec_le page other)
        where
          go : Dec (page ≤ other) → get_or (put_page table page words) (other * page_words + i) 0 ≡ get_or table (other * page_words + i) 0
          go (yes l) =
              let further : page < other = omega arith in
              word_behind table (page * page_words) words inside (other * page_words + i) (omega arith)
          go (no l) = word_before table (page * page_words) words inside (other * page_words + i) (omega arith)

      same_word : (i : ℕ) → i < length (page_at (put_page table page words) other)
          → get_or (page_at (put_page table page words) other) i 0 ≡ get_or (page_at table other) i 0
      same_word i h =
          let small : i < page_words = omega (arith, length-take page_words (drop (other * page_words) (put_page table page words))) in
          get_or-take page_words (drop (other * page_words) (put_page table page words)) i 0 small
          ∙ get_or-drop (other * page_words) (put_page table page words) i 0
          ∙ in_table i small
          ∙ sym (get_or-take page_words (drop (other * page_words) table) i 0 small ∙ get_or-drop (other * page_words) table i 0)

-- The level of a page, read from the table
pub level_in_table : (table : List ℕ) (page : ℕ) → level_of table page ≡ word table (page * page_words)
level_in_table table page =
    get_or-take page_words (drop (page * page_words) table) 0 0 (omega arith)
    ∙ get_or-drop (page * page_words) table 0 0
    ∙ ap (word table) (omega arith)
