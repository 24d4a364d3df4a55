-- A row written, ended or added in a page's words, in the terms of the stores that the code makes.
use Prim.Native.Nat.{ℕ, ◌+◌, ◌≤◌, ◌<◌}
use native.Mathlib.Numerals.{add-one}
use native.Mathlib.Omega.{arith}
use mathlib.Core.Path.{◌≡◌, refl, ap, sym, ◌∙◌}
use mathlib.Core.List.{List, [], ◌∷◌}
use lib.ListN.{length, set, length-set}
use lib.Seq.{set-get_or, get_or-set_other}
use Rattle.words.specs.Words.{row_keys, low_key, high_key, child_page, life_word, birth_of}
use Rattle.words.specs.Value.{encode_value, value_at}
use Rattle.words.specs.Overwrite.{overwrite}
use Rattle.words.proofs.ValueLaws.{value_same}
use Rattle.words.proofs.OverwriteLaws.{overwrite_sets, overwrite_more, overwrite_one}
use Rattle.tree.specs.declared.types.Row.{Row}
use Rattle.tree.specs.Row.{word, row_at, row_start, row_words, value_start}
use Rattle.tree.specs.Edit.{ended, put_count}
use Rattle.tree.specs.RowEdits.{put_row, end_row, append_row}

-- the two words of keys and life, then the value's
pub put_words : (page : List ℕ) (place : ℕ) (r : Row) → row_start place + row_words ≤ length page →
    overwrite
    (set (set page (row_start place) (row_keys r.low r.high r.child)) (row_start place + 1) (life_word r.birth r.end))
    (row_start place + value_start)
    (encode_value r.value)
    ≡ put_row page place r
put_words page place r h =
    let two : List ℕ = row_keys r.low r.high r.child ∷ (life_word r.birth r.end ∷ []) in
    ap (λ (l : List ℕ). overwrite l (row_start place + value_start) (encode_value r.value))
    (ap (λ (n : ℕ). set (set page (row_start place) (row_keys r.low r.high r.child)) n (life_word r.birth r.end)) (add-one (row_start place))
    ∙ overwrite_sets page (row_start place) two (omega arith))
    ∙ overwrite_more page (row_start place) two (omega arith) (row_start place + value_start) (encode_value r.value) refl

-- a word of keys taken apart and put together again is the same word
keys_same : (w : ℕ) → row_keys (low_key w) (high_key w) (child_page w) ≡ w
keys_same w = omega arith

-- ending a row changes its word 1 alone
pub end_word : (page : List ℕ) (place t : ℕ) → row_start place + row_words ≤ length page →
    set page (row_start place + 1) (life_word (birth_of (word page (row_start place + 1))) t) ≡ end_row page place t
end_word page place t h =
    let at : ℕ = row_start place in
    let life : ℕ = life_word (birth_of (word page (at + 1))) t in
    let other : at ≡ at + 1 → ⊥ = omega arith in
    sym
    (sym (put_words page place (ended t (row_at page at)) h)
    ∙ ap (λ (w : ℕ). overwrite (set (set page at w) (at + 1) life) (at + value_start) (encode_value (value_at page (at + value_start)))) (keys_same (word page at))
    ∙ ap (λ (l : List ℕ). overwrite (set l (at + 1) life) (at + value_start) (encode_value (value_at page (at + value_start)))) (set-get_or page at 0)
    ∙ value_same (set page (at + 1) life) page (at + value_start) (simp length-set (omega arith))
    (λ i l. get_or-set_other page (at + 1) (at + value_start + i) life 0 (omega arith)))

pub append_words : (page : List ℕ) (r : Row) (after : List ℕ) → after ≡ put_row page (word page 1) r → 1 < length after →
    set after 1 (word page 1 + 1) ≡ append_row page r
append_words page r after e h = overwrite_one after 1 (word page 1 + 1) h ∙ ap (λ (l : List ℕ). put_count l (word page 1 + 1)) e
