-- The words of a page, copied out of the table and given back to it.
use Prim.Native.Nat.{ℕ, ◌+◌, ◌*◌, ◌-◌, ◌≤◌}
use native.Mathlib.Omega.{arith}
use mathlib.Core.Path.{◌≡◌, refl, ap, ◌∙◌}
use mathlib.Core.List.{List, ◌++◌}
use lib.ListN.{length, take, drop, replicate, length-drop}
use lib.Seq.{length-take-le, get_or-take, get_or-drop}
use borrow.Rule.Slice.PartMut.{put_mid}
use Rattle.tree.specs.Fresh.{zeros}
use Rattle.tree.specs.Row.{word, page_words}
use Rattle.tree.specs.Tree.{page_at, put_page}
use Rattle.words.proofs.OverwriteLaws.{put_part}
use Rattle.enter.specs.EnterWords.{appended_words, loaded}

-- The words of a page lent on from the middle of a table, and given back changed
pub part_length : (table : List ℕ) (page : ℕ) → page * page_words + page_words ≤ length table → length (take (page * page_words + page_words - page * page_words) (drop (page * page_words) table)) ≡ page_words
part_length table page h =
    let e : page * page_words + page_words - page * page_words ≡ page_words = omega arith in
    rw e (length-take-le page_words (drop (page * page_words) table) (rw length-drop (omega arith)))

pub part_is : (table : List ℕ) (page : ℕ) → take (page * page_words + page_words - page * page_words) (drop (page * page_words) table) ≡ page_at table page
part_is table page = let e : page * page_words + page_words - page * page_words ≡ page_words = omega arith in ap (λ (n : ℕ). take n (drop (page * page_words) table)) e

pub part_back : (table : List ℕ) (page : ℕ) (words : List ℕ) → page * page_words + page_words ≤ length table → length words ≡ page_words →
    put_mid (page * page_words) (page * page_words + page_words - page * page_words) table words ≡ put_page table page words
part_back table page words h l = put_part table (page * page_words) (page * page_words + page_words) words (omega arith) (omega arith) refl

-- How many rows a page has, read from the table
pub page_count : (table : List ℕ) (page : ℕ) → word (page_at table page) 1 ≡ word table (page * page_words + 1)
page_count table page = get_or-take page_words (drop (page * page_words) table) 1 0 (omega arith) ∙ get_or-drop (page * page_words) table 1 0

-- A page copied to the front of scratch words: zeros stay behind it
pub copy_is : (table : List ℕ) (page : ℕ) (copy : List ℕ) → copy ≡ page_at table page → copy ++ replicate appended_words 0 ≡ loaded table page
unfolding zeros
copy_is table page copy e = ap (λ (w : List ℕ). w ++ replicate appended_words 0) e
