-- A tree as it is lent: its page table, its root list, and how much of each it uses.
use Rattle.std.specs.Prelude.{ℕ, ◌+◌, ◌-◌, ◌*◌, ◌/◌, min, List, [], ◌∷◌, Bool, cond, ◌&&◌, length, take, drop, leb, Option, Some, None}
use Rattle.words.specs.Words.{root_birth, root_page}
use Rattle.words.specs.Overwrite.{overwrite}
use Rattle.tree.specs.Row.{word, page_words}
use Rattle.tree.specs.PageTest.{sound_at}
use Rattle.tree.specs.declared.types.TreeUse.{TreeUse}
use Rattle.tree.specs.Use.{in_use, page_limit}

pub record Tree : Type 0 where
  pub table : List ℕ
  pub roots : List ℕ
  pub used : TreeUse

-- "A page table is a lent slice of 64-bit words, 260 to a page": the whole pages that it holds
abbrev pub whole_pages : List ℕ → ℕ
whole_pages table = length table / page_words

-- The words of one page
abbrev pub page_at : List ℕ → ℕ → List ℕ
page_at table page = take page_words (drop (page * page_words) table)

-- The table with the words of one page written over
abbrev pub put_page : List ℕ → ℕ → List ℕ → List ℕ
put_page table page words = overwrite table (page * page_words) words

-- Page word "0 level (0 leaf, at most 3)"
abbrev pub level_of : List ℕ → ℕ → ℕ
level_of table page = word (page_at table page) 0

abbrev pub top_level : ℕ
top_level = 3

-- "those left, which are the table's whole pages, at most 1,000,000 of them, less the pages used"
abbrev pub pages_left : Tree → ℕ
pages_left tree = min (whole_pages tree.table) page_limit - tree.used.pages

-- "The root for tick t is the entry in the highest place with birth ≤ t."
abbrev pub in_higher_place : Option ℕ → Option ℕ → Option ℕ
in_higher_place (Some page) lower = Some page
in_higher_place None lower = lower

unfoldable pub root_for : ℕ → List ℕ → Option ℕ
root_for t [] = None
root_for t (w ∷ ws) = in_higher_place (root_for t ws) (cond (leb (root_birth w) t) (Some (root_page w)) None)

-- Entries count that are in use
abbrev pub root_at : Tree → ℕ → Option ℕ
root_at tree t = root_for t (take tree.used.roots tree.roots)

-- The entry in the highest place in use
abbrev pub last_root : Tree → ℕ
last_root tree = word tree.roots (tree.used.roots - 1)

-- "A tree is as many pages high as the level of its last root plus 1."
abbrev pub height : Tree → ℕ
height tree = level_of tree.table (root_page (last_root tree)) + 1

-- No ground for 26 in a page that is met at t as one of this level and key range: it is in use, and what its words say
abbrev pub met_at : Tree → (t level low high page : ℕ) → Bool
met_at tree t level low high page = in_use tree.used page && sound_at t level low high (page_at tree.table page)

-- No ground for 26 in a root before its page is tested: it is in use and its level at most 3
abbrev pub root_in_use : Tree → ℕ → Bool
root_in_use tree page = in_use tree.used page && leb (level_of tree.table page) top_level
