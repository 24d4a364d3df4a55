-- A tree as opening leaves it.
use Rattle.std.specs.Prelude.{List, [], ◌∷◌, ℕ}
use Rattle.words.specs.Words.{key_limit, root_entry}
use Rattle.words.specs.Overwrite.{overwrite}
use Rattle.words.specs.Value as value
use Rattle.tree.specs.Fresh.{fresh_page, new_row}
use Rattle.tree.specs.Use.{opened_use}
use Rattle.tree.specs.Tree.{Tree, put_page}

-- "page 0, a leaf with one row of value zero over keys 0 to 30,000, born at 0, and the first root entry; it alters no other word"
abbrev pub first_page : List ℕ
first_page = fresh_page 0 0 key_limit 0 (new_row 0 0 key_limit 0 value.zero ∷ [])

abbrev pub opened_tree : List ℕ → List ℕ → Tree
opened_tree table roots =
    record {
      table = put_page table 0 first_page;
      roots = overwrite roots 0 (root_entry 0 0 ∷ []);
      used = opened_use;
    }
