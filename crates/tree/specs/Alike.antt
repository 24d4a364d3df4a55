-- What a reader at a tick sees of a page.
use Rattle.std.specs.Prelude.{ℕ, ◌≡◌, List, map}
use Rattle.words.specs.declared.value.Value.{Value}
use Rattle.tree.specs.Row.{word, rows_of}
use Rattle.tree.specs.KeyOrder.{Placed, key_order}

-- What a reader at a tick sees of a row that is live then: all of it but its end, which lies ahead
pub record SeenRow : Type 0 where
  pub low : ℕ
  pub high : ℕ
  pub child : ℕ
  pub birth : ℕ
  pub value : Value

abbrev pub seen_row : Placed → SeenRow
seen_row x = record { low = x.row.low; high = x.row.high; child = x.row.child; birth = x.row.birth; value = x.row.value }

-- Two pages that show a reader at tick t the same level, key range and live rows in key order
pub record LookAlike (t : ℕ) (page other : List ℕ) : Type 0 where
  pub level : word page 0 ≡ word other 0
  pub range : word page 2 ≡ word other 2
  pub rows : map seen_row (key_order t (rows_of page)) ≡ map seen_row (key_order t (rows_of other))
