-- True values: document 01, "A row's true value is its own plus that of all rows of its page live at t with a lower low key."
use Rattle.std.specs.Prelude.{ℕ, List, [], ◌∷◌, Bool, cond, ◌&&◌, ltb, Result, Ok}
use Rattle.words.specs.declared.value.Value.{Value}
use Rattle.words.specs.Value.{zero, plus}
use Rattle.tree.specs.declared.types.Row.{Row}
use Rattle.tree.specs.declared.types.Held.{Held}
use Rattle.tree.specs.declared.types.SpoiledPage.{SpoiledPage}
use Rattle.tree.specs.Spoiled.{spoiled}
use Rattle.tree.specs.Row.{live, holds, rows_of}
use Rattle.tree.specs.KeyOrder.{Placed, key_order}
use Rattle.tree.specs.PageTest.{sound_at}

-- The values of the items that pass a test, added
unfoldable pub total_where : {A : Type 0} → (A → Value) → (A → Bool) → List A → Value
total_where value_of test [] = zero
total_where value_of test (x ∷ xs) = plus (cond (test x) (value_of x) zero) (total_where value_of test xs)

abbrev pub row_value : Row → Value
row_value r = r.value

abbrev pub lower_at : ℕ → Row → Row → Bool
lower_at t r s = live t s && ltb s.low r.low

abbrev pub true_value : ℕ → List Row → Row → Value
true_value t rows r = plus r.value (total_where row_value (lower_at t r) rows)

-- The first item that passes a test
pub data Search (A : Type 0) : Type 0 where
  none : Search A
  one : A → Search A

unfoldable pub first : {A : Type 0} → (A → Bool) → List A → Search A
first test [] = none
first test (x ∷ xs) = cond (test x) (one x) (first test xs)

-- "the row that is live at t and has low key ≤ k < high key": where 26 is ruled out there is exactly one (Tiling)
abbrev pub holding_row : ℕ → ℕ → List Row → Search Placed
holding_row t k rows = first (λ (x : Placed). holds k x.row) (key_order t rows)

-- What a lookup of (t, k) finds in one page of the expected level and key range: the row that holds (t, k) with its true value, or a spoiled page
abbrev pub held_as : ℕ → List Row → Search Placed → Result Held SpoiledPage
held_as t rows none = spoiled
held_as t rows (one x) = Ok (record { row = x.row; value = true_value t rows x.row })

abbrev pub held_in : (t k level low high : ℕ) → (page : List ℕ) → Result Held SpoiledPage
held_in t k level low high page = cond (sound_at t level low high page) (held_as t (rows_of page) (holding_row t k (rows_of page))) spoiled
