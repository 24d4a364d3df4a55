use Prim.Native.Nat.{◌+◌, ◌-◌, ◌≤◌}
use mathlib.Core.Path.{◌≡◌}
use lib.ListN.{length, drop}
use Rattle.tree.specs.Row.{word, row_limit}
use Rattle.page.specs.PageValue.{empty_page}
use Rattle.key_order.specs.Entries.{InPage}
use Rattle.split.specs.SplitWords.{fill_page}
use Rattle.split.proofs.split.filled.Given as goal

abbrev pub invariant-loop-entry : goal.invariant-loop-entry
invariant-loop-entry l =
    (l.page.count + (length l.entries - l.entry-index) ≤ row_limit) × InPage l.words (drop l.entry-index l.entries)
    × (fill_page l.words l.t l.page (drop l.entry-index l.entries) ≡ fill_page l.words l.t (empty_page (word l.words 0) l.low l.high l.t) l.entries)
    × (length l.page.rows ≡ row_limit)
