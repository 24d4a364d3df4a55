use mathlib.Core.Path.{◌≡◌}
use lib.ListN.{drop}
use Rattle.words.specs.Value.{zero}
use Rattle.key_order.specs.Entries.{InPage}
use Rattle.split.specs.SplitWords.{add_rows}
use Rattle.split.proofs.split.total_of.Given as goal

abbrev pub invariant-loop-entry : goal.invariant-loop-entry
invariant-loop-entry l =
    InPage l.words (drop l.entry-index l.entries)
    × (add_rows l.words l.total (drop l.entry-index l.entries) ≡ add_rows l.words zero l.entries)
