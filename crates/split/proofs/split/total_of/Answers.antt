use Rattle.tree.specs.declared.types.Row.{Row}
use Prim.Native.Nat.{ℕ, ◌+◌, ◌≤◌}
use native.Mathlib.Omega.{arith}
use mathlib.Core.Path.{◌≡◌, ap, sym, ◌∙◌}
use lib.ListN.{length, get_or, drop}
use Rattle.words.specs.declared.value.Value.{Value}
use Rattle.words.specs.Value.{plus}
use Rattle.tree.specs.Row.{row_start, row_words}
use Rattle.tree.specs.RowEdits.{row_in}
use Rattle.key_order.specs.Entries.{entry_place}
use Rattle.words.proofs.LoopLaws.{all_here}
use Rattle.split.specs.SplitWords.{entry_row, add_rows}
use Rattle.split.proofs.SplitLaws.{add_more, add_none}
use Rattle.split.proofs.split.total_of.Goals as goal

pub loop-entry-preserved : goal.loop-entry-preserved
loop-entry-preserved c = let a = c.args in
    let es = a.entries.now in
    let l = c.loop-entry in
    let here : c.row_at-row.result ≡ entry_row a.words.now (get_or es l.entry-index 0) =
    c.row_at-row.ensures ∙ ap (row_in a.words.now) c.entry_place.ensures in
    let next : c.plus-total.result ≡ plus l.total (entry_row a.words.now (get_or es l.entry-index 0)).value =
    c.plus-total.ensures ∙ ap (λ (r : Row). plus l.total r.value) here in (
      (all_here es l.entry-index (λ (e : ℕ). row_start (entry_place e) + row_words ≤ length a.words.now) (omega arith) l.invariant.0).1,
      ap (λ (v : Value). add_rows a.words.now v (drop (l.entry-index + 1) es)) next
          ∙ sym (add_more es l.entry-index a.words.now l.total c.loop-entry-test.true) ∙ l.invariant.1,
    )

pub returns : goal.returns
returns c = let a = c.args in
    let l = c.loop-entry in
    sym (add_none a.entries.now l.entry-index a.words.now l.total c.loop-entry-test.false) ∙ l.invariant.1
