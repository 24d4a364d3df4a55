use Prim.Native.Nat.{ℕ, ◌+◌, ◌≤◌}
use native.Mathlib.Omega.{arith}
use mathlib.Core.Path.{◌≡◌, ap, sym, ◌∙◌}
use mathlib.Core.List.{List}
use lib.ListN.{length, get_or, set, drop, length-set}
use Rattle.tree.specs.declared.types.Row.{Row}
use Rattle.tree.specs.Row.{row_start, row_words}
use Rattle.tree.specs.RowEdits.{row_in}
use Rattle.tree.specs.Edit.{born_at}
use Rattle.page.specs.PageValue.{with_row}
use Rattle.key_order.specs.Entries.{entry_place}
use Rattle.words.proofs.LoopLaws.{all_here}
use Rattle.split.specs.SplitWords.{copy_of, fill_page, gain_page}
use Rattle.split.proofs.SplitLaws.{fill_more, fill_none, gain_set}
use Rattle.split.proofs.split.filled.Goals as goal

pub loop-entry-preserved : goal.loop-entry-preserved
loop-entry-preserved c =
    let a = c.args in
    let es = a.entries.now in
    let l = c.loop-entry in
    let more = c.loop-entry-test.true in
    let here : c.born_at.result ≡ copy_of a.words.now a.t (get_or es l.entry-index 0) =
    c.born_at.ensures ∙ ap (born_at a.t) (c.row_at-row.ensures ∙ ap (row_in a.words.now) c.entry_place.ensures) in (
      omega (arith, more, l.invariant.0),
      (all_here es l.entry-index (λ (e : ℕ). row_start (entry_place e) + row_words ≤ length a.words.now) (omega (arith, more)) l.invariant.1).1,
      ap (λ (r : Row). fill_page a.words.now a.t (with_row l.page r) (drop (l.entry-index + 1) es)) here
          ∙ sym (fill_more es l.entry-index a.words.now a.t l.page more) ∙ l.invariant.2,
      length-set l.page.rows l.page.count _ ∙ l.invariant.3,
    )

pub returns : goal.returns
returns c =
    let a = c.args in
    let l = c.loop-entry in
    let all = sym (fill_none a.entries.now l.entry-index a.words.now a.t l.page c.loop-entry-test.false) ∙ l.invariant.2 in
    ap (λ (rows : List Row). record { level = l.page.level; low = l.page.low; high = l.page.high; birth = l.page.birth; count = l.page.count; rows = rows })
    (ap (set l.page.rows 0) c.gained_row.ensures ∙ gain_set a.gain l.page.rows _ (omega (arith, l.invariant.3)))
    ∙ ap (gain_page a.gain) all
