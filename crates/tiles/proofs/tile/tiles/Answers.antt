use native.Mathlib.Omega.{arith}
use mathlib.Core.Path.{sym, ◌∙◌}
use borrow.Author.Tests.{eq-eqb, ne_eqb}
use Rattle.tiles.proofs.SpanLaws.{none_empty, tiles_by_spans}
use borrow.Author.Rules.{rules}
use Rattle.tiles.proofs.tile.tiles.Goals as goal

pub returns-then-spanned_total-past : goal.returns-then-spanned_total-past
returns-then-spanned_total-past c =
    let a = c.args in
    rw (tiles_by_spans a.low a.high a.ranges.now (omega arith), ← c.spanned_total.ensures, ne_eqb _ _ c.if-spanned_total-past.true)

pub note_lows-noted-requires : goal.note_lows-noted-requires
note_lows-noted-requires c =
    let a = c.args in
    record {
      ranges_len_bound = search rules;
      ranges_value = none_empty a.low a.high a.ranges.now (omega arith) (sym c.spanned_total.ensures ∙ c.if-spanned_total-past.false);
    }

pub returns-then-is_held : goal.returns-then-is_held
returns-then-is_held c =
    let a = c.args in
    rw (tiles_by_spans a.low a.high a.ranges.now (omega arith), ← c.spanned_total.ensures, eq-eqb _ _ c.if-spanned_total-past.false, sym c.is_held.ensures ∙ c.if-is_held.true, c.each_goes_on.ensures)

pub returns-else-is_held : goal.returns-else-is_held
returns-else-is_held c =
    let a = c.args in
    rw (tiles_by_spans a.low a.high a.ranges.now (omega arith), ← c.spanned_total.ensures, eq-eqb _ _ c.if-spanned_total-past.false, sym c.is_held.ensures ∙ c.if-is_held.false) c.if-is_held.false
