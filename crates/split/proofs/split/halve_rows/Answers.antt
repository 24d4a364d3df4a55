use Prim.Native.Nat.{ℕ, ◌+◌, ◌-◌, ◌^◌, ◌≤◌, ◌<◌}
use native.Mathlib.Omega.{arith}
use mathlib.Core.Path.{◌≡◌, ap, ap₂, ◌∙◌}
use mathlib.Core.List.{List}
use lib.ListN.{length}
use Rattle.words.specs.declared.value.Value.{Value}
use Rattle.tree.specs.declared.types.Row.{Row}
use Rattle.tree.specs.Row.{word, row_start, row_words, copy_limit}
use Rattle.tree.specs.Limits.{most_rows}
use Rattle.tree.specs.RowEdits.{row_in}
use Rattle.page.specs.PageValue.{empty_page, encode_page}
use Rattle.key_order.specs.Entries.{entry_place}
use Rattle.words.proofs.LoopLaws.{all_here}
use Rattle.tree.specs.Tree.{put_page}
use Rattle.tree.specs.Overflow.{lower_half}
use Rattle.split.specs.SplitWords.{between, fill_page, gain_page, middle_key}
use Rattle.split.proofs.SplitRows.{in_words_from, in_words_between, middle_is, halve_table}
use borrow.Author.Rules.{rules}
use Rattle.split.proofs.split.halve_rows.Goals as goal

pub row_at-middle-requires : goal.row_at-middle-requires
row_at-middle-requires c =
    let a = c.args in
    let ws = a.source.words.now in
    let os = a.source.order.now in
    let cut : ℕ = c.lower_end-cut.result in
    let where_cut : cut ≡ a.source.start + lower_half (most_rows - a.source.start) = c.lower_end-cut.ensures in
    let many : a.source.start + copy_limit < most_rows = c.requires.copy_limit_bound in
    let above : a.source.start ≤ cut = omega arith in
    let inside : cut < most_rows = omega arith in
    rw c.entry_place.ensures
    (all_here os cut (λ (e : ℕ). row_start (entry_place e) + row_words ≤ length ws) (omega (arith, c.requires.sourced.long)) (in_words_from a.source.t ws os a.source.start c.requires.sourced cut above)).0

pub total_of-below-requires : goal.total_of-below-requires
total_of-below-requires c =
    let a = c.args in
    in_words_between a.source.t a.source.words.now a.source.order.now a.source.start c.requires.sourced a.source.start c.lower_end-cut.result (omega arith)

pub put_rows-requires-clause-in_page : goal.put_rows-requires-clause-in_page
put_rows-requires-clause-in_page c =
    let a = c.args in
    in_words_between a.source.t a.source.words.now a.source.order.now a.source.start c.requires.sourced a.source.start c.lower_end-cut.result (omega arith)

pub put_rows-requires-2-clause-in_page : goal.put_rows-requires-2-clause-in_page
put_rows-requires-2-clause-in_page c =
    let a = c.args in
    let where_cut : c.lower_end-cut.result ≡ a.source.start + lower_half (most_rows - a.source.start) = c.lower_end-cut.ensures in
    in_words_between a.source.t a.source.words.now a.source.order.now a.source.start c.requires.sourced c.lower_end-cut.result most_rows (omega arith)

pub returns : goal.returns
returns c =
    let a = c.args in
    let ws = a.source.words.now in
    let os = a.source.order.now in
    let cut : ℕ = c.lower_end-cut.result in
    let where_cut : cut ≡ a.source.start + lower_half (most_rows - a.source.start) = c.lower_end-cut.ensures in
    let many : a.source.start + copy_limit < most_rows = c.requires.copy_limit_bound in
    let above : a.source.start ≤ cut = omega arith in
    let inside : cut < most_rows = omega arith in
    let small : (i : ℕ) → word ws i < 2 ^ 64 = λ i. search rules in
    let key = c.row_at-middle.result.low in
    let middle : key ≡ middle_key ws a.source.t =
    ap (λ (r : Row). r.low) (c.row_at-middle.ensures ∙ ap (row_in ws) c.entry_place.ensures) ∙ middle_is a.source.t ws os a.source.start c.requires.sourced cut where_cut inside in
    let made : Value → ℕ → ℕ → List ℕ → List ℕ =
    λ (v : Value) (l h : ℕ) (es : List ℕ). encode_page (gain_page v (fill_page ws a.source.t (empty_page (word ws 0) l h a.source.t) es)) in
    record {
      value = middle;
      table_after = c.put_rows-2.ensures
          ∙ ap₂ (λ (l p : List ℕ). put_page l a.second p)
          (c.put_rows.ensures
          ∙ ap₂ (λ (v : Value) (l : ℕ). put_page a.table.now a.first (made v l key (between a.source.start cut os))) c.zero.ensures c.low_key.ensures)
          (ap₂ (λ (v : Value) (h : ℕ). made v key h (between cut most_rows os)) c.total_of-below.ensures c.high_key.ensures)
          ∙ halve_table a.source.t ws os a.source.start c.requires.sourced cut where_cut small a.table.now a.first a.second key middle;
    }
