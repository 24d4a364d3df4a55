use Prim.Native.Nat.{ℕ, ◌<◌, ◌^◌}
use native.Mathlib.Omega.{arith}
use mathlib.Core.Path.{◌≡◌, ap₂, ◌∙◌}
use Rattle.words.specs.Words.{low_key, high_key}
use Rattle.words.specs.declared.value.Value.{Value}
use Rattle.page.specs.declared.fresh.Page.{Page}
use Rattle.page.specs.PageValue.{empty_page, encode_page}
use Rattle.tree.specs.Row.{word}
use Rattle.tree.specs.Limits.{most_rows}
use Rattle.tree.specs.Tree.{put_page}
use Rattle.split.specs.SplitWords.{between, fill_page, gain_page}
use Rattle.split.proofs.SplitRows.{in_words_between, copy_table}
use borrow.Author.Rules.{rules}
use Rattle.split.proofs.split.copy_rows.Goals as goal

pub put_rows-requires-clause-in_page : goal.put_rows-requires-clause-in_page
put_rows-requires-clause-in_page c =
    let a = c.args in
    in_words_between a.source.t a.source.words.now a.source.order.now a.source.start c.requires.sourced a.source.start most_rows (omega arith)

pub returns : goal.returns
returns c =
    let a = c.args in
    let ws = a.source.words.now in
    let small : (i : ℕ) → word ws i < 2 ^ 64 = λ i. search rules in
    let blank : empty_page (word ws 0) c.low_key.result c.high_key.result a.source.t ≡ empty_page (word ws 0) (low_key (word ws 2)) (high_key (word ws 2)) a.source.t =
    ap₂ (λ (l h : ℕ). empty_page (word ws 0) l h a.source.t) c.low_key.ensures c.high_key.ensures in
    c.put_rows.ensures
    ∙ ap₂ (λ (v : Value) (b : Page). put_page a.table.now a.number (encode_page (gain_page v (fill_page ws a.source.t b (between a.source.start most_rows a.source.order.now)))))
    c.zero.ensures blank
    ∙ copy_table a.source.t ws a.source.order.now a.source.start c.requires.sourced small a.table.now a.number c.requires.most_rows_bound
