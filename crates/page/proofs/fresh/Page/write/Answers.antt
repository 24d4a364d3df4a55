use Rattle.tree.specs.Row.{row_limit, row_start}
use Rattle.tree.specs.Fresh.{zeros}
use mathlib.Core.Path.{◌≡◌, refl, ap, ◌∙◌}
use Prim.Native.Nat.{◌-◌}
use lib.ListN.{length}
use native.Mathlib.Omega.{arith}
use Prim.Native.Nat.{ℕ}
use mathlib.Core.List.{List}
use lib.ListN.{length-set}
use lib.Seq.{length-take-le}
use Rattle.words.specs.Overwrite.{overwrite}
use Rattle.tree.proofs.Lists.{length_mapped}
use Rattle.page.proofs.FreshLaws.{up_to, header_words_lem, row_words_lem, whole_words}
use borrow.Author.Rules.{rules}
use Rattle.page.proofs.fresh.Page.write.Goals as goal

pub bounds-words-1 : goal.bounds-words-1
bounds-words-1 c = simp length-set (omega arith)

pub bounds-words-2 : goal.bounds-words-2
bounds-words-2 c = simp length-set (omega arith)

pub bounds-words-3 : goal.bounds-words-3
bounds-words-3 c = simp length-set (omega arith)

pub loop-place-init : goal.loop-place-init
loop-place-init c = let a = c.args in
    let full : length a.self.rows ≡ row_limit = search (rules, length_mapped) in (
      search rules,
      simp length-set (search rules),
      (a.words.now, search rules, rw c.key_range.ensures (header_words_lem a.words.now a.self (search rules) full)),
    )

pub loop-place-preserved : goal.loop-place-preserved
loop-place-preserved c = let a = c.args in
    let l = c.loop-place in
    let full : length a.self.rows ≡ row_limit = search (rules, length_mapped) in
    let base = l.invariant.2 in (
      search rules,
      search rules,
      (base.0, base.1, rw (c.put_row.ensures, base.2) (row_words_lem base.0 a.self base.1 full _ l.place (omega (arith, length-take-le a.self.count a.self.rows (omega arith))) (search rules))),
    )

pub returns : goal.returns
returns c = let a = c.args in
    let l = c.loop-place in
    let full : length a.self.rows ≡ row_limit = search (rules, length_mapped) in
    let base = l.invariant.2 in
    let n = a.self.count in
    let here : l.place ≡ n = omega arith in
    c.clear_from.ensures
    ∙ ap (λ (at : ℕ). overwrite l.words at (zeros (length l.words - at))) c.row_start.ensures
    ∙ ap (λ (w : List ℕ). overwrite w (row_start n) (zeros (length w - row_start n))) (base.2 ∙ ap (λ (m : ℕ). overwrite base.0 0 (up_to a.self m)) here)
    ∙ whole_words base.0 a.self base.1 full n refl (search rules)
