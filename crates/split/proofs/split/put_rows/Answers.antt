use Prim.Native.Nat.{◌+◌}
use native.Mathlib.Omega.{arith}
use mathlib.Core.Path.{◌≡◌, ap, ◌∙◌}
use lib.ListN.{length}
use Rattle.page.specs.declared.fresh.Page.{Page}
use Rattle.page.specs.PageValue.{empty_page}
use Rattle.tree.specs.Row.{word}
use Rattle.split.proofs.SplitLaws.{filled_count}
use Rattle.split.proofs.split.put_rows.Goals as goal

pub put_page-requires : goal.put_page-requires
put_page-requires c =
    let a = c.args in
    let counted : c.filled.result.count ≡ 0 + length a.entries.now =
    ap (λ (p : Page). p.count) c.filled.ensures
    ∙ filled_count a.words.now a.t (empty_page (word a.words.now 0) a.child.low a.child.high a.t) a.entries.now in
    record {
      page_words_in_bounds = c.requires.page_words_in_bounds;
      count_le_row_limit = omega (arith, c.requires.entries_fit);
    }
