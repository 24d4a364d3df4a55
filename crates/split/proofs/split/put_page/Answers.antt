use Prim.Native.Nat.{◌+◌, ◌*◌, ◌-◌}
use native.Mathlib.Omega.{arith}
use mathlib.Core.Path.{◌≡◌, ap, sym, ◌∙◌}
use lib.ListN.{length}
use borrow.Rule.Slice.PartMut.{mid_of, mid_len}
use Rattle.tree.specs.Row.{page_words}
use Rattle.page.specs.PageValue.{encode_page}
use Rattle.words.proofs.OverwriteLaws.{put_part}
use Rattle.split.proofs.split.put_page.Goals as goal

pub returns : goal.returns
returns c = let s = c.args in
    let a = s.number * page_words in
    let xs = s.table.now in
    let part : length (mid_of a (a + page_words - a) xs) ≡ page_words = mid_len a (a + page_words) xs (omega arith) ∙ omega arith in
    let new : c.write.new.words ≡ encode_page s.page = c.write.ensures in
    let long : length (encode_page s.page) ≡ page_words = sym (ap length new) ∙ c.write.auto.words ∙ part in
    put_part xs a (a + page_words) (encode_page s.page) (omega arith) (omega (arith, long)) new
