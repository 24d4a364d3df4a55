use Prim.Native.Nat.{◌+◌, ◌*◌}
use mathlib.Core.Path.{◌≡◌}
use mathlib.Core.List.{List}
use Prim.Native.Nat.{ℕ}
use lib.ListN.{length, take}
use native.Mathlib.Omega.{arith}
use lib.Seq.{length-take-le}
use Rattle.words.proofs.OverwriteLaws.{put_part}
use Rattle.enter.proofs.CopyLaws.{part_length}
use borrow.Author.Rules.{rules}
use Rattle.tree.specs.Row.{page_words}
use Rattle.enter.proofs.entering.store_page.Goals as goal

pub slice_bounds-kept-end : goal.slice_bounds-kept-end
slice_bounds-kept-end c = omega (arith, length-take-le page_words c.args.words.now (omega arith))

pub copy_from_slice-requires : goal.copy_from_slice-requires
copy_from_slice-requires c =
    let a = c.args in
    let size : length (take page_words a.words.now) ≡ page_words = length-take-le page_words a.words.now (omega arith) in
    omega (arith, part_length a.table.now a.page (search rules))

pub returns : goal.returns
returns c =
    let a = c.args in
    let new : List ℕ = take page_words a.words.now in
    let size : length new ≡ page_words = length-take-le page_words a.words.now (omega arith) in
    put_part a.table.now (a.page * page_words) (a.page * page_words + page_words) new (omega arith) (omega arith) c.copy_from_slice.ensures.after
