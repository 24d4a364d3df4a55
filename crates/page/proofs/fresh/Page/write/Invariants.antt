use Rattle.tree.specs.Row.{page_words}
use mathlib.Core.Path.{◌≡◌}
use lib.ListN.{length}
use Prim.Native.Nat.{ℕ}
use mathlib.Core.List.{List}
use Rattle.words.specs.Overwrite.{overwrite}
use Rattle.page.proofs.FreshLaws.{up_to}
use Rattle.page.proofs.fresh.Page.write.Given as goal

abbrev pub invariant-loop-place : goal.invariant-loop-place
invariant-loop-place l = (l.count ≡ l.fn.self.count) × (length l.words ≡ page_words)
    × ((base : List ℕ) × (length base ≡ page_words) × (l.words ≡ overwrite base 0 (up_to l.fn.self l.place)))
