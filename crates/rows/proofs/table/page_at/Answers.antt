use Prim.Native.Nat.{ℕ, ◌+◌, ◌-◌, ◌*◌}
use native.Mathlib.Omega.{arith}
use mathlib.Core.Path.{◌≡◌, ap}
use lib.ListN.{take, drop}
use Rattle.tree.specs.Row.{page_words}
use Rattle.rows.proofs.table.page_at.Goals as goal

pub returns : goal.returns
returns c =
    let a = c.args in
    let long : a.page * page_words + page_words - a.page * page_words ≡ page_words = omega arith in
    ap (λ (n : ℕ). take n (drop (a.page * page_words) a.table.now)) long
