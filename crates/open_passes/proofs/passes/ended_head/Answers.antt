use Rattle.std.proofs.Common.{rules, ◌≡◌, ◌+◌, ◌-◌, length, refl, arith}
use Rattle.tree.proofs.Lists.{length_mapped}
use Rattle.store.specs.Head.{open_limit, no_pass}
use Rattle.open_passes.proofs.ClosingUp.{closing}
use Rattle.open_passes.proofs.passes.ended_head.Goals as goal

pub returns : goal.returns
returns c = λ pass. let a = c.args in
    let full : length a.head.passes ≡ open_limit = search (rules, length_mapped) in
    let count : a.head.count - 1 + 1 ≡ a.head.count = omega arith in
    let closed = closing a.head.passes a.place (a.head.count - 1) (a.head.count - 1 + 1 - (a.place + 1)) (omega arith) (omega arith) in
    let zeros : c.default-empty.result ≡ no_pass = search rules in
    rw (zeros, c.copy_within.ensures.after) (rw closed (rw count refl))
