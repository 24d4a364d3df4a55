use Rattle.std.proofs.Common.{rules, ◌≡◌, ◌∙◌, eqb, count_by, take}
use Rattle.words.specs.Words.{open_end}
use Rattle.pass_list.specs.declared.types.ListedPass.{ListedPass}
use Rattle.pass_list.proofs.TotalLaws.{open_counted}
use Rattle.pass_list.proofs.list.open_count.Goals as goal

pub returns : goal.returns
returns c =
    let counted : c.count-open.result ≡ count_by (λ (p : ListedPass). eqb p.end open_end) (take c.args.started c.args.passes.now) = search rules in
    counted ∙ open_counted _
