use Rattle.page.specs.PageValue.{no_rows}
use Rattle.page.proofs.fresh.Page.empty.Goals as goal

pub returns : goal.returns
unfolding no_rows
returns c = rw c.zero.ensures
