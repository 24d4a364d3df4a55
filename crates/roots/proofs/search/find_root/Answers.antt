use native.Mathlib.Omega.{arith}
use mathlib.Core.Path.{◌∙◌}
use Rattle.roots.proofs.search.find_root.Goals as goal

pub returns : goal.returns
returns c = c.walk_roots.ensures ∙ c.skip_later.ensures.by_index c.args.t (omega arith)
