-- 26, 27 and 28 of one entry.
use Rattle.std.specs.Prelude.{List, [], ◌∷◌, Result}
use Rattle.tree.specs.declared.types.SpoiledPage.{SpoiledPage}
use Rattle.tree.specs.declared.types.Plan.{Plan}
use Rattle.tree.specs.Tree.{Tree}
use Rattle.store.specs.Refusals.{Ground, ◌gives◌}
use Rattle.store.specs.Writing.{plan_spoiled, lacks_pages, lacks_root}

-- One entry, by its plan
abbrev pub plan_grounds : Tree → Result Plan SpoiledPage → List Ground
plan_grounds t p = plan_spoiled p gives 26 ∷ (lacks_pages t p gives 27 ∷ (lacks_root t p gives 28 ∷ []))
