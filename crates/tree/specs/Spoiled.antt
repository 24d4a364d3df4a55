-- "26 spoiled page": the one error that a tree's answers know, also where there is no root for the tick.
use Rattle.std.specs.Prelude.{Result, Err}
use Rattle.tree.specs.declared.types.SpoiledPage.{SpoiledPage}

abbrev pub spoiled : {A : Type 0} → Result A SpoiledPage
spoiled = Err (record {})
