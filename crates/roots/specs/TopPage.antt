-- The page where a lookup or an entry starts: that of a root, if it may be one.
use Rattle.std.specs.Prelude.{ℕ, ◌≤◌, cond, Option, Some, None, Result, Ok, Err}
use Rattle.tree.specs.declared.types.SpoiledPage.{SpoiledPage}
use Rattle.tree.specs.Spoiled.{spoiled}
use Rattle.tree.specs.Tree.{Tree, level_of, top_level, root_in_use}
use Rattle.roots.specs.declared.top.Top.{Top}

-- A page where a descent may start, and its level
abbrev pub top_at : ℕ → ℕ → Result Top SpoiledPage
top_at page level = Ok (record { page = page; level = level })

-- The page that a root names, with its level, if a descent may start there
abbrev pub top_of : Tree → Option ℕ → Result Top SpoiledPage
top_of tree None = spoiled
top_of tree (Some page) = cond (root_in_use tree page) (top_at page (level_of tree.table page)) spoiled

abbrev pub TopFits : Result Top SpoiledPage → Type 0
TopFits (Err e) = Unit {0}
TopFits (Ok top) = top.level ≤ top_level
