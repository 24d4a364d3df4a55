-- What is known of an entry before anything is written: 26, the pages that the splits make, "counted as if table and root list had room",
-- and whether a root entry is added, replaced or neither.
use Rattle.std.specs.Prelude.{ℕ, zero, suc, Bool, true, false, cond, ◌&&◌, not, eqb, Option, Some, None, Result, Ok}
use Rattle.words.specs.Words.{key_limit}
use Rattle.tree.specs.declared.types.Row.{Row}
use Rattle.tree.specs.Row.{rows_of}
use Rattle.tree.specs.KeyOrder.{Placed}
use Rattle.tree.specs.TrueValue.{Search, none, one}
use Rattle.tree.specs.declared.types.SpoiledPage.{SpoiledPage}
use Rattle.tree.specs.Spoiled.{spoiled}
use Rattle.tree.specs.declared.types.RootChange.{RootChange}
use Rattle.tree.specs.declared.types.Plan.{Plan}
use Rattle.tree.specs.Tree.{Tree, page_at, level_of, root_at, root_in_use, met_at, top_level}
use Rattle.tree.specs.RowSteps.{Point, row_around}
use Rattle.tree.specs.declared.types.Became.{Became}
use Rattle.tree.specs.declared.types.Became.TheVariants.{Stays, Copied, Halved}
use Rattle.tree.specs.Enter.{enter_from, enter_root}

-- The pages met by the descent of step 1: each is tested, and none below the row that ends it
abbrev pub sound_below : (Row → Bool) → Search Placed → Bool
sound_below below none = true
sound_below below (one x) = below x.row

unfoldable pub descent_sound : Tree → Point → (level low high page : ℕ) → Bool
descent_sound tree p zero low high page = met_at tree p.tick 0 low high page
descent_sound tree p (suc l) low high page =
    met_at tree p.tick (suc l) low high page
    && sound_below (λ (row : Row). descent_sound tree p l row.low row.high row.child) (row_around p (rows_of (page_at tree.table page)))

-- "a level 3 root whose rows must go to two pages"
abbrev pub is_halved : Became → Bool
is_halved Stays = false
is_halved (Copied c) = false
is_halved (Halved c d) = true

abbrev pub top_must_split : Tree → Point → ℕ → Bool
top_must_split tree p page =
    eqb (level_of tree.table page) top_level && is_halved (enter_from tree p (level_of tree.table page) page).became

-- The pages that an entry makes, and what it does to the root list
abbrev pub ready : ℕ → RootChange → Result Plan SpoiledPage
ready made root = Ok (record { made = made; root = root })

abbrev pub plan_root : Tree → Point → Option ℕ → Result Plan SpoiledPage
plan_root tree p None = spoiled
plan_root tree p (Some page) =
    cond (root_in_use tree page && (descent_sound tree p (level_of tree.table page) 0 key_limit page && not (top_must_split tree p page)))
    (ready (enter_root tree p page).made (enter_root tree p page).root)
    spoiled

unfoldable pub plan : Tree → Point → Result Plan SpoiledPage
plan tree p = plan_root tree p (root_at tree p.tick)

-- The tree after the entry. Where there is no root, nothing is entered; the plan is then spoiled.
abbrev pub entered_root : Tree → Point → Option ℕ → Tree
entered_root tree p None = tree
entered_root tree p (Some page) = (enter_root tree p page).tree

unfoldable pub enter : Tree → Point → Tree
enter tree p = entered_root tree p (root_at tree p.tick)
