-- The band of a tree, as the code looks it up. A question is the band of the starts less that of the ends.
use Rattle.std.specs.Prelude.{ℕ, ◌+◌, ◌-◌, cond, eqb, Result, Ok, Err}
use Rattle.words.specs.Value.{zero, minus}
use Rattle.tree.specs.declared.types.Lookup.{Lookup}
use Rattle.tree.specs.declared.types.SpoiledPage.{SpoiledPage}
use Rattle.tree.specs.Tree.{Tree}
use Rattle.tree.specs.Lookup.{found, lookup}

-- One lookup less another: spoiled where one of them is; the pages of both were opened
abbrev pub without : Result Lookup SpoiledPage → Result Lookup SpoiledPage → Result Lookup SpoiledPage
without (Err e) low = Err e
without (Ok high) (Err e) = Err e
without (Ok high) (Ok low) = found (minus high.value low.value) (high.pages + low.pages)

-- What a tree has at t from key k1 up to but not k2; from key 0 on there is nothing below
abbrev pub in_band : Tree → ℕ → ℕ → ℕ → Result Lookup SpoiledPage
in_band tree t k1 k2 = cond (eqb k1 0) (lookup tree t (k2 - 1)) (without (lookup tree t (k2 - 1)) (lookup tree t (k1 - 1)))

-- What a lookup finds that is not made
abbrev pub nothing : Result Lookup SpoiledPage
nothing = found zero 0

-- What a tree has before tick t in the band; "t1 = 0 looks up none"
abbrev pub band_before : Tree → ℕ → ℕ → ℕ → Result Lookup SpoiledPage
band_before tree t k1 k2 = cond (eqb t 0) nothing (in_band tree (t - 1) k1 k2)
