-- Key order is one order: by low key, and rows of one low key by place. No place comes twice.
use Prim.Native.Nat.{ℕ, suc, ◌≤◌, ◌<◌}
use native.Mathlib.Decide.{dec_le}
use native.Mathlib.Omega.{arith}
use mathlib.Core.Path.{◌≡◌, refl}
use mathlib.Core.Bool.{Bool, true, false, cond}
use mathlib.Core.List.{List, [], ◌∷◌}
use lib.Dec.{leb}
use borrow.Author.Tests.{leb-true, leb-false}
use Rattle.tree.specs.declared.types.Row.{Row}
use Rattle.tree.specs.Row.{live}
use Rattle.tree.specs.KeyOrder.{Placed, placed_low, keep_if, live_placed, insert_by, sort_by, key_order}
use Rattle.tree.proofs.Lists.{All, all_map}
use Rattle.tree.proofs.Sorted.{insert_all, sort_all}

-- One item comes before another in key order
pub data Before (x y : Placed) : Type 0 where
  lower : placed_low x < placed_low y → Before x y
  earlier : placed_low x ≡ placed_low y → x.place < y.place → Before x y

abbrev pub InOrder : List Placed → Type 0
InOrder [] = Unit {0}
InOrder (x ∷ xs) = All (Before x) xs × InOrder xs

-- The places rise
abbrev Rising : List Placed → Type 0
Rising [] = Unit {0}
Rising (x ∷ xs) = All (λ (y : Placed). x.place < y.place) xs × Rising xs

before_low : (x y : Placed) → Before x y → placed_low x ≤ placed_low y
before_low x y (lower h) = omega arith
before_low x y (earlier e h) = omega arith

before : (x y : Placed) → placed_low x ≤ placed_low y → x.place < y.place → Before x y
before x y l p = go (dec_le (placed_low y) (placed_low x))
  where
    go : Dec (placed_low y ≤ placed_low x) → Before x y
    go (yes h) = earlier (omega arith) p
    go (no h) = lower (omega arith)

-- An item put in front of the first whose low key is not lower, where all have later places
insert_order : (x : Placed) (ys : List Placed) → All (λ (y : Placed). x.place < y.place) ys → InOrder ys
    → InOrder (insert_by placed_low x ys)
unfolding insert_by
insert_order x [] p o = (tt, tt)
insert_order x (y ∷ ys) p o = go (leb (placed_low x) (placed_low y)) refl (insert_order x ys p.1 o.1)
  where
    later : placed_low x ≤ placed_low y → (zs : List Placed) → All (λ (z : Placed). x.place < z.place) zs
        → All (Before y) zs → All (Before x) zs
    later h [] q b = tt
    later h (z ∷ zs) q b = (before x z (omega (arith, before_low y z b.0)) q.0, later h zs q.1 b.1)

    go : (b : Bool) → leb (placed_low x) (placed_low y) ≡ b → InOrder (insert_by placed_low x ys)
        → InOrder (cond b (x ∷ (y ∷ ys)) (y ∷ insert_by placed_low x ys))
    go true e ih = let h : placed_low x ≤ placed_low y = leb-true _ _ e in ((before x y h p.0, later h ys p.1 o.0), o)
    go false e ih = (insert_all placed_low (Before y) x ys (lower (leb-false _ _ e)) o.0, ih)

sort_order : (xs : List Placed) → Rising xs → InOrder (sort_by placed_low xs)
unfolding sort_by
sort_order [] r = tt
sort_order (x ∷ xs) r = insert_order x (sort_by placed_low xs) (sort_all placed_low _ xs r.0) (sort_order xs r.1)

placed_from : (t from : ℕ) (rows : List Row) → All (λ (x : Placed). from ≤ x.place) (live_placed t from rows)
unfolding live_placed
placed_from t from [] = tt
placed_from t from (r ∷ rs) = go (live t r) (all_map _ _ (λ x h. omega arith) (live_placed t (suc from) rs) (placed_from t (suc from) rs))
  where
    go : (b : Bool) → All (λ (x : Placed). from ≤ x.place) (live_placed t (suc from) rs)
        → All (λ (x : Placed). from ≤ x.place) (keep_if b (record { place = from; row = r }) (live_placed t (suc from) rs))
    go true ih = (omega arith, ih)
    go false ih = ih

placed_rising : (t from : ℕ) (rows : List Row) → Rising (live_placed t from rows)
unfolding live_placed
placed_rising t from [] = tt
placed_rising t from (r ∷ rs) = go (live t r) (placed_rising t (suc from) rs)
  where
    go : (b : Bool) → Rising (live_placed t (suc from) rs)
        → Rising (keep_if b (record { place = from; row = r }) (live_placed t (suc from) rs))
    go true ih = (placed_from t (suc from) rs, ih)
    go false ih = ih

pub order_ordered : (t : ℕ) (rows : List Row) → InOrder (key_order t rows)
order_ordered t rows = sort_order (live_placed t 0 rows) (placed_rising t 0 rows)
