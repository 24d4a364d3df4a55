-- What each pass adds to what is asked, and the total as a value.
use Rattle.std.specs.Prelude.{ℕ, ◌*◌, Bool, true, cond, ◌&&◌, List, ◌==◌, nat_le}
use Rattle.words.specs.Words.{open_end}
use Rattle.words.specs.Value.{zero}
use Rattle.words.specs.declared.value.Value.{Value}
use Rattle.tree.specs.RowSteps.{Point}
use Rattle.tree.specs.PointSums.{dominated}
use Rattle.tree.specs.TrueValue.{total_where}
use Rattle.store.specs.Passes.{Pass, meets}
use Rattle.store.specs.BatTime.{shared_ticks, has_key_in}
use Rattle.store.specs.Points.{points_of_pass}
use Rattle.pass_list.specs.declared.types.Asked.{Asked}
use Rattle.pass_list.specs.declared.types.Asked.TheVariants as ask

-- "points with tick ≤ t and key ≤ k"
abbrev pub is_below : (t k tick key : ℕ) → Bool
is_below t k tick key = nat_le tick t && nat_le key k

-- What a point adds to a lookup
abbrev pub point_worth : (t k tick key : ℕ) → Value → Value
point_worth t k tick key v = cond (is_below t k tick key) v zero

-- A pass has a point at its end "once ended"
abbrev pub end_worth : (t k end key : ℕ) → Value → Value
end_worth t k end key v = cond (end == open_end) zero (point_worth t k end key v)

-- Some points together, modulo 2^64
abbrev pub points_worth : (t k : ℕ) → List Point → Value
points_worth t k points = total_where (λ (p : Point). p.value) (dominated t k) points

-- Which passes count. To a lookup every pass adds what its points do
abbrev pub counts : Asked → Pass → Bool
counts (ask.Question w) p = meets w.k1 w.k2 w.t1 w.t2 p
counts (ask.BatTime w) p = has_key_in w.k1 w.k2 p
counts (ask.Lookup tree t k) p = true

-- What a pass adds that counts: to bat-time "weight times ticks shared", kept where the others have their weight sum
abbrev pub adds : Asked → Pass → Value
adds (ask.Question w) p = record { count = 1; sum = p.weight }
adds (ask.BatTime w) p = record { count = 0; sum = p.weight * shared_ticks w.t1 w.t2 p.start p.end }
adds (ask.Lookup tree t k) p = points_worth t k (points_of_pass tree p)

abbrev pub worth : Asked → Pass → Value
worth asked p = cond (counts asked p) (adds asked p) zero

-- The passes together, modulo 2^64
abbrev pub total_of : Asked → List Pass → Value
total_of asked passes = total_where (adds asked) (counts asked) passes
