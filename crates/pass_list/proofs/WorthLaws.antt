-- What a pass adds to a lookup, by the points that it has in the tree.
use Rattle.std.proofs.Common.{◌≡◌, ℕ, ◌*◌, ◌%◌, ◌^◌, ◌<◌, Bool, true, false, cond, eqb, [], ◌∷◌, sym, refl, ap, arith}
use Rattle.words.specs.Words.{open_end}
use Rattle.words.specs.Value.{zero, plus, subtract_words, line}
use Rattle.words.proofs.ValueLaws.{Stored, plus_zero}
use Rattle.tree.specs.RowSteps.{Point}
use Rattle.tree.specs.PointSums.{dominated}
use Rattle.tree.specs.TrueValue.{total_where}
use Rattle.store.specs.declared.types.TreeName.TheVariants.{Starts, Ends, Time}
use Rattle.store.specs.Passes.{still_open, ended_at}
use Rattle.store.specs.Writing.{point_of, time_at_end}
use Rattle.store.specs.Points.{end_points_of, end_time_of, points_of_pass}
use Rattle.pass_list.specs.declared.types.ListedPass.{ListedPass}
use Rattle.pass_list.specs.PassList.{pass_of}
use Rattle.pass_list.specs.Counted.{point_worth, end_worth, points_worth}

module _ (t k : ℕ) where
  -- One point
  only_point : (q : Point) → Stored q.value → point_worth t k q.tick q.key q.value ≡ points_worth t k (q ∷ [])
  unfolding total_where
  only_point q h = sym (plus_zero (cond (dominated t k q) q.value zero) (go (dominated t k q)))
    where
      go : (b : Bool) → Stored (cond b q.value zero)
      go true = h
      go false = omega arith

  module _ (p : ListedPass) (light : p.weight < 2 ^ 32) where
    -- The points of a tree
    pub of_starts : point_worth t k p.start p.key (record { count = 1; sum = p.weight }) ≡ points_worth t k (points_of_pass Starts (pass_of p))
    of_starts = only_point (point_of p.start p.key p.weight) (omega (arith, light))

    pub of_ends : end_worth t k p.end p.key (record { count = 1; sum = p.weight }) ≡ points_worth t k (points_of_pass Ends (pass_of p))
    unfolding total_where
    of_ends = go (eqb p.end open_end)
      where
        go : (none : Bool) → cond none zero (point_worth t k p.end p.key (record { count = 1; sum = p.weight }))
            ≡ points_worth t k (end_points_of (pass_of p) (cond none still_open (ended_at p.end)))
        go true = refl
        go false = only_point (point_of p.end p.key p.weight) (omega (arith, light))

    end_of_time : end_worth t k p.end p.key (line (subtract_words 0 p.weight) (p.weight * p.end % 2 ^ 64))
        ≡ points_worth t k (end_time_of (pass_of p) (pass_of p).end)
    unfolding total_where
    end_of_time = go (eqb p.end open_end)
      where
        go : (none : Bool) → cond none zero (point_worth t k p.end p.key (line (subtract_words 0 p.weight) (p.weight * p.end % 2 ^ 64)))
            ≡ points_worth t k (end_time_of (pass_of p) (cond none still_open (ended_at p.end)))
        go true = refl
        go false = only_point (time_at_end p.end p.key p.weight) (omega arith)

    pub of_time :
        plus (point_worth t k p.start p.key (line p.weight (subtract_words p.weight (p.weight * p.start))))
        (end_worth t k p.end p.key (line (subtract_words 0 p.weight) (p.weight * p.end % 2 ^ 64)))
        ≡ points_worth t k (points_of_pass Time (pass_of p))
    unfolding total_where
    of_time =
        ap (plus (point_worth t k p.start p.key (line p.weight (subtract_words p.weight (p.weight * p.start))))) end_of_time
