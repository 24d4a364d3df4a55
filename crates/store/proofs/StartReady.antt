-- Starts: the store does as the book does, and agrees with it afterwards.
use Prim.Native.Nat.{ℕ, ◌+◌, ◌<◌}
use native.Mathlib.Omega.{arith}
use mathlib.Core.Path.{◌≡◌, refl, ap, ap₂, sym, ◌∙◌}
use mathlib.Core.List.{List, [], ◌∷◌, ◌++◌}
use lib.ListN.{length, take, set, length-append, length-set}
use Rattle.tree.specs.RowSteps.{Point}
use Rattle.tree.specs.Grown.{InTime, Room}
use Rattle.store.specs.declared.types.OpenPass.{OpenPass}
use Rattle.store.specs.declared.types.TreeName.{TreeName}
use Rattle.store.specs.declared.types.TreeName.TheVariants.{Starts, Ends, Time}
use Rattle.store.specs.Trees.{Store, tree_in}
use Rattle.store.specs.Head.{open_limit}
use Rattle.store.specs.Calls.{start}
use Rattle.store.specs.Writing.{point_of, time_at_start}
use Rattle.store.specs.Performing.{served}
use Rattle.store.specs.Passes.{still_open, Pass, sum_where}
use Rattle.store.specs.Points.{points_of}
use Rattle.store.specs.Book.{Book, says, book_knows, book_does}
use Rattle.store.proofs.SumLaws.{sum_where_one}
use Rattle.store.proofs.PointLaws.{points_more}
use Rattle.store.proofs.BookPasses.{started_kept}
use Rattle.store.proofs.OpenPasses.{open_of, open_pass, open_count_lem, open_more}
use Rattle.store.proofs.HeadLists.{list_more}
use Rattle.store.proofs.ArgumentFacts.{StartArguments, MayStart}
use Rattle.store.proofs.Agreement.{TreeTook, Agrees}
use Rattle.store.proofs.TreesTook.{took_same, took_more}
use Rattle.store.proofs.Ready.{Ready}

module _ (s : Store) (b : Book) (a : Agrees s b) (tick key weight : ℕ) (arguments : StartArguments tick key weight)
    (may : MayStart (book_knows b (start tick key weight)) tick) where
  abbrev point : Point
  point = point_of tick key weight

  abbrev pass : Pass
  pass = record { key = key; weight = weight; start = tick; end = still_open }

  abbrev after : Book
  after = book_does b (start tick key weight)

  abbrev line : Point
  line = time_at_start tick key weight

  in_time : InTime b.last point
  in_time = record { later = may.later; tick = arguments.bounds.tick; key = arguments.bounds.key }

  line_in_time : InTime b.last line
  line_in_time = record { later = may.later; tick = arguments.bounds.tick; key = arguments.bounds.key }

  room_left : s.head.count < open_limit
  room_left = omega (arith, a.count, open_count_lem 0 b.passes, may.place)

  abbrev grown : List OpenPass
  grown = set s.head.passes s.head.count (record { number = s.head.started; key = key; weight = weight; start = tick })

  number_same : s.head.started ≡ 0 + length b.passes
  number_same = omega (arith, a.started)

  listed_more : take (s.head.count + 1) grown ≡ open_of 0 (b.passes ++ (pass ∷ []))
  listed_more =
      list_more s.head.passes s.head.count _ (omega (arith, a.places, room_left))
      ∙ ap₂ (λ (os : List OpenPass) (n : ℕ). os ++ (open_pass n pass ∷ [])) a.listed number_same
      ∙ sym (open_more 0 b.passes pass refl)

  -- The trees of starts and of time take a point each, that of ends none
  trees_after : Room (tree_in s Starts) point → Room (tree_in s Time) line → (name : TreeName)
      → TreeTook (tree_in (served s (start tick key weight)).store name) tick (points_of name after.passes)
  unfolding served sum_where
  trees_after room line_room Starts =
      took_more (a.trees Starts) point in_time room (points_of Starts after.passes)
      (λ f test. omega (arith, points_more Starts f test b.passes pass, sum_where_one f test point))
  trees_after room line_room Ends =
      took_same tick (points_of Ends after.passes) may.later
      (λ f test. omega (arith, points_more Ends f test b.passes pass)) (a.trees Ends)
  trees_after room line_room Time =
      took_more (a.trees Time) line line_in_time line_room (points_of Time after.passes)
      (λ f test. omega (arith, points_more Time f test b.passes pass, sum_where_one f test line))

  started_agrees : Room (tree_in s Starts) point → Room (tree_in s Time) line → Agrees (served s (start tick key weight)).store after
  unfolding served
  started_agrees room line_room =
      record {
        last = refl;
        started = omega (arith, a.started, length-append b.passes (pass ∷ []));
        places = length-set s.head.passes s.head.count _ ∙ a.places;
        listed = listed_more;
        count =
            omega (
              arith,
              a.count,
              ap length (open_more 0 b.passes pass refl),
              length-append (open_of 0 b.passes) (open_pass (0 + length b.passes) pass ∷ []),
            );
        most = omega (arith, room_left);
        kept = started_kept b tick key weight arguments may a.kept;
        trees = trees_after room line_room;
      }

  pub start_ready : Ready s b (start tick key weight)
  unfolding served
  start_ready =
      record {
        lookups = tt;
        entries = (in_time, (line_in_time, tt));
        serves = λ rooms.
            record {
              answer = ap (λ (n : ℕ). says (n ∷ [])) a.started;
              next = started_agrees rooms.0 rooms.1.0;
              said = refl;
              most = omega arith;
            };
      }
