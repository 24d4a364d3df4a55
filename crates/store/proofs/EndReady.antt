-- Ends: the store does as the book does, and agrees with it afterwards.
use Prim.Native.Nat.{ℕ, zero, suc, ◌+◌, ◌-◌, ◌<◌}
use native.Mathlib.Omega.{arith}
use mathlib.Core.Path.{◌≡◌, refl, ap, ap₂, sym, subst, ◌∙◌}
use mathlib.Core.Bool.{Bool, true, cond, false≢true}
use mathlib.Core.List.{List, [], ◌∷◌, ◌++◌}
use lib.ListN.{length, get_or, take, drop, length-append, length-take, length-drop}
use Rattle.std.specs.Prelude.{Option}
use Rattle.words.specs.Lists.{All}
use Rattle.words.specs.Words.{open_end}
use Rattle.tree.specs.RowSteps.{Point}
use Rattle.tree.specs.Grown.{InTime, Room}
use Rattle.tree.proofs.Lists.{all_at}
use Rattle.store.specs.declared.types.OpenPass.{OpenPass}
use Rattle.store.specs.declared.types.FoundPass.{FoundPass}
use Rattle.store.specs.declared.types.TreeName.{TreeName}
use Rattle.store.specs.declared.types.TreeName.TheVariants.{Starts, Ends, Time}
use Rattle.store.specs.Trees.{Store, tree_in}
use Rattle.store.specs.Head.{found_at, find_pass, pass_of}
use Rattle.store.specs.Calls.{end}
use Rattle.store.specs.Writing.{point_of, time_at_start, time_at_end, Entry, end_entries, enter_all, closed_up, ended_head}
use Rattle.store.specs.Performing.{served}
use Rattle.store.specs.Passes.{End, still_open, ended_at, Pass, sum_where}
use Rattle.store.specs.Points.{end_points_of, end_time_of, points_of}
use Rattle.store.specs.Book.{Book, is_open, not_ended, never_started, pass_numbered, book_knows, end_pass_at, book_does}
use Rattle.store.proofs.SumLaws.{sum_where_one}
use Rattle.store.proofs.PointLaws.{points_ended}
use Rattle.store.proofs.BookPasses.{PassKept, ended_length, ended_kept}
use Rattle.store.proofs.OpenPasses.{open_of, open_pass, FoundAt, find_open}
use Rattle.store.proofs.HeadLists.{closed_length, list_closed}
use Rattle.store.proofs.ArgumentFacts.{MayEnd}
use Rattle.store.proofs.Agreement.{TreeTook, Agrees}
use Rattle.store.proofs.TreesTook.{took_same, took_more}
use Rattle.store.proofs.Entering.{HasRoom}
use Rattle.store.proofs.Ready.{Ready}

pub open_inside : (number : ℕ) (passes : List Pass) → is_open (get_or passes number never_started) ≡ true → number < length passes
open_inside number [] e = absurd (false≢true e)
open_inside zero (p ∷ passes) e = omega arith
open_inside (suc number) (p ∷ passes) e = omega (arith, open_inside number passes e)

-- A pass that is open has no end
no_end : (e : End) → not_ended e ≡ true → e ≡ still_open
no_end still_open is = refl
no_end (ended_at e) is = absurd (false≢true is)

module _ (s : Store) (b : Book) (a : Agrees s b) (tick number : ℕ) (tick_fits : tick < open_end)
    (may : MayEnd (book_knows b (end tick number)) tick) where
  abbrev pass : Pass
  pass = pass_numbered b number

  end_open : pass.end ≡ still_open
  end_open = no_end pass.end may.was_open

  abbrev at : FoundAt number tick 0 0 b.passes
  at = find_open number tick 0 0 b.passes may.was_open

  abbrev place : ℕ
  place = 0 + at.at

  abbrev found : Option FoundPass
  found = found_at place (open_pass (0 + number) pass)

  here : pass_of s.head number ≡ found
  here = ap₂ (λ (n : ℕ) (os : List OpenPass). find_pass n 0 os) (omega arith) a.listed ∙ at.found

  abbrev point : Point
  point = point_of tick pass.key pass.weight

  abbrev line : Point
  line = time_at_end tick pass.key pass.weight

  abbrev after : Book
  after = book_does b (end tick number)

  inside_book : number < length b.passes
  inside_book = open_inside number b.passes may.was_open

  known : PassKept b.last pass
  known = all_at (PassKept b.last) b.passes number never_started a.kept.passes inside_book

  in_time : InTime b.last point
  in_time = record { later = may.later; tick = tick_fits; key = known.key }

  line_in_time : InTime b.last line
  line_in_time = record { later = may.later; tick = tick_fits; key = known.key }

  inside : place < s.head.count
  inside = omega (arith, at.inside, a.count)

  abbrev without : ℕ → List OpenPass → List OpenPass
  without i os = take i os ++ drop (suc i) os

  without_length : (i : ℕ) (os : List OpenPass) → i < length os → length (without i os) ≡ length os - 1
  without_length i os h =
      omega (arith, length-append (take i os) (drop (suc i) os), length-take i os, length-drop (suc i) os)

  listed_less : take (s.head.count - 1) (closed_up s.head.passes place s.head.count) ≡ open_of 0 (end_pass_at number tick b.passes)
  listed_less =
      let from_zero : place ≡ at.at = omega arith in
      list_closed s.head.passes place s.head.count inside (omega (arith, a.places, a.most))
      ∙ ap (without place) a.listed
      ∙ ap (λ (i : ℕ). without i (open_of 0 b.passes)) from_zero
      ∙ sym at.closes

  -- The store that an end of the pass that was found leaves
  abbrev store_after : Option FoundPass → Store
  store_after f =
      record { head = ended_head (enter_all s (end_entries tick f)).head tick f; lent = (enter_all s (end_entries tick f)).lent }

  -- While it was open, the pass was no point at an end
  module _ (f : Point → ℕ) (test : Point → Bool) where
    open_adds : sum_where f test (end_points_of pass pass.end) ≡ 0
    unfolding sum_where
    open_adds = ap (λ (e : End). sum_where f test (end_points_of pass e)) end_open

    abbrev begun : Point
    begun = time_at_start pass.start pass.key pass.weight

    one_line : sum_where f test (begun ∷ end_time_of pass pass.end) ≡ cond (test begun) (f begun) 0
    one_line = ap (λ (e : End). sum_where f test (begun ∷ end_time_of pass e)) end_open ∙ sum_where_one f test begun

    two_lines : sum_where f test (begun ∷ (line ∷ [])) ≡ cond (test begun) (f begun) 0 + cond (test line) (f line) 0
    unfolding sum_where
    two_lines = omega arith

  -- The trees of ends and of time take a point each, that of starts none
  trees_after : Room (tree_in s Ends) point → Room (tree_in s Time) line → (name : TreeName)
      → TreeTook (tree_in (store_after found) name) tick (points_of name after.passes)
  trees_after room line_room Starts =
      took_same tick (points_of Starts after.passes) may.later
      (λ f test. omega (arith, points_ended Starts f test number tick b.passes inside_book)) (a.trees Starts)
  trees_after room line_room Ends =
      took_more (a.trees Ends) point in_time room (points_of Ends after.passes)
      (λ f test.
      omega (arith, points_ended Ends f test number tick b.passes inside_book, open_adds f test, sum_where_one f test point))
  trees_after room line_room Time =
      took_more (a.trees Time) line line_in_time line_room (points_of Time after.passes)
      (λ f test. omega (arith, points_ended Time f test number tick b.passes inside_book, one_line f test, two_lines f test))

  ended_agrees : Room (tree_in s Ends) point → Room (tree_in s Time) line → Agrees (store_after found) after
  ended_agrees room line_room =
      record {
        last = refl;
        started = a.started ∙ sym (ended_length number tick b.passes);
        places = closed_length s.head.passes place s.head.count inside (omega (arith, a.places, a.most)) ∙ a.places;
        listed = listed_less;
        count =
            omega (arith, a.count, ap length at.closes, without_length at.at (open_of 0 b.passes) at.inside);
        most = omega (arith, a.most);
        kept = ended_kept b tick number tick_fits may a.kept;
        trees = trees_after room line_room;
      }

  pub end_ready : Ready s b (end tick number)
  unfolding served
  end_ready =
      record {
        lookups = tt;
        entries = subst (λ (f : Option FoundPass). All (λ (e : Entry). InTime b.last e.point) (end_entries tick f)) (sym here) (in_time, (line_in_time, tt));
        serves = λ rooms.
            let room = subst (λ (f : Option FoundPass). All (HasRoom s) (end_entries tick f)) here rooms in
            record {
              answer = refl;
              next = subst (λ (f : Option FoundPass). Agrees (store_after f) after) (sym here) (ended_agrees room.0 room.1.0);
              said = refl;
              most = omega arith;
            };
      }
