-- The grounds of a call's arguments, and of what a head or a book knows, in words, both ways.
use Prim.Native.Nat.{ℕ, ◌≤◌, ◌<◌}
use native.Mathlib.Omega.{arith}
use mathlib.Core.Path.{◌≡◌, refl, sym}
use mathlib.Core.Bool.{Bool, true, false, not, false≢true}
use mathlib.Core.List.{List}
use lib.Dec.{leb, ltb, eqb}
use borrow.Author.Tests.{lt-leb, leb-false, le-ltb, ltb-false, ne_eqb, eqb-false}
use Rattle.words.specs.Lists.{All}
use Rattle.words.specs.Words.{key_limit, open_end}
use Rattle.tree.proofs.Lists.{all_map}
use Rattle.store.specs.declared.types.TreeName.{TreeName}
use Rattle.store.specs.Head.{pass_limit, open_limit, weight_limit}
use Rattle.store.specs.Calls.{Call, start, end, question, lookup_in}
use Rattle.store.specs.Refusals.{Ground, first_met}
use Rattle.store.specs.Grounds.{Known, argument_grounds, state_grounds}
use Rattle.store.proofs.RefusalLaws.{or_false, Numbered, none_met}
use Rattle.store.proofs.NumberOrder.{Between, rises_between, arguments_rise, states_rise}

-- A tick and a key that a lookup may have
pub record InBounds (t k : ℕ) : Type 0 where
  pub tick : t < open_end
  pub key : k < key_limit

-- The arguments of a start
pub record StartArguments (tick key weight : ℕ) : Type 0 where
  pub bounds : InBounds tick key
  pub some : 1 ≤ weight
  pub weight_fits : weight ≤ weight_limit

-- A band and ticks that a question may have
pub record Asked (k1 k2 t1 t2 : ℕ) : Type 0 where
  pub low : k1 < key_limit
  pub high : k2 ≤ key_limit
  pub band : k1 < k2
  pub ticks : t1 < t2

-- What a head or a book knows that does not refuse a start
pub record MayStart (known : Known) (tick : ℕ) : Type 0 where
  pub later : known.last ≤ tick
  pub place : known.count < open_limit
  pub number : known.started < pass_limit

-- or an end: the pass is open; it may have started at the same tick
pub record MayEnd (known : Known) (tick : ℕ) : Type 0 where
  pub later : known.last ≤ tick
  pub was_open : known.found ≡ true

-- "A condition that holds is always refused; nothing else is." These are not refused
module _ (tick key weight : ℕ) where
  pub start_passes : StartArguments tick key weight → first_met (argument_grounds (start tick key weight)) ≡ 0
  unfolding first_met
  start_passes h =
      rw (
        lt-leb key_limit key h.bounds.key,
        ne_eqb weight 0 (λ e. omega (arith, e, h.some)),
        le-ltb weight_limit weight h.weight_fits,
        ne_eqb tick open_end (λ e. omega (arith, e, h.bounds.tick)),
      ) refl

  pub start_may : (known : Known) → MayStart known tick → first_met (state_grounds known (start tick key weight)) ≡ 0
  unfolding first_met
  start_may known h =
      rw (
        le-ltb tick known.last h.later,
        lt-leb open_limit known.count h.place,
        lt-leb pass_limit known.started h.number,
      ) refl

module _ (tick number : ℕ) where
  pub end_passes : tick < open_end → first_met (argument_grounds (end tick number)) ≡ 0
  unfolding first_met
  end_passes h = rw (ne_eqb tick open_end (λ e. omega (arith, e, h))) refl

  pub end_may : (known : Known) → MayEnd known tick → first_met (state_grounds known (end tick number)) ≡ 0
  unfolding first_met
  end_may known h = rw (le-ltb tick known.last h.later, h.was_open) refl

pub question_passes : (k1 k2 t1 t2 : ℕ) → Asked k1 k2 t1 t2 → first_met (argument_grounds (question k1 k2 t1 t2)) ≡ 0
unfolding first_met
question_passes k1 k2 t1 t2 h =
    rw (
      lt-leb key_limit k1 h.low,
      le-ltb key_limit k2 h.high,
      lt-leb k2 k1 h.band,
      lt-leb t2 t1 h.ticks,
    ) refl

pub lookup_passes : (tree : TreeName) (t k : ℕ) → InBounds t k → first_met (argument_grounds (lookup_in tree t k)) ≡ 0
unfolding first_met
lookup_passes tree t k h = rw (lt-leb key_limit k h.key, ne_eqb t open_end (λ e. omega (arith, e, h.tick))) refl

-- The numbers that the book knows: none of 20, 26, 27 and 28
pub record Usual (n : ℕ) : Type 0 where
  pub some : 1 ≤ n
  pub not_20 : n ≡ 20 → ⊥
  pub not_26 : n ≡ 26 → ⊥
  pub not_27 : n ≡ 27 → ⊥
  pub not_28 : n ≡ 28 → ⊥

abbrev pub AllUsual : List Ground → Type 0
AllUsual gs = All (λ (g : Ground). Usual g.number) gs

-- Of the input up to 5, and of the state from 21 to 25
pub arguments_usual : (c : Call) → AllUsual (argument_grounds c)
arguments_usual c =
    all_map (Between 1 5) (λ (g : Ground). Usual g.number)
    (λ g b.
    record {
      some = b.0;
      not_20 = λ e. omega (arith, b.1);
      not_26 = λ e. omega (arith, b.1);
      not_27 = λ e. omega (arith, b.1);
      not_28 = λ e. omega (arith, b.1);
    })
    (argument_grounds c) (rises_between 1 5 (argument_grounds c) (arguments_rise c))

pub states_usual : (known : Known) (c : Call) → AllUsual (state_grounds known c)
states_usual known c =
    all_map (Between 21 25) (λ (g : Ground). Usual g.number)
    (λ g b.
    record {
      some = omega (arith, b.0);
      not_20 = λ e. omega (arith, b.0);
      not_26 = λ e. omega (arith, b.1);
      not_27 = λ e. omega (arith, b.1);
      not_28 = λ e. omega (arith, b.1);
    })
    (state_grounds known c) (rises_between 21 25 (state_grounds known c) (states_rise known c))

pub usual_numbered : (gs : List Ground) → AllUsual gs → Numbered gs
usual_numbered gs h = all_map (λ (g : Ground). Usual g.number) (λ (g : Ground). 1 ≤ g.number) (λ g u. u.some) gs h

pub arguments_numbered : (c : Call) → Numbered (argument_grounds c)
arguments_numbered c = usual_numbered (argument_grounds c) (arguments_usual c)

pub states_numbered : (known : Known) (c : Call) → Numbered (state_grounds known c)
states_numbered known c = usual_numbered (state_grounds known c) (states_usual known c)

-- A tick of 32 bits that is not 4,294,967,295
pub below_open : (tick : ℕ) → tick ≤ open_end → eqb tick open_end ≡ false → tick < open_end
below_open tick wide e = below (eqb-false tick open_end e)
  where
    below : (tick ≡ open_end → ⊥) → tick < open_end
    below n = omega (arith, n)

pub lookup_bounds : (tree : TreeName) (t k : ℕ) → t ≤ open_end → first_met (argument_grounds (lookup_in tree t k)) ≡ 0 → InBounds t k
lookup_bounds tree t k wide e =
    let none = none_met (argument_grounds (lookup_in tree t k)) (arguments_numbered (lookup_in tree t k)) e in
    record { tick = below_open t wide none.1.0; key = leb-false key_limit k none.0 }

pub start_arguments : (tick key weight : ℕ) → tick ≤ open_end → first_met (argument_grounds (start tick key weight)) ≡ 0 → StartArguments tick key weight
start_arguments tick key weight wide e =
    let none = none_met (argument_grounds (start tick key weight)) (arguments_numbered (start tick key weight)) e in
    let weights = or_false (eqb weight 0) (ltb weight_limit weight) none.1.0 in
    record {
      bounds = record { tick = below_open tick wide none.1.1.0; key = leb-false key_limit key none.0 };
      some = above (eqb-false weight 0 weights.0);
      weight_fits = ltb-false weight_limit weight weights.1;
    }
  where
    above : (weight ≡ 0 → ⊥) → 1 ≤ weight
    above n = omega (arith, n)

pub end_tick : (tick number : ℕ) → tick ≤ open_end → first_met (argument_grounds (end tick number)) ≡ 0 → tick < open_end
end_tick tick number wide e = below_open tick wide (none_met (argument_grounds (end tick number)) (arguments_numbered (end tick number)) e).0

pub asked : (k1 k2 t1 t2 : ℕ) → first_met (argument_grounds (question k1 k2 t1 t2)) ≡ 0 → Asked k1 k2 t1 t2
asked k1 k2 t1 t2 e =
    let none = none_met (argument_grounds (question k1 k2 t1 t2)) (arguments_numbered (question k1 k2 t1 t2)) e in
    let keys = or_false (leb key_limit k1) (ltb key_limit k2) none.0 in
    record {
      low = leb-false key_limit k1 keys.0;
      high = ltb-false key_limit k2 keys.1;
      band = leb-false k2 k1 none.1.0;
      ticks = leb-false t2 t1 none.1.1.0;
    }

pub may_start : (known : Known) (tick key weight : ℕ) → first_met (state_grounds known (start tick key weight)) ≡ 0 → MayStart known tick
may_start known tick key weight e =
    let none = none_met (state_grounds known (start tick key weight)) (states_numbered known (start tick key weight)) e in
    record {
      later = ltb-false tick known.last none.0;
      place = leb-false open_limit known.count none.1.0;
      number = leb-false pass_limit known.started none.1.1.0;
    }

pub may_end : (known : Known) (tick number : ℕ) → first_met (state_grounds known (end tick number)) ≡ 0 → MayEnd known tick
may_end known tick number e =
    let none = none_met (state_grounds known (end tick number)) (states_numbered known (end tick number)) e in
    record { later = ltb-false tick known.last none.0; was_open = go known.found none.1.0 }
  where
    go : (found : Bool) → not found ≡ false → found ≡ true
    go true e = refl
    go false e = absurd (false≢true (sym e))
