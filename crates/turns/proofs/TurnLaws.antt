-- A turn is a piece, and a run is a list of pieces.
use Prim.Native.Nat.{ℕ, ◌+◌, ◌-◌, ◌*◌, ◌≤◌}
use native.Mathlib.Omega.{arith}
use mathlib.Core.Path.{◌≡◌, refl, ap, ap₂, sym, subst, ◌∙◌}
use mathlib.Core.Bool.{Bool, true, false, true≢false}
use mathlib.Core.Logic.{inl, inr}
use mathlib.Core.List.{List, [], ◌∷◌, ◌++◌, append_assoc, append-nil}
use lib.ListN.{length, take, drop, length-append, length-drop, take-append-drop}
use lib.Seq.{length-take-le, take-take, take_at}
use Rattle.std.specs.declared.option.Option.{Option}
use Rattle.std.specs.Io.KnownBytes.{Appends, Consumes}
use Rattle.std.proofs.KnownBytes.{Appends-nil, Appends-trans, Consumes-nil, Consumes-trans}
use Rattle.std.proofs.lemmas.List.{drop-take}
use lib.Dec.{eqb}
use Rattle.words.specs.Overwrite.{overwrite}
use Rattle.words.specs.Lists.{All}
use Rattle.tree.proofs.Lists.{all_append}
use Rattle.store.specs.Trees.{Lent, Store}
use Rattle.command.specs.Stream.{longest_answer}
use Rattle.command.specs.Pieces as piece
use Rattle.command.specs.Pieces.{run_piece, Piece, Feed, fed_with, feed_after, feed_all, written_all, input_of, EndsOnce}
use Rattle.command.proofs.PieceReadings.{takes_inside, room_enough, unfinished_short}
use Rattle.pieces.specs.declared.pieces.Fed.{Fed}
use Rattle.pieces.specs.Fed.{FedAs}
use Rattle.turns.specs.Turns.{piece_read, IsRead, feed_of, most_waiting, Turned, TurnedOn, IsCutTurn, most_turns, ServedOn, CutShort}
use Rattle.turn_input.proofs.BufferLaws.{rest_waits}

front_written : (out new : List ℕ) (n : ℕ) → n ≡ length new → take n (overwrite out 0 new) ≡ new
unfolding overwrite
front_written out new n e = take_at new (drop (0 + length new) out) n (sym e)

module _ (s : Store) (room : ℕ) (before : List ℕ) (waiting : ℕ) (read : List ℕ) (came : ℕ) (front : take waiting read ≡ take waiting before)
    (inside : waiting + came ≤ length read) where
  abbrev front_bytes : List ℕ
  front_bytes = take (waiting + came) read

  abbrev bytes : List ℕ
  bytes = drop waiting front_bytes

  came_length : length bytes ≡ came
  came_length = omega (arith, length-drop waiting front_bytes, length-take-le (waiting + came) read inside)

  handed : take waiting before ++ bytes ≡ front_bytes
  handed =
      ap (λ (l : List ℕ). l ++ bytes) (sym front ∙ sym (take-take waiting (waiting + came) read (omega arith)))
      ∙ take-append-drop waiting front_bytes

  abbrev fed : piece.Fed
  fed = run_piece room (eqb came 0) s front_bytes

  same_fed : fed_with (feed_of s before waiting false) (piece_read room bytes) ≡ fed
  same_fed = λ i. run_piece room (eqb (came_length i) 0) s (handed i)

  module _ {r : Fed} {out out' : List ℕ} {lent : Lent} (is : FedAs fed r out out' lent) where
    pub taken_inside : r.taken ≤ waiting + came
    taken_inside = omega (arith, is.taken, takes_inside room (eqb came 0) s front_bytes, length-take-le (waiting + came) read inside)

    -- What was run stays in the tables where it can't be written
    pub cut_turn : IsCutTurn room (feed_of s before waiting false) lent
    cut_turn = inr (bytes, is.lent_is ∙ sym (ap (λ (f : piece.Fed). f.store.lent) same_fed))

    module _ {after : List ℕ} (moved : after ≡ overwrite read 0 (drop r.taken front_bytes)) {left : ℕ} (count : left ≡ waiting + came - r.taken)
        (roomy : 2 * length read + longest_answer ≤ room) where
      enough : 2 * length front_bytes + longest_answer ≤ room
      enough = omega (arith, length-take-le (waiting + came) read inside, inside, roomy)

      still : take left after ≡ drop fed.taken front_bytes
      still =
          ap (take left) moved
          ∙ rest_waits read r.taken (waiting + came) taken_inside inside left count
          ∙ ap (λ (n : ℕ). drop n front_bytes) is.taken

      abbrev turned_here : Turned room (feed_of s before waiting false) (feed_of (record { head = r.head; lent = lent }) after left r.over)
      turned_here =
          let stored : record { head = r.head; lent = lent } ≡ fed.store = λ i. record { head = is.head i; lent = is.lent_is i } in
          let waits : take left after ≡ drop (fed_with (feed_of s before waiting false) (piece_read room bytes)).taken (take waiting before ++ bytes) =
          still ∙ sym (ap₂ (λ (f : piece.Fed) (l : List ℕ). drop f.taken l) same_fed handed) in
          let stored_so = stored ∙ sym (ap (λ (f : piece.Fed). f.store) same_fed) in
          let over_so = is.over ∙ sym (ap (λ (f : piece.Fed). f.over) same_fed) in
          record {
            came = bytes;
            feeds = λ i. record { store = stored_so i; waiting = waits i; over = over_so i };
            goes_on = λ e. ap (λ (n : ℕ). eqb n 0) came_length ∙ (room_enough room (eqb came 0) s front_bytes enough (sym is.over ∙ e)).0;
          }

      -- One turn: the bytes that came are those that were read, and what is said to them is what is written
      pub turned_on : {unread unread_after held held_after : Option (List ℕ)} → Consumes unread unread_after (take came (drop waiting read))
          → Appends held held_after (take r.written out')
          → TurnedOn room (feed_of s before waiting false) (feed_of (record { head = r.head; lent = lent }) after left r.over) unread unread_after held held_after
      turned_on {unread} {unread_after} {held} {held_after} reads writes =
          let said : take r.written out' ≡ (fed_with (feed_of s before waiting false) (piece_read room bytes)).output =
          ap (take r.written) is.output ∙ front_written out fed.output r.written is.size ∙ sym (ap (λ (f : piece.Fed). f.output) same_fed) in
          record {
            turned = turned_here;
            read = subst (λ (l : List ℕ). Consumes unread unread_after l) (sym (drop-take waiting came read)) reads;
            written = subst (λ (l : List ℕ). Appends held held_after l) said writes;
          }

      pub waits_short : r.over ≡ false → left ≤ most_waiting
      waits_short e =
          let short = unfinished_short (drop fed.taken front_bytes) (room_enough room (eqb came 0) s front_bytes enough (sym is.over ∙ e)).1 in
          omega (
            arith,
            short,
            length-drop fed.taken front_bytes,
            length-take-le (waiting + came) read inside,
            is.taken,
            count,
          )

-- Turns so far: pieces of which none was the last, taken from the reader, and what they say behind what the writer held
pub record Going (before now : Feed) (turns : ℕ) (unread unread_now held held_now : Option (List ℕ)) : Type 0 where
  pub pieces : List Piece
  pub reads : All IsRead pieces
  pub open_yet : All (λ (p : Piece). p.ended ≡ false) pieces
  pub feeds : now ≡ feed_all before pieces
  pub count : length pieces ≡ turns
  pub read : Consumes unread unread_now (input_of pieces)
  pub written : Appends held held_now (written_all before pieces)

input_more : (pieces : List Piece) (p : Piece) → input_of pieces ++ p.bytes ≡ input_of (pieces ++ (p ∷ []))
unfolding input_of
input_more [] p = sym (append-nil p.bytes)
input_more (q ∷ pieces) p = append_assoc q.bytes (input_of pieces) p.bytes ∙ ap (λ (l : List ℕ). q.bytes ++ l) (input_more pieces p)

written_more : (f : Feed) (pieces : List Piece) (p : Piece)
    → written_all f pieces ++ (fed_with (feed_all f pieces) p).output ≡ written_all f (pieces ++ (p ∷ []))
unfolding written_all feed_all
written_more f [] p = sym (append-nil (fed_with f p).output)
written_more f (q ∷ pieces) p =
    append_assoc (fed_with f q).output (written_all (feed_after f q) pieces) (fed_with (feed_all (feed_after f q) pieces) p).output
    ∙ ap (λ (l : List ℕ). (fed_with f q).output ++ l) (written_more (feed_after f q) pieces p)

feed_more : (f : Feed) (pieces : List Piece) (p : Piece) → feed_all f (pieces ++ (p ∷ [])) ≡ feed_after (feed_all f pieces) p
unfolding feed_all
feed_more f [] p = refl
feed_more f (q ∷ pieces) p = feed_more (feed_after f q) pieces p

ends_open : (pieces : List Piece) → All (λ (p : Piece). p.ended ≡ false) pieces → EndsOnce pieces
unfolding EndsOnce
ends_open [] h = tt
ends_open (p ∷ pieces) h = (λ e. absurd (true≢false (sym e ∙ h.0)), ends_open pieces h.1)

ends_last : (pieces : List Piece) (p : Piece) → All (λ (q : Piece). q.ended ≡ false) pieces → EndsOnce (pieces ++ (p ∷ []))
unfolding EndsOnce input_of
ends_last [] p h = (λ e. refl, tt)
ends_last (q ∷ pieces) p h = (λ e. absurd (true≢false (sym e ∙ h.0)), ends_last pieces p h.1)

pub first_turn : (f : Feed) (unread held : Option (List ℕ)) → Going f f 0 unread unread held held
unfolding feed_all input_of written_all
first_turn f unread held =
    record {
      pieces = [];
      reads = tt;
      open_yet = tt;
      feeds = refl;
      count = refl;
      read = Consumes-nil unread;
      written = Appends-nil held;
    }

module _ {before now after : Feed} {turns room : ℕ} {unread unread_now unread_after held held_now held_after : Option (List ℕ)}
    (g : Going before now turns unread unread_now held held_now) (t : TurnedOn room now after unread_now unread_after held_now held_after) where
  abbrev next : Piece
  next = piece_read room t.turned.came

  abbrev with_next : List Piece
  with_next = g.pieces ++ (next ∷ [])

  fed_so_far : after ≡ feed_all before with_next
  fed_so_far = t.turned.feeds ∙ ap (λ (f : Feed). feed_after f next) g.feeds ∙ sym (feed_more before g.pieces next)

  read_so_far : Consumes unread unread_after (input_of with_next)
  read_so_far = subst (λ (l : List ℕ). Consumes unread unread_after l) (input_more g.pieces next) (Consumes-trans unread unread_now unread_after (input_of g.pieces) next.bytes g.read t.read)

  written_so_far : Appends held held_after (written_all before with_next)
  written_so_far =
      let said : written_all before g.pieces ++ (fed_with now next).output ≡ written_all before with_next =
      ap (λ (f : Feed). written_all before g.pieces ++ (fed_with f next).output) g.feeds ∙ written_more before g.pieces next in
      subst (λ (l : List ℕ). Appends held held_after l) said (Appends-trans held held_now held_after (written_all before g.pieces) (fed_with now next).output g.written t.written)

  pub one_turn_more : {n : ℕ} → n ≡ turns + 1 → after.over ≡ false
      → Going before (record { store = after.store; waiting = after.waiting; over = false }) n unread unread_after held held_after
  one_turn_more e off =
      let off_so = sym off in
      let same : record { store = after.store; waiting = after.waiting; over = false } ≡ after = λ i. record { store = after.store; waiting = after.waiting; over = off_so i } in
      record {
        pieces = with_next;
        reads = all_append IsRead g.pieces (next ∷ []) g.reads (refl, tt);
        open_yet = all_append (λ (p : Piece). p.ended ≡ false) g.pieces (next ∷ []) g.open_yet (t.turned.goes_on off, tt);
        feeds = same ∙ fed_so_far;
        count = omega (arith, length-append g.pieces (next ∷ []), g.count, e);
        read = read_so_far;
        written = written_so_far;
      }

  pub last_turn : after.over ≡ true → ServedOn before after.store after.over unread unread_after held held_after
  last_turn e =
      record {
        served = record {
          pieces = with_next;
          reads = all_append IsRead g.pieces (next ∷ []) g.reads (refl, tt);
          ends = ends_last g.pieces next g.open_yet;
          store = ap (λ (f : Feed). f.store) fed_so_far;
          over_is = ap (λ (f : Feed). f.over) fed_so_far;
          finished = inl e;
        };
        read = read_so_far;
        written = written_so_far;
      }

pub no_turn_left : {before now : Feed} {turns : ℕ} {unread unread_now held held_now : Option (List ℕ)} → Going before now turns unread unread_now held held_now
    → turns ≡ most_turns → {over : Bool} → over ≡ now.over → ServedOn before now.store over unread unread_now held held_now
no_turn_left g all e =
    record {
      served = record {
        pieces = g.pieces;
        reads = g.reads;
        ends = ends_open g.pieces g.open_yet;
        store = ap (λ (f : Feed). f.store) g.feeds;
        over_is = e ∙ ap (λ (f : Feed). f.over) g.feeds;
        finished = inr (g.count ∙ all);
      };
      read = g.read;
      written = g.written;
    }

-- An error of reading or writing leaves what the pieces so far left, or those and one more
pub cut_run : {before now : Feed} {turns : ℕ} {unread unread_now held held_now : Option (List ℕ)} {lent : Lent} (room : ℕ)
    → Going before now turns unread unread_now held held_now → IsCutTurn room now lent → CutShort before lent
cut_run room g (inl e) =
    record {
      pieces = g.pieces;
      reads = g.reads;
      ends = ends_open g.pieces g.open_yet;
      lent = e ∙ ap (λ (f : Feed). f.store.lent) g.feeds;
    }
cut_run {before} room g (inr (came, e)) =
    let next : Piece = piece_read room came in
    record {
      pieces = g.pieces ++ (next ∷ []);
      reads = all_append IsRead g.pieces (next ∷ []) g.reads (refl, tt);
      ends = ends_last g.pieces next g.open_yet;
      lent = e ∙ ap (λ (f : Feed). (feed_after f next).store.lent) g.feeds ∙ sym (ap (λ (f : Feed). f.store.lent) (feed_more before g.pieces next));
    }
