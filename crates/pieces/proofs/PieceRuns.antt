-- A piece as the code runs it: what it has taken and written so far, and what is left of the definition.
use Prim.Native.Nat.{ℕ, suc, ◌+◌, ◌-◌, ◌≤◌, ◌<◌}
use native.Mathlib.Nat.{zero-add, sub-zero}
use native.Mathlib.Omega.{arith}
use mathlib.Core.Path.{◌≡◌, refl, ap, ap₂, sym, subst, ◌∙◌}
use mathlib.Core.Bool.{Bool, true, false, true≢false, cond, not, ◌&&◌}
use mathlib.Core.List.{List, [], ◌∷◌, ◌++◌, append_assoc, append-nil}
use lib.ListN.{length, get_or, drop, length-append, length-drop}
use lib.Seq.{drop-cons, drop-drop}
use lib.Dec.{ltb}
use borrow.Author.Tests.{ltb-true, ltb-false, lt-ltb, le-ltb, not-true, not-false}
use Rattle.words.specs.Overwrite.{overwrite}
use Rattle.words.proofs.OverwriteLaws.{overwrite_none, overwrite_more}
use Rattle.store.specs.declared.types.Answer.{Answer}
use Rattle.store.specs.declared.types.Head.{Head}
use Rattle.store.specs.Trees.{Lent, Store}
use Rattle.replies.specs.declared.types.Reply.{Reply}
use Rattle.replies.specs.Replies.{RepliedAs}
use Rattle.command.specs.Stream as stream
use Rattle.command.specs.Stream.{kind_of, operand_bytes, longest_answer, written, answered, goes_on, run_one}
use Rattle.command.specs.Pieces as piece
use Rattle.command.specs.Pieces.{takes_nothing, followed, command_length, must_wait, run_piece}
use Rattle.command.proofs.AnswerLengths.{output_fits}
use Rattle.command.proofs.PieceSteps.{on_whole, has_room, piece_none, piece_waits, piece_stops, piece_goes_on}
use Rattle.pieces.specs.declared.pieces.Fed.{Fed}
use Rattle.pieces.specs.Fed.{runs_at, is_over, FedAs}

-- The command at a place of a piece ran, with what is taken and written counted from the front of the piece and of the answers
pub record RanAt (s : Store) (input : List ℕ) (at : ℕ) (h : Head) (taken from written : ℕ) (before out : List ℕ) (lent : Lent) (on : Bool) : Type 0 where
  pub behind : taken ≡ at + command_length (get_or input at 0) (drop (at + 1) input)
  pub inside : taken ≤ length input
  pub output : out ≡ overwrite before from (run_one s (get_or input at 0) (drop (at + 1) input)).output
  pub size : written ≡ from + length (run_one s (get_or input at 0) (drop (at + 1) input)).output
  pub goes_on_lem : on ≡ (run_one s (get_or input at 0) (drop (at + 1) input)).on
  pub head : h ≡ (run_one s (get_or input at 0) (drop (at + 1) input)).store.head
  pub lent_is : lent ≡ (run_one s (get_or input at 0) (drop (at + 1) input)).store.lent

pub ran_at : (s : Store) (input : List ℕ) (at : ℕ) → at < length input → {rest : List ℕ} → rest ≡ drop (at + 1) input
    → {reply : Reply} {lent : Lent} → RepliedAs (answered s rest (kind_of (get_or input at 0))) reply lent
    → {from size : ℕ} {before out : List ℕ} → out ≡ overwrite before from (written reply.answer) → size ≡ from + length (written reply.answer)
    → {n : ℕ} → n ≡ command_length (get_or input at 0) rest → n ≤ 1 + length rest → {on : Bool} → on ≡ goes_on rest (kind_of (get_or input at 0))
    → RanAt s input at reply.head (at + n) from size before out lent on
ran_at s input at more {rest} e {reply} {lent} replies {from} {size} {before} put sized counted short on =
    let b : ℕ = get_or input at 0 in
    let x : RepliedAs (answered s (drop (at + 1) input) (kind_of b)) reply lent = subst (λ (l : List ℕ). RepliedAs (answered s l (kind_of b)) reply lent) e replies in
    record {
      behind = ap (◌+◌ at) (counted ∙ ap (command_length b) e);
      inside = omega (arith, more, short, ap length e, length-drop (at + 1) input);
      output = put ∙ ap (λ (y : Answer). overwrite before from (written y)) x.answer;
      size = sized ∙ ap (λ (y : Answer). from + length (written y)) x.answer;
      goes_on_lem = on ∙ ap (λ (l : List ℕ). goes_on l (kind_of b)) e;
      head = x.head;
      lent_is = x.lent_is;
    }

-- Whether the command at a place runs, one law for each answer of the code
module _ {on : Bool} (room : ℕ) (ended : Bool) (input : List ℕ) (at : ℕ) where
  pub over_rests : on ≡ false → false ≡ runs_at on room ended input at
  unfolding runs_at
  over_rests off = ap (λ (o : Bool). runs_at o room ended input at) (sym off)

  pub none_rests : on ≡ true → length input ≤ at → false ≡ runs_at on room ended input at
  unfolding runs_at
  none_rests goes none =
      ap₂ (λ (o t : Bool). o && (t && not (must_wait room ended (get_or input at 0) (drop (at + 1) input)))) (sym goes) (sym (le-ltb at (length input) none))

  pub one_runs : on ≡ true → at < length input → {w : Bool} {rest : List ℕ} → rest ≡ drop (at + 1) input → w ≡ must_wait room ended (get_or input at 0) rest
      → not w ≡ runs_at on room ended input at
  unfolding runs_at
  one_runs goes more e tested =
      ap not (tested ∙ ap (must_wait room ended (get_or input at 0)) e)
      ∙ ap₂ (λ (o t : Bool). o && (t && not (must_wait room ended (get_or input at 0) (drop (at + 1) input)))) (sym goes) (sym (lt-ltb at (length input) more))

-- What is known of a command that runs
pub record Ready (on : Bool) (room : ℕ) (ended : Bool) (input : List ℕ) (at : ℕ) : Type 0 where
  pub goes : on ≡ true
  pub more : at < length input
  pub free : must_wait room ended (get_or input at 0) (drop (at + 1) input) ≡ false

pub ready : (on : Bool) (room : ℕ) (ended : Bool) (input : List ℕ) (at : ℕ) → runs_at on room ended input at ≡ true → Ready on room ended input at
unfolding runs_at
ready on room ended input at h =
    let first = both on (ltb at (length input) && not (must_wait room ended (get_or input at 0) (drop (at + 1) input))) h in
    let second = both (ltb at (length input)) (not (must_wait room ended (get_or input at 0) (drop (at + 1) input))) first.1 in
    record { goes = first.0; more = ltb-true at (length input) second.0; free = not-true (must_wait room ended (get_or input at 0) (drop (at + 1) input)) second.1 }
  where
    both : (a b : Bool) → a && b ≡ true → (a ≡ true) × (b ≡ true)
    both true b h = (refl, h)
    both false b h = absurd (true≢false (sym h))

-- Whether the run is over, likewise
module _ {on : Bool} (at count : ℕ) (ended : Bool) where
  pub over_off : on ≡ false → true ≡ is_over on at count ended
  unfolding is_over
  over_off off = ap (λ (o : Bool). is_over o at count ended) (sym off)

  pub over_waiting : on ≡ true → at < count → false ≡ is_over on at count ended
  unfolding is_over
  over_waiting goes more = ap₂ (λ (o t : Bool). cond o (not t && ended) true) (sym goes) (sym (lt-ltb at count more))

  pub over_taken : on ≡ true → count ≤ at → ended ≡ is_over on at count ended
  unfolding is_over
  over_taken goes none = ap₂ (λ (o t : Bool). cond o (not t && ended) true) (sym goes) (sym (le-ltb at count none))

-- What is left of the definition: the rest of the piece, and nothing where the run is over
abbrev left : (room : ℕ) (ended : Bool) → Store → List ℕ → (on : Bool) → piece.Fed
left room ended s bytes on = cond on (run_piece room ended s bytes) (takes_nothing s true)

-- So far: what was said, and the definition's outcome as that with the rest's behind it
pub record Going (out₀ : List ℕ) (ended : Bool) (s₀ : Store) (input : List ℕ) (s : Store) (out : List ℕ) (taken written : ℕ) (on : Bool) : Type 0 where
  pub said : List ℕ
  pub whole : run_piece (length out₀) ended s₀ input ≡ followed taken said (left (length out₀ - written) ended s (drop taken input) on)
  pub output : out ≡ overwrite out₀ 0 said
  pub size : written ≡ length said
  pub inside : taken ≤ length input
  pub fits : written ≤ length out₀

fed_of : {a b : piece.Fed} {r : Fed} {before out : List ℕ} {lent : Lent} → a ≡ b → FedAs b r before out lent → FedAs a r before out lent
fed_of {r = r} {before = before} {out = out} {lent = lent} e h = subst (λ (x : piece.Fed). FedAs x r before out lent) (sym e) h

regroup : (taken n : ℕ) (said o : List ℕ) (f : piece.Fed) → followed taken said (followed n o f) ≡ followed (taken + n) (said ++ o) f
regroup taken n said o f =
    let t : taken + (n + f.taken) ≡ taken + n + f.taken = omega arith in
    let l = sym (append_assoc said o f.output) in
    λ i. record { taken = t i; output = l i; store = f.store; over = f.over }

module _ (out₀ : List ℕ) (ended : Bool) (s₀ : Store) (input : List ℕ) where
  pub begin : Going out₀ ended s₀ input s₀ out₀ 0 0 true
  begin =
      let f : piece.Fed = run_piece (length out₀) ended s₀ input in
      let first : f ≡ followed 0 [] f = λ i. record { taken = sym (zero-add f.taken) i; output = f.output; store = f.store; over = f.over } in
      record {
        said = [];
        whole = first ∙ ap (λ (n : ℕ). followed 0 [] (run_piece n ended s₀ input)) (sym (sub-zero (length out₀)));
        output = sym (overwrite_none out₀ 0);
        size = refl;
        inside = omega arith;
        fits = omega arith;
      }

  module _ (s : Store) (out : List ℕ) (taken written : ℕ) where
    abbrev room : ℕ
    room = length out₀ - written

    abbrev b : ℕ
    b = get_or input taken 0

    abbrev rest : List ℕ
    rest = drop (taken + 1) input

    abbrev does : stream.Ran
    does = run_one s b rest

    here : taken < length input → drop taken input ≡ b ∷ rest
    here more =
        let next : suc taken ≡ taken + 1 = omega arith in
        drop-cons input taken 0 more ∙ ap (λ (n : ℕ). b ∷ drop n input) next

    -- Nothing more is taken
    rests : {on : Bool} → Going out₀ ended s₀ input s out taken written on → (over : Bool) → left room ended s (drop taken input) on ≡ takes_nothing s over
        → FedAs (run_piece (length out₀) ended s₀ input) (record { head = s.head; taken = taken; written = written; over = over }) out₀ out s.lent
    rests g over e =
        fed_of (g.whole ∙ ap (followed taken g.said) e)
        (record {
          taken = omega arith;
          output = g.output ∙ ap (overwrite out₀ 0) (sym (append-nil g.said));
          size = g.size ∙ ap length (sym (append-nil g.said));
          over = refl;
          head = refl;
          lent_is = refl;
        })

    none : (l : List ℕ) → length l ≤ 0 → l ≡ []
    none [] h = refl
    none (x ∷ l) h = absurd (omega arith)

    -- No command runs: it waits, or there is none
    ends_on : Going out₀ ended s₀ input s out taken written true → (t : Bool) → ltb taken (length input) ≡ t → (t && not (must_wait room ended b rest)) ≡ false
        → FedAs (run_piece (length out₀) ended s₀ input) (record { head = s.head; taken = taken; written = written; over = not t && ended }) out₀ out s.lent
    ends_on g true e h =
        rests g false
        (ap (run_piece room ended s) (here (ltb-true taken (length input) e)) ∙ piece_waits room ended s b rest (not-false (must_wait room ended b rest) h))
    ends_on g false e h =
        rests g ended
        (ap (run_piece room ended s) (none (drop taken input) (omega (arith, length-drop taken input, ltb-false taken (length input) e))) ∙ piece_none room ended s)

    pub ends : (on : Bool) → Going out₀ ended s₀ input s out taken written on → runs_at on room ended input taken ≡ false
        → FedAs (run_piece (length out₀) ended s₀ input) (record { head = s.head; taken = taken; written = written; over = is_over on taken (length input) ended }) out₀ out s.lent
    unfolding runs_at is_over
    ends false g h = rests g true refl
    ends true g h = ends_on g (ltb taken (length input)) refl h

    module _ {on : Bool} (g : Going out₀ ended s₀ input s out taken written on) (now : Ready on room ended input taken) where
      pub still_fits : written + longest_answer ≤ length out₀
      still_fits = omega (arith, g.fits, has_room room ended b rest now.free)

      module _ {h : Head} {taken' written' : ℕ} {out' : List ℕ} {lent : Lent} {on' : Bool}
          (ran : RanAt s input taken h taken' written written' out out' lent on') where
        abbrev after : Store
        after = record { head = h; lent = lent }

        stored : does.store ≡ after
        stored i = record { head = sym ran.head i; lent = sym ran.lent_is i }

        -- The definition, past the command that ran
        onward : (o : Bool) → o ≡ does.on
            → run_piece room ended s (b ∷ rest) ≡ followed (command_length b rest) does.output (left (length out₀ - written') ended after (drop taken' input) o)
        onward false e =
            piece_stops room ended s b rest now.free (sym e)
            ∙ ap (λ (x : Store). followed (command_length b rest) does.output (takes_nothing x true)) stored
        onward true e =
            let all = on_whole s b rest (sym e) in
            let roomed : room - length does.output ≡ length out₀ - written' = omega (arith, ran.size) in
            let next : taken + 1 + operand_bytes (kind_of b) ≡ taken' = omega (arith, ran.behind, all) in
            let dropped : drop (operand_bytes (kind_of b)) rest ≡ drop taken' input =
            drop-drop (operand_bytes (kind_of b)) (taken + 1) input ∙ ap (λ (i : ℕ). drop i input) next in
            piece_goes_on room ended s b rest now.free (sym e)
            ∙ (λ i. followed (command_length b rest) does.output (run_piece (roomed i) ended (stored i) (dropped i)))

        pub moves_on : Going out₀ ended s₀ input after out' taken' written' on'
        moves_on =
            record {
              said = g.said ++ does.output;
              whole =
                  g.whole
                  ∙ ap (λ (o : Bool). followed taken g.said (left room ended s (drop taken input) o)) now.goes
                  ∙ ap (followed taken g.said) (ap (run_piece room ended s) (here now.more) ∙ onward on' ran.goes_on_lem)
                  ∙ regroup taken (command_length b rest) g.said does.output (left (length out₀ - written') ended after (drop taken' input) on')
                  ∙ ap (λ (i : ℕ). followed i (g.said ++ does.output) (left (length out₀ - written') ended after (drop taken' input) on')) (sym ran.behind);
              output =
                  ran.output
                  ∙ ap (λ (l : List ℕ). overwrite l written does.output) g.output
                  ∙ overwrite_more out₀ 0 g.said (omega (arith, g.size, g.fits)) written does.output (omega (arith, g.size));
              size = omega (arith, g.size, ran.size, length-append g.said does.output);
              inside = ran.inside;
              fits = omega (arith, still_fits, ran.size, output_fits s b rest);
            }
