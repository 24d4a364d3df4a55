-- A run from the opened store on is the program's, and what it writes is the output of its whole input.
use mathlib.Core.Path.{◌≡◌, ap, sym, subst, ◌∙◌}
use mathlib.Core.Bool.{Bool, true, false}
use mathlib.Core.List.{List, []}
use Prim.Native.Nat.{ℕ}
use Rattle.store.specs.Trees.{LentTree, Lent, Store}
use Rattle.store.specs.Lending.{store_with}
use Rattle.store.specs.declared.types.Head.{Head}
use Rattle.store.specs.Head.{opened_head}
use Rattle.store.specs.Calls.{opening}
use Rattle.store.specs.Performing.{perform}
use Rattle.replies.specs.declared.types.Reply.{Reply}
use Rattle.replies.specs.Replies.{RepliedAs}
use Rattle.command.specs.Stream.{program_tree, program_lent, program_store, output}
use Rattle.command.specs.Pieces.{Feed, program_feed, written_all, input_of}
use Rattle.command.proofs.AnyPieces.{any_pieces}
use Rattle.turns.specs.Turns.{Served, ServedOn}
use Rattle.detector.specs.Program.{Says}
use Rattle.std.specs.declared.option.Option.{Option}
use Rattle.std.specs.Io.KnownBytes.{Appends}

-- The program's tables before the first byte
pub program_opened : {head : Head} {starts ends time : LentTree} → head ≡ opened_head → starts ≡ program_tree → ends ≡ program_tree → time ≡ program_tree
    → store_with head starts ends time ≡ record { head = opened_head; lent = program_lent }
unfolding program_lent
program_opened h a b c = λ i. store_with (h i) (a i) (b i) (c i)

-- What holds of a run on the opened store holds of the program's
pub from_opened : {s : Store} → s ≡ record { head = opened_head; lent = program_lent } → {reply : Reply} {lent : Lent} → RepliedAs (perform s opening) reply lent
    → (P : Feed → Type 0) → P (record { store = record { head = reply.head; lent = lent }; waiting = []; over = false }) → P program_feed
unfolding program_store
from_opened {s} e {reply} {lent} replied P h =
    let opened : record { head = reply.head; lent = lent } ≡ (perform s opening).store = λ i. record { head = replied.head i; lent = replied.lent_is i } in
    let ours : record { head = reply.head; lent = lent } ≡ program_store = opened ∙ ap (λ (x : Store). (perform x opening).store) e in
    subst (λ (x : Store). P (record { store = x; waiting = []; over = false })) ours h

-- A run that is over has written, piece by piece, the output of its whole input
pub run_writes : {left : Store} {over : Bool} (h : Served program_feed left over) → over ≡ true → written_all program_feed h.pieces ≡ output (input_of h.pieces)
run_writes h e = any_pieces h.pieces h.ends (sym h.over_is ∙ e)

-- so that this is what a writer holds more, and the input what was taken from a reader
pub says : {left : Store} {over : Bool} {unread unread_after held held_after : Option (List ℕ)}
    → ServedOn program_feed left over unread unread_after held held_after → over ≡ true → Says unread unread_after held held_after
says {left} {over} {unread} {unread_after} {held} {held_after} h e =
    record {
      taken = input_of h.served.pieces;
      read = h.read;
      written = subst (λ (l : List ℕ). Appends held held_after l) (run_writes h.served e) h.written;
    }
