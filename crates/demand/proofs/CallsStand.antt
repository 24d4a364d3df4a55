-- Each event and each command through the block stands in a list of calls as the call that it is.
use Prim.Native.Nat.{ℕ, zero, suc}
use mathlib.Core.Path.{◌≡◌, refl}
use mathlib.Core.List.{List, [], ◌∷◌, ◌++◌}
use Rattle.words.specs.Lists.{All}
use Rattle.store.specs.Trees.{Store}
use Rattle.store.specs.Calls.{Call, Sent}
use Rattle.store.specs.Performing.{perform, store_after}
use Rattle.demand.specs.Bursts.{Asked, unknown_kind, asked, store_behind, unless_refused_whole}
use Rattle.demand.specs.Steps.{calls_asked, calls_tried}
use Rattle.demand.proofs.SentEvents.{SentAsked}

events_stand : (s : Store) (es : List Asked) → store_behind s es ≡ store_after s (calls_asked es)
unfolding store_behind store_after calls_asked
events_stand s [] = refl
events_stand s (unknown_kind ∷ es) = events_stand s es
events_stand s (asked c ∷ es) = events_stand (perform s c).store es

pub step_stands : (n : ℕ) (s : Store) (es : List Asked) → (unless_refused_whole n s es).store ≡ store_after s (calls_tried n es)
unfolding store_after
step_stands zero s es = events_stand s es
step_stands (suc n) s es = refl

-- Some calls, then others
pub after_both : (s : Store) (xs ys : List Call) → store_after (store_after s xs) ys ≡ store_after s (xs ++ ys)
unfolding store_after
after_both s [] ys = refl
after_both s (c ∷ xs) ys = after_both (perform s c).store xs ys

-- Ticks of 32 bits
calls_sent : (es : List Asked) → All SentAsked es → All Sent (calls_asked es)
unfolding calls_asked
calls_sent [] sent = tt
calls_sent (unknown_kind ∷ es) sent = calls_sent es sent.1
calls_sent (asked c ∷ es) sent = (sent.0, calls_sent es sent.1)

pub tried_sent : (n : ℕ) (es : List Asked) → All SentAsked es → All Sent (calls_tried n es)
tried_sent zero es sent = calls_sent es sent
tried_sent (suc n) es sent = tt
