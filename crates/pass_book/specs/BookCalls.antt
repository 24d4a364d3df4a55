-- The code's calls, as those of the definitions.
use Rattle.store.specs.Calls as calls
use Rattle.pass_list.specs.declared.types.Asked.{Asked}
use Rattle.pass_list.specs.declared.types.Asked.TheVariants as ask
use Rattle.pass_book.specs.declared.types.Call.{Call}
use Rattle.pass_book.specs.declared.types.Call.TheVariants as made

abbrev pub asked_call : Asked → calls.Call
asked_call (ask.Question w) = calls.question w.k1 w.k2 w.t1 w.t2
asked_call (ask.BatTime w) = calls.bat_time w.k1 w.k2 w.t1 w.t2
asked_call (ask.Lookup tree t k) = calls.lookup_in tree t k

abbrev pub call_of : Call → calls.Call
call_of made.Open = calls.opening
call_of (made.Start tick key weight) = calls.start tick key weight
call_of (made.End tick number) = calls.end tick number
call_of (made.Ask asked) = asked_call asked
