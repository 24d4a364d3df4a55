-- An event as the code takes it from its bytes.
use Rattle.std.specs.Prelude.{Result, Ok, Err}
use Rattle.store.specs.Trees.{Store}
use Rattle.store.specs.Calls.{start, end}
use Rattle.store.specs.Answers.{Answered, refused_with}
use Rattle.store.specs.Performing.{perform}
use Rattle.store.specs.Refused.{number_of}
use Rattle.store.specs.declared.refusal.Refusal.{Refusal}
use Rattle.events.specs.declared.reading.Event.{Event}
use Rattle.events.specs.declared.reading.Event.TheVariants.{Start, End}

-- What a store answers to it, and what it leaves
abbrev pub answer_of_event : Store → Event → Answered
answer_of_event s (Start tick key weight) = perform s (start tick key weight)
answer_of_event s (End tick number) = perform s (end tick number)

-- and to what was taken from the bytes: the event, or its refusal
abbrev pub answer_of : Store → Result Event Refusal → Answered
answer_of s (Ok event) = answer_of_event s event
answer_of s (Err refusal) = refused_with (number_of refusal) s
