-- What is answered by what lookups found.
use Rattle.std.specs.Prelude.{ℕ, ◌+◌, ◌-◌, Result, Ok, Err}
use Rattle.words.specs.Value.{subtract_words, line_at}
use Rattle.tree.specs.declared.types.Lookup.{Lookup}
use Rattle.tree.specs.declared.types.SpoiledPage.{SpoiledPage}
use Rattle.store.specs.declared.types.Answer.{Answer}
use Rattle.store.specs.declared.types.Answer.TheVariants.{Refused, BatTime}
use Rattle.store.specs.Performing.{totals}

-- A lookup's totals, or 26
abbrev pub answer_of : Result Lookup SpoiledPage → Answer
answer_of (Err e) = Refused 26
answer_of (Ok found) = totals found.value found.pages

-- What was found before t2, less what was before t1, each at its own tick; or 26
abbrev pub time_of : (until : Result Lookup SpoiledPage) (t2 : ℕ) (before : Result Lookup SpoiledPage) (t1 : ℕ) → Answer
time_of (Err e) t2 before t1 = Refused 26
time_of (Ok later) t2 (Err e) t1 = Refused 26
time_of (Ok later) t2 (Ok earlier) t1 =
    BatTime (subtract_words (line_at later.value (t2 - 1)) (line_at earlier.value (t1 - 1))) (later.pages + earlier.pages)
