use Rattle.pass_book.proofs.grounds.refusal.Goals as goal

pub returns-in-Ask : goal.returns-in-Ask
returns-in-Ask c = rw c.in-Ask.is (c.asked_refusal.ensures _)
