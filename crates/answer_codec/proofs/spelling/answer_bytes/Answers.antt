use Rattle.std.proofs.Common.{ℕ, ◌∷◌, ◌<◌, refl, ap, arith, rules, inl, inr}
use lib.ListN.{replicate}
use Rattle.words.specs.Overwrite.{overwrite}
use Rattle.codec.specs.Bytes.{bytes_of}
use Rattle.answer_codec.proofs.spelling.answer_bytes.Goals as goal

pub returns-in-Refused : goal.returns-in-Refused
unfolding overwrite bytes_of
returns-in-Refused c =
    let fits : c.in-Refused.number < 256 = search rules in
    rw c.in-Refused.is (ap (λ (n : ℕ). n ∷ replicate 17 0) (omega arith))

pub returns-in-Opened : goal.returns-in-Opened
unfolding overwrite bytes_of
returns-in-Opened c = elim c.in-Opened.is [ inl e ↦ rw e refl | inr e ↦ rw e refl ]
