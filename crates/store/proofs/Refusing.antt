-- What a call says that passes a refusal on.
use mathlib.Core.Path.{◌≡◌, ap}
use Rattle.std.specs.declared.result.Result.{Result}
use Rattle.std.specs.declared.result.Result.TheVariants.{Ok, Err}
use Rattle.std.specs.Result.{IsErrAnd}
use Rattle.store.specs.declared.refusal.Refusal.{Refusal}
use Rattle.store.specs.Refused.{number_of, told}

pub told_on : {A : Type 0} (r : Refusal) (result : Result A Refusal) → IsErrAnd result (λ (e : Refusal). e ≡ r) → told result ≡ number_of r
told_on r (Ok x) e = absurd e
told_on r (Err x) e = ap number_of e
