-- An open pass that is found by its number, in a head that fits: its place is below the open count, and its key is in range.
use Prim.Native.Nat.{ℕ, ◌+◌, ◌<◌}
use native.Mathlib.Omega.{arith}
use mathlib.Core.Path.{◌≡◌, ap}
use mathlib.Core.Bool.{Bool, true, false, cond, and-eq-true_iff}
use mathlib.Core.List.{List, [], ◌∷◌}
use lib.ListN.{length, length-take}
use lib.Dec.{eqb}
use borrow.Author.Tests.{ltb-true}
use Rattle.std.specs.Prelude.{None}
use Rattle.words.specs.Words.{key_limit}
use Rattle.store.specs.declared.types.OpenPass.{OpenPass}
use Rattle.store.specs.declared.types.Head.{Head}
use Rattle.store.specs.declared.types.FoundPass.{FoundPass}
use Rattle.store.specs.Head.{open_passes, found_at, find_pass, pass_of, pass_fits, passes_fit}

pub record FoundFacts (count place : ℕ) (pass : OpenPass) : Type 0 where
  pub inside : place < count
  pub key : pass.key < key_limit

missing : {G : Type 0} {place : ℕ} {pass : OpenPass} → None ≡ found_at place pass → G
missing e = let z : ◌≡◌ {A = ℕ} 0 1 = cc in absurd (omega arith)

found_same : {place place' : ℕ} {pass pass' : OpenPass} → found_at place pass ≡ found_at place' pass' → (place ≡ place') × (pass ≡ pass')
found_same {place} {place'} {pass} {pass'} e =
    let same : ◌≡◌ {A = FoundPass} (record { place = place; pass = pass }) (record { place = place'; pass = pass' }) = cc in
    (ap (λ (f : FoundPass). f.place) same, ap (λ (f : FoundPass). f.pass) same)

module _ (started last number : ℕ) where
  found_in_lem : (from : ℕ) (ps : List OpenPass) → passes_fit started last ps ≡ true → {place : ℕ} {pass : OpenPass}
      → find_pass number from ps ≡ found_at place pass → FoundFacts (from + length ps) place pass
  unfolding find_pass passes_fit
  found_in_lem from [] fit e = missing e
  found_in_lem from (p ∷ ps) fit {place} {pass} e =
      let parts = (and-eq-true_iff (pass_fits started last p) (passes_fit started last ps)).0 fit in
      go (eqb p.number number) e parts.0 (λ f. found_in_lem (from + 1) ps parts.1 f)
    where
      go : (b : Bool) → cond b (found_at from p) (find_pass number (from + 1) ps) ≡ found_at place pass → pass_fits started last p ≡ true
          → (find_pass number (from + 1) ps ≡ found_at place pass → FoundFacts (from + 1 + length ps) place pass) → FoundFacts (from + length (p ∷ ps)) place pass
      go true f fits next =
          let same = found_same f in
          let key : p.key ≡ pass.key = ap (λ (q : OpenPass). q.key) same.1 in
          let facts = simp and-eq-true_iff at fits in
          record { inside = omega (arith, same.0); key = omega (arith, ltb-true p.key key_limit facts.0) }
      go false f fits next = let rest = next f in record { inside = omega (arith, rest.inside); key = rest.key }

pub found_facts : (head : Head) (number : ℕ) → passes_fit head.started head.last (open_passes head) ≡ true → {place : ℕ} {pass : OpenPass}
    → pass_of head number ≡ found_at place pass → FoundFacts head.count place pass
found_facts head number fit e =
    let facts = found_in_lem head.started head.last number 0 (open_passes head) fit e in
    record { inside = omega (arith, facts.inside, length-take head.count head.passes); key = facts.key }
