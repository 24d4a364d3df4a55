-- Answers that are equal: a spoiled page is no value, and equal values have equal parts.
use Prim.Native.Nat.{ℕ}
use native.Mathlib.Omega.{arith}
use mathlib.Core.Path.{◌≡◌, ap}
use Rattle.std.specs.Prelude.{Result, Ok}
use Rattle.words.specs.declared.value.Value.{Value}
use Rattle.tree.specs.declared.types.SpoiledPage.{SpoiledPage}
use Rattle.tree.specs.declared.types.RootChange.{RootChange}
use Rattle.tree.specs.declared.types.Lookup.{Lookup}
use Rattle.tree.specs.declared.types.Plan.{Plan}
use Rattle.tree.specs.Spoiled.{spoiled}
use Rattle.tree.specs.Lookup.{found}
use Rattle.tree.specs.Plan.{ready}

pub not_spoiled : {G A : Type 0} {a : A} → ◌≡◌ {A = Result A SpoiledPage} spoiled (Ok a) → G
not_spoiled e = let z : ◌≡◌ {A = ℕ} 0 1 = cc in absurd (omega arith)

pub same_answer : {A : Type 0} {a b : A} → ◌≡◌ {A = Result A SpoiledPage} (Ok a) (Ok b) → a ≡ b
same_answer e = cc

pub same_found : {v w : Value} {m n : ℕ} → found v m ≡ found w n → (v ≡ w) × (m ≡ n)
same_found e = let a = same_answer e in (ap (λ (l : Lookup). l.value) a, ap (λ (l : Lookup). l.pages) a)

pub same_ready : {m n : ℕ} {r s : RootChange} → ready m r ≡ ready n s → (m ≡ n) × (r ≡ s)
same_ready e = let a = same_answer e in (ap (λ (p : Plan). p.made) a, ap (λ (p : Plan). p.root) a)
