-- Which command a byte stands for, by the tests that the code makes of it, and what the command answers, by how many bytes follow.
use Prim.Native.Nat.{ℕ, ◌≤◌, ◌<◌}
use native.Mathlib.Omega.{arith}
use mathlib.Core.Path.{◌≡◌, ap}
use mathlib.Core.Bool.{Bool, true, false, cond, ◌||◌}
use mathlib.Core.List.{List}
use lib.ListN.{length}
use lib.Dec.{eqb}
use borrow.Author.Tests.{eq-eqb, ne_eqb, lt-ltb, le-ltb}
use Rattle.store.specs.Trees.{Store}
use Rattle.store.specs.Answers.{refused_with}
use Rattle.store.specs.Calls.{Call}
use Rattle.store.specs.Performing.{perform}
use Rattle.command.specs.Stream.{Kind, unknown, command, start_command, end_command, event_kind, is_query, query_kind, kind_of, operand_bytes, answered}

abbrev events : Bool → Bool → Kind
events x y = cond x (command 8 start_command) (cond y (command 8 end_command) unknown)

module _ (code : ℕ) where
  pub kind_query : is_query code ≡ true → kind_of code ≡ query_kind code
  kind_query e = ap (λ (x : Bool). cond x (query_kind code) (event_kind code)) e

  pub kind_event : is_query code ≡ false → kind_of code ≡ event_kind code
  kind_event e = ap (λ (x : Bool). cond x (query_kind code) (event_kind code)) e

  -- A byte that is not a question's
  pub no_question : (code ≡ 3 → ⊥) → is_query code ≡ eqb code 4
  no_question n = ap (λ (x : Bool). x || eqb code 4) (ne_eqb code 3 n)

-- What holds of a start, an end and an unknown byte holds of every event
pub by_event : (P : Kind → Type 0) → P (command 8 start_command) → P (command 8 end_command) → P unknown → (code : ℕ) → P (event_kind code)
by_event P s e u code = go (eqb code 1) (eqb code 2)
  where
    go : (x y : Bool) → P (events x y)
    go true y = s
    go false true = e
    go false false = u

-- And with the queries, of every command
pub by_kind : (P : Kind → Type 0) → P (command 8 start_command) → P (command 8 end_command) → ((code : ℕ) → P (query_kind code)) → P unknown
    → (code : ℕ) → P (kind_of code)
by_kind P s e q u code = go (is_query code)
  where
    go : (x : Bool) → P (cond x (query_kind code) (event_kind code))
    go true = q code
    go false = by_event P s e u code

-- No command has more operands than a query, and no event more than a start
pub few_operands : (code : ℕ) → operand_bytes (kind_of code) ≤ 12
few_operands = by_kind (λ (kind : Kind). operand_bytes kind ≤ 12) (omega arith) (omega arith) (λ code. omega arith) (omega arith)

pub few_event_operands : (code : ℕ) → operand_bytes (event_kind code) ≤ 8
few_event_operands = by_event (λ (kind : Kind). operand_bytes kind ≤ 8) (omega arith) (omega arith) (omega arith)

-- Too few operand bytes, or enough
module _ (s : Store) (bytes : List ℕ) (n : ℕ) (call : List ℕ → Call) where
  pub cut_short : length bytes < n → answered s bytes (command n call) ≡ refused_with 7 s
  cut_short h = ap (λ (x : Bool). cond x (refused_with 7 s) (perform s (call bytes))) (lt-ltb (length bytes) n h)

  pub whole : n ≤ length bytes → answered s bytes (command n call) ≡ perform s (call bytes)
  whole h = ap (λ (x : Bool). cond x (refused_with 7 s) (perform s (call bytes))) (le-ltb (length bytes) n h)
