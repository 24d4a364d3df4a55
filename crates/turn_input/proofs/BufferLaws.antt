-- The program's buffer: what waits stands at its front.
use Prim.Native.Nat.{ℕ, ◌+◌, ◌-◌, ◌≤◌}
use native.Mathlib.Omega.{arith}
use mathlib.Core.Path.{◌≡◌, ap₂, sym, ◌∙◌}
use mathlib.Core.List.{List, ◌++◌}
use lib.ListN.{length, take, drop, length-drop}
use lib.Seq.{length-take-le, take_at}
use Rattle.std.specs.List.{copy_within}
use Rattle.std.proofs.lemmas.Slice.{between_is}
use Rattle.words.specs.Overwrite.{overwrite}

-- The bytes from a place on, up to where they end
module _ (buffer : List ℕ) (taken end : ℕ) (order : taken ≤ end) (inside : end ≤ length buffer) where
  abbrev pub rest : List ℕ
  rest = drop taken (take end buffer)

  pub rest_length : length rest ≡ end - taken
  rest_length = omega (arith, length-drop taken (take end buffer), length-take-le end buffer inside)

  -- moved to the front
  pub rest_moved : copy_within buffer taken end 0 ≡ overwrite buffer 0 rest
  unfolding overwrite
  rest_moved = ap₂ (λ (moved : List ℕ) (n : ℕ). moved ++ drop (0 + n) buffer) (between_is buffer taken end) (sym rest_length)

  -- so that they wait there
  pub rest_waits : (n : ℕ) → n ≡ end - taken → take n (overwrite buffer 0 rest) ≡ rest
  unfolding overwrite
  rest_waits n e = take_at rest (drop (0 + length rest) buffer) n (rest_length ∙ sym e)
