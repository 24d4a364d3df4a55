use Prim.Native.Nat.{ℕ}
use mathlib.Core.Path.{◌≡◌, ap, ◌∙◌}
use mathlib.Core.List.{List}
use lib.ListN.{length, take}
use Rattle.words.specs.Overwrite.{overwrite}
use Rattle.tree.proofs.Lists.{length_mapped}
use Rattle.store.specs.declared.types.OpenPass.{OpenPass}
use Rattle.store.specs.Head.{open_limit}
use Rattle.c_heads.specs.Heads.{field_numbers, numbers_of_passes}
use Rattle.c_heads.proofs.HeadNumbers.{first_places, fields_set, head_written}
use borrow.Author.Rules.{rules}
use Rattle.c_heads.proofs.head_written.put_head.Goals as goal

pub returns : goal.returns
returns c =
    let a = c.args in
    let full : length a.head.passes ≡ open_limit = search (rules, length_mapped) in
    let chosen = c.min.ensures in
    c.write_passes.ensures
    ∙ ap (λ (n : ℕ). overwrite (fields_set a.numbers.now a.head) field_numbers (numbers_of_passes (take n a.head.passes))) chosen
    ∙ ap (λ (l : List OpenPass). overwrite (fields_set a.numbers.now a.head) field_numbers (numbers_of_passes l)) (first_places a.head.passes full a.places)
    ∙ head_written a.numbers.now a.head (numbers_of_passes (take a.places a.head.passes)) (search rules)
