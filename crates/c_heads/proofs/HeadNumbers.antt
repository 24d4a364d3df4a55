-- A head as numbers: its fields and its open passes read and written, and back again.
use Prim.Native.Nat.{ℕ, zero, suc, ◌+◌, ◌*◌, ◌≤◌, ◌<◌, min}
use native.Mathlib.Nat.{add-zero}
use native.Mathlib.Omega.{arith}
use native.Mathlib.Decide.{dec_le}
use mathlib.Core.Path.{◌≡◌, refl, ap, ap₂, sym, ◌∙◌}
use mathlib.Core.List.{List, [], ◌∷◌, ◌++◌, append_assoc, append-nil}
use lib.ListN.{length, get_or, set, take, drop, length-append, length-take, length-drop, take-append-drop}
use lib.Seq.{take-suc, take-suc-set, take_all, take-add, length-take-le, drop-cons, drop-drop, drop_at, get_or-append-add}
use Rattle.words.specs.Overwrite.{overwrite}
use Rattle.words.proofs.OverwriteLaws.{overwrite_none, overwrite_sets, overwrite_more}
use Rattle.store.specs.declared.types.OpenPass.{OpenPass}
use Rattle.store.specs.declared.types.Head.{Head}
use Rattle.store.specs.Head.{open_limit}
use Rattle.c_heads.specs.Heads.{field_numbers, numbers_of_pass, head_numbers, pass_at, passes_from, head_of, fields_of, numbers_of_one, numbers_of_passes, numbers_of, head_over}

-- A head with other passes
abbrev pub with_passes : Head → List OpenPass → Head
with_passes h passes =
    record { last = h.last; started = h.started; count = h.count; passes = passes; starts = h.starts; ends = h.ends; time = h.time }

-- Reading passes one after the other
pub passes_length : (ns : List ℕ) (at n : ℕ) → length (passes_from ns at n) ≡ n
unfolding passes_from
passes_length ns at zero = refl
passes_length ns at (suc n) = ap suc (passes_length ns (at + numbers_of_pass) n)

passes_more : (ns : List ℕ) (at n : ℕ) → passes_from ns at (suc n) ≡ passes_from ns at n ++ (pass_at ns (at + numbers_of_pass * n) ∷ [])
unfolding passes_from
passes_more ns at zero = ap (λ (i : ℕ). pass_at ns i ∷ []) (omega arith)
passes_more ns at (suc n) =
    let same : at + numbers_of_pass + numbers_of_pass * n ≡ at + numbers_of_pass * suc n = omega arith in
    ap (◌∷◌ (pass_at ns at)) (passes_more ns (at + numbers_of_pass) n ∙ ap (λ (i : ℕ). passes_from ns (at + numbers_of_pass) n ++ (pass_at ns i ∷ [])) same)

pub read_more : (ns : List ℕ) (at : ℕ) (passes : List OpenPass) (place : ℕ) → place < length passes → take place passes ≡ passes_from ns at place
    → take (place + 1) (set passes place (pass_at ns (at + numbers_of_pass * place))) ≡ passes_from ns at (place + 1)
read_more ns at passes place h e =
    let p : OpenPass = pass_at ns (at + numbers_of_pass * place) in
    let next : place + 1 ≡ suc place = omega arith in
    ap (λ (n : ℕ). take n (set passes place p)) next
    ∙ take-suc-set passes place p h
    ∙ ap (λ (l : List OpenPass). l ++ (p ∷ [])) e
    ∙ sym (passes_more ns at place)
    ∙ ap (passes_from ns at) (sym next)

-- Writing them
pub numbers_length : (passes : List OpenPass) → length (numbers_of_passes passes) ≡ numbers_of_pass * length passes
unfolding numbers_of_passes
numbers_length [] = refl
numbers_length (p ∷ passes) = omega (arith, numbers_length passes)

numbers_append : (xs ys : List OpenPass) → numbers_of_passes (xs ++ ys) ≡ numbers_of_passes xs ++ numbers_of_passes ys
unfolding numbers_of_passes
numbers_append [] ys = refl
numbers_append (x ∷ xs) ys = ap (◌++◌ (numbers_of_one x)) (numbers_append xs ys) ∙ sym (append_assoc (numbers_of_one x) (numbers_of_passes xs) (numbers_of_passes ys))

-- Four numbers set in a row
pub four_set : (l : List ℕ) (at a b c d : ℕ) → at + numbers_of_pass ≤ length l
    → set (set (set (set l at a) (at + 1) b) (at + 2) c) (at + 3) d ≡ overwrite l at (a ∷ (b ∷ (c ∷ (d ∷ []))))
four_set l at a b c d h =
    let one : at + 1 ≡ suc at = omega arith in
    let two : at + 2 ≡ suc (suc at) = omega arith in
    let three : at + 3 ≡ suc (suc (suc at)) = omega arith in
    ap (λ (i : ℕ). set (set (set (set l at a) i b) (at + 2) c) (at + 3) d) one
    ∙ ap₂ (λ (i j : ℕ). set (set (set (set l at a) (suc at) b) i c) j d) two three
    ∙ overwrite_sets l at (a ∷ (b ∷ (c ∷ (d ∷ [])))) h

pub write_none : (out : List ℕ) (passes : List OpenPass) → out ≡ overwrite out field_numbers (numbers_of_passes (take 0 passes))
unfolding numbers_of_passes
write_none out passes = sym (overwrite_none out field_numbers)

module _ (out : List ℕ) (passes : List OpenPass) (few : length passes ≤ open_limit) (room : length out ≡ head_numbers) where
  abbrev up_to : ℕ → List ℕ
  up_to place = numbers_of_passes (take place passes)

  up_to_length : (place : ℕ) → place ≤ length passes → length (up_to place) ≡ numbers_of_pass * place
  up_to_length place h = omega (arith, numbers_length (take place passes), length-take-le place passes (omega arith))

  pub write_more : (d : OpenPass) (place : ℕ) → place < length passes
      → overwrite (overwrite out field_numbers (up_to place)) (field_numbers + numbers_of_pass * place) (numbers_of_one (get_or passes place d))
      ≡ overwrite out field_numbers (up_to (place + 1))
  unfolding numbers_of_passes
  write_more d place h =
      let p : OpenPass = get_or passes place d in
      let here : length (up_to place) ≡ numbers_of_pass * place = up_to_length place (omega arith) in
      let next : place + 1 ≡ suc place = omega arith in
      overwrite_more out field_numbers (up_to place) (omega arith) (field_numbers + numbers_of_pass * place) (numbers_of_one p) (omega arith)
      ∙ ap (overwrite out field_numbers)
      (ap (◌++◌ (up_to place)) (sym (append-nil (numbers_of_one p)))
      ∙ sym (numbers_append (take place passes) (p ∷ []))
      ∙ ap numbers_of_passes (sym (take-suc passes place d (omega arith)) ∙ ap (λ (n : ℕ). take n passes) (sym next)))

-- Of the first places there are no more than all
pub first_places : (passes : List OpenPass) → length passes ≡ open_limit → (places : ℕ) → take (min places open_limit) passes ≡ take places passes
first_places passes full places = go (dec_le places open_limit)
  where
    go : Dec (places ≤ open_limit) → take (min places open_limit) passes ≡ take places passes
    go (yes few) =
        let same : min places open_limit ≡ places = omega (arith, few) in
        ap (λ (n : ℕ). take n passes) same
    go (no more) = take_all (min places open_limit) passes (omega (arith, more, full)) ∙ sym (take_all places passes (omega (arith, more, full)))

-- The fields are set one behind the other, and the passes written behind them
abbrev pub fields_set : List ℕ → Head → List ℕ
fields_set l h =
    let first = set (set (set l 0 h.last) 1 h.started) 2 h.count in
    let starts = set (set first 3 h.starts.pages) 4 h.starts.roots in
    let ends = set (set starts 5 h.ends.pages) 6 h.ends.roots in
    set (set ends 7 h.time.pages) 8 h.time.roots

pub head_written : (l : List ℕ) (h : Head) (passes : List ℕ) → length l ≡ head_numbers
    → overwrite (fields_set l h) field_numbers passes ≡ overwrite l 0 (fields_of h ++ passes)
head_written l h passes long =
    ap (λ (x : List ℕ). overwrite x field_numbers passes) (overwrite_sets l 0 (fields_of h) (omega arith))
    ∙ overwrite_more l 0 (fields_of h) (omega arith) field_numbers passes refl

-- Numbers that are read as a head and written again are as before
unfoldable numbers_at : List ℕ → (at i n : ℕ) → List ℕ
numbers_at ns at i zero = []
numbers_at ns at i (suc n) = get_or ns (at + i) 0 ∷ numbers_at ns at (suc i) n

one_by_one : (ns : List ℕ) (at i n : ℕ) → at + i + n ≤ length ns → take n (drop (at + i) ns) ≡ numbers_at ns at i n
unfolding numbers_at
one_by_one ns at i zero h = refl
one_by_one ns at i (suc n) h =
    let next : suc (at + i) ≡ at + suc i = omega arith in
    ap (take (suc n)) (drop-cons ns (at + i) 0 (omega arith) ∙ ap (λ (j : ℕ). get_or ns (at + i) 0 ∷ drop j ns) next)
    ∙ ap (◌∷◌ (get_or ns (at + i) 0)) (one_by_one ns at (suc i) n (omega arith))

pass_front : (ns : List ℕ) (at : ℕ) → at + numbers_of_pass ≤ length ns → take numbers_of_pass (drop at ns) ≡ numbers_of_one (pass_at ns at)
unfolding numbers_at
pass_front ns at h =
    ap (λ (i : ℕ). take numbers_of_pass (drop i ns)) (sym (add-zero at))
    ∙ one_by_one ns at 0 numbers_of_pass (omega arith)
    ∙ ap (λ (i : ℕ). get_or ns i 0 ∷ (get_or ns (at + 1) 0 ∷ (get_or ns (at + 2) 0 ∷ (get_or ns (at + 3) 0 ∷ [])))) (add-zero at)

passes_front : (ns : List ℕ) (n at : ℕ) → at + numbers_of_pass * n ≤ length ns → numbers_of_passes (passes_from ns at n) ≡ take (numbers_of_pass * n) (drop at ns)
unfolding numbers_of_passes passes_from
passes_front ns zero at h = refl
passes_front ns (suc n) at h =
    let size : numbers_of_pass * suc n ≡ numbers_of_pass + numbers_of_pass * n = omega arith in
    ap₂ ◌++◌ (sym (pass_front ns at (omega arith)))
    (passes_front ns n (at + numbers_of_pass) (omega arith) ∙ ap (take (numbers_of_pass * n)) (sym (drop-drop numbers_of_pass at ns)))
    ∙ sym (ap (λ (k : ℕ). take k (drop at ns)) size ∙ take-add numbers_of_pass (numbers_of_pass * n) (drop at ns))

pub numbers_back : (ns : List ℕ) → length ns ≡ head_numbers → numbers_of (head_of ns) ≡ ns
unfolding numbers_at
numbers_back ns long =
    let rest = passes_front ns open_limit field_numbers (omega arith) ∙ take_all (numbers_of_pass * open_limit) (drop field_numbers ns) (omega (arith, long, length-drop field_numbers ns)) in
    ap₂ ◌++◌ (sym (one_by_one ns 0 0 field_numbers (omega arith))) rest ∙ take-append-drop field_numbers ns

-- A head that is written as numbers and read again is as before
module _ (front : List ℕ) (p : OpenPass) (rest : List ℕ) where
  here : (i : ℕ) → get_or (front ++ (numbers_of_one p ++ rest)) (length front + i) 0 ≡ get_or (numbers_of_one p ++ rest) i 0
  here i = get_or-append-add front (numbers_of_one p ++ rest) i 0

  pass_back : (at : ℕ) → at ≡ length front → pass_at (front ++ (numbers_of_one p ++ rest)) at ≡ p
  pass_back at e =
      let first : at ≡ length front + 0 = omega arith in
      let n = ap (λ (i : ℕ). get_or (front ++ (numbers_of_one p ++ rest)) i 0) first ∙ here 0 in
      let k = ap (λ (i : ℕ). get_or (front ++ (numbers_of_one p ++ rest)) (i + 1) 0) e ∙ here 1 in
      let w = ap (λ (i : ℕ). get_or (front ++ (numbers_of_one p ++ rest)) (i + 2) 0) e ∙ here 2 in
      let s = ap (λ (i : ℕ). get_or (front ++ (numbers_of_one p ++ rest)) (i + 3) 0) e ∙ here 3 in
      λ i. record { number = n i; key = k i; weight = w i; start = s i }

passes_behind : (front : List ℕ) (passes : List OpenPass) (at : ℕ) → at ≡ length front → passes_from (front ++ numbers_of_passes passes) at (length passes) ≡ passes
unfolding passes_from numbers_of_passes
passes_behind front [] at e = refl
passes_behind front (p ∷ passes) at e =
    let longer : at + numbers_of_pass ≡ length (front ++ numbers_of_one p) = omega (arith, e, length-append front (numbers_of_one p)) in
    ap₂ ◌∷◌ (pass_back front p (numbers_of_passes passes) at e)
    (ap (λ (ns : List ℕ). passes_from ns (at + numbers_of_pass) (length passes)) (sym (append_assoc front (numbers_of_one p) (numbers_of_passes passes)))
    ∙ passes_behind (front ++ numbers_of_one p) passes (at + numbers_of_pass) longer)

pub head_back : (h : Head) → length h.passes ≡ open_limit → head_of (numbers_of h) ≡ h
head_back h long = ap (with_passes h) (ap (passes_from (numbers_of h) field_numbers) (sym long) ∙ passes_behind (fields_of h) h.passes field_numbers refl)

-- Where the passes of the other places are those that the numbers have, writing those of the first places is writing them all
pub others_kept : (ns : List ℕ) (h : Head) (places : ℕ) → length ns ≡ head_numbers → length h.passes ≡ open_limit
    → drop places h.passes ≡ drop places (head_of ns).passes
    → head_over ns places h ≡ numbers_of h
unfolding overwrite
others_kept ns h places long full same =
    let old : List OpenPass = (head_of ns).passes in
    let front : List ℕ = fields_of h ++ numbers_of_passes (take places h.passes) in
    let old_front : List ℕ = fields_of (head_of ns) ++ numbers_of_passes (take places old) in
    let size = numbers_length (take places h.passes) ∙ ap (◌*◌ numbers_of_pass) (length-take places h.passes ∙ ap (min places) full) in
    let old_size = numbers_length (take places old) ∙ ap (◌*◌ numbers_of_pass) (length-take places old ∙ ap (min places) (passes_length ns field_numbers open_limit)) in
    let as_long : length old_front ≡ 0 + length front = omega (arith, size, old_size) in
    let apart : (xs : List OpenPass) → numbers_of_passes xs ≡ numbers_of_passes (take places xs) ++ numbers_of_passes (drop places xs) =
    λ xs. ap numbers_of_passes (sym (take-append-drop places xs)) ∙ numbers_append (take places xs) (drop places xs) in
    let whole : ns ≡ old_front ++ numbers_of_passes (drop places old) =
    sym (numbers_back ns long) ∙ ap (◌++◌ (fields_of (head_of ns))) (apart old)
    ∙ sym (append_assoc (fields_of (head_of ns)) (numbers_of_passes (take places old)) (numbers_of_passes (drop places old))) in
    ap (λ (l : List ℕ). front ++ drop (0 + length front) l) whole
    ∙ ap (◌++◌ front) (drop_at old_front (numbers_of_passes (drop places old)) (0 + length front) as_long ∙ ap numbers_of_passes (sym same))
    ∙ append_assoc (fields_of h) (numbers_of_passes (take places h.passes)) (numbers_of_passes (drop places h.passes))
    ∙ ap (◌++◌ (fields_of h)) (sym (apart h.passes))
