-- What passes add up to: over none, and over one more.
use Rattle.std.proofs.Common.{◌≡◌, ℕ, ◌+◌, ◌^◌, ◌<◌, Bool, true, false, cond, eqb, List, [], ◌∷◌, ◌++◌, map, count_by, get_or, length, sym, refl, ap, ap₂, ◌∙◌, subst, arith}
use Rattle.std.proofs.lemmas.List.{map_more}
use Rattle.std.proofs.lemmas.List.Recursion.{is_count_by}
use Rattle.words.specs.Lists.{All}
use Rattle.words.specs.Words.{open_end}
use Rattle.words.specs.Value.{plus, zero as nothing}
use Rattle.words.specs.declared.value.Value.{Value}
use Rattle.words.proofs.ValueLaws.{plus_comm, plus_assoc, zero_plus}
use Rattle.tree.specs.TrueValue.{total_where}
use Rattle.tree.proofs.Lists.{all_append}
use Rattle.tree.proofs.OrderTotals.{total_stored}
use Rattle.store.specs.Passes.{sum_where, count_where}
use Rattle.store.specs.Book.{is_open}
use Rattle.pass_list.specs.declared.types.Asked.{Asked}
use Rattle.pass_list.specs.declared.types.ListedPass.{ListedPass}
use Rattle.pass_list.specs.PassList.{pass_of, passes_in, Light}
use Rattle.pass_list.specs.Counted.{counts, adds, worth, total_of}
use Rattle.pass_list.proofs.PassLaws.{end_open}

-- The open passes, by the test of the code
open_first : (p : ListedPass) (ps : List ListedPass)
    → count_where is_open (map pass_of (p ∷ ps)) ≡ cond (eqb p.end open_end) (1 + count_where is_open (map pass_of ps)) (count_where is_open (map pass_of ps))
unfolding sum_where
open_first p ps = go (eqb p.end open_end) (end_open p.end)
  where
    go : (b : Bool) → is_open (pass_of p) ≡ b
        → count_where is_open (map pass_of (p ∷ ps)) ≡ cond b (1 + count_where is_open (map pass_of ps)) (count_where is_open (map pass_of ps))
    go true e = ap (λ (b : Bool). cond b 1 0 + count_where is_open (map pass_of ps)) e
    go false e = ap (λ (b : Bool). cond b 1 0 + count_where is_open (map pass_of ps)) e ∙ omega arith

pub open_counted : (ps : List ListedPass) → count_by (λ (p : ListedPass). eqb p.end open_end) ps ≡ count_where is_open (map pass_of ps)
unfolding sum_where
open_counted ps = sym (is_count_by (λ (qs : List ListedPass). count_where is_open (map pass_of qs)) (λ (p : ListedPass). eqb p.end open_end) refl open_first ps)

-- Values added up over two lists, and over one item more
module _ {A : Type 0} (value_of : A → Value) (test : A → Bool) where
  abbrev total : List A → Value
  total xs = total_where value_of test xs

  pub total_append : (xs ys : List A) → total (xs ++ ys) ≡ plus (total xs) (total ys)
  unfolding total_where
  total_append [] ys = sym (zero_plus (total ys) (total_stored value_of test ys))
  total_append (x ∷ xs) ys =
      ap (plus (cond (test x) (value_of x) nothing)) (total_append xs ys) ∙ sym (plus_assoc (cond (test x) (value_of x) nothing) (total xs) (total ys))

  total_more : (xs : List A) (x : A) → total (xs ++ (x ∷ [])) ≡ plus (total xs) (cond (test x) (value_of x) nothing)
  unfolding total_where
  total_more [] x = plus_comm (cond (test x) (value_of x) nothing) nothing
  total_more (y ∷ xs) x =
      ap (plus (cond (test y) (value_of y) nothing)) (total_more xs x)
      ∙ sym (plus_assoc (cond (test y) (value_of y) nothing) (total xs) (cond (test x) (value_of x) nothing))

-- The total so far, of passes whose weights are numbers of 32 bits
pub record TotalSoFar (asked : Asked) (ps : List ListedPass) (i : ℕ) (total : Value) : Type 0 where
  pub is : total ≡ total_of asked (passes_in ps i)
  pub light : All Light (passes_in ps i)

pub total_none : (asked : Asked) (ps : List ListedPass) {total : Value} → total ≡ nothing → TotalSoFar asked ps 0 total
unfolding total_where
total_none asked ps e = record { is = e; light = tt }

pub total_next : (asked : Asked) (ps : List ListedPass) (i : ℕ) (d : ListedPass) → i < length ps → (get_or ps i d).weight < 2 ^ 32
    → {total value next : Value} → TotalSoFar asked ps i total → value ≡ worth asked (pass_of (get_or ps i d)) → next ≡ plus total value → TotalSoFar asked ps (i + 1) next
total_next asked ps i d below light so_far is_value is_next =
    let p = pass_of (get_or ps i d) in
    let more : passes_in ps (i + 1) ≡ passes_in ps i ++ (p ∷ []) = map_more pass_of ps i d below in
    record {
      is = is_next ∙ ap₂ plus so_far.is is_value ∙ sym (total_more (adds asked) (counts asked) (passes_in ps i) p) ∙ ap (total_of asked) (sym more);
      light = subst (All Light) (sym more) (all_append Light (passes_in ps i) (p ∷ []) so_far.light (light, tt));
    }
