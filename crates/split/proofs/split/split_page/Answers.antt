use Prim.Native.Nat.{ℕ, ◌+◌, ◌≤◌, ◌<◌}
use native.Mathlib.Omega.{arith}
use mathlib.Core.Path.{◌≡◌, refl, ap, ap₂, sym, subst, ◌∙◌}
use lib.ListN.{length}
use Rattle.tree.specs.Row.{copy_limit}
use Rattle.tree.specs.Limits.{most_rows}
use Rattle.tree.specs.declared.types.Became.TheVariants.{Copied, Halved}
use Rattle.tree.specs.Use.{taken_page}
use Rattle.tree.specs.Taking.{HasPages}
use Rattle.tree.specs.Overflow.{Written}
use Rattle.split.specs.SplitWords.{live_copies, split_words, copied_table, halved_table}
use Rattle.split.proofs.SplitRows.{live_count, sourced, split_copied, split_halved}
use Rattle.tree.proofs.UseLaws.{taken_inside}
use Rattle.split.proofs.split.split_page.Goals as goal

pub copy_rows-requires-clause-page_words_in_bounds : goal.copy_rows-requires-clause-page_words_in_bounds
copy_rows-requires-clause-page_words_in_bounds c = let a = c.args in
    let ws = a.words.now in
    let from = sourced a.t ws _ c.key_order-start.new.order c.key_order-start.result c.requires.words_len c.requires.words_bound refl
    c.key_order-start.ensures.rows_value c.key_order-start.ensures.order_after in
    let live : c.key_order-start.result + length (live_copies ws a.t) ≡ most_rows =
    live_count a.t ws _ c.key_order-start.result from in
    let few : length (live_copies ws a.t) ≤ copy_limit = omega (arith, live, c.if-start-le-COPIED.true) in
    let is = split_copied a.table.now a.used a.made ws a.t few in
    let made : (split_words a.table.now a.used a.made ws a.t).made ≡ a.made + 1 = ap (λ (w : Written). w.made) is in
    let has : HasPages a.table.now a.used (a.made + 1) =
    subst (HasPages a.table.now a.used) made c.requires.has_pages in
    let first : c.taken_page-number.result ≡ taken_page a.used a.made = c.taken_page-number.ensures in
    let inside = taken_inside a.used c.requires.takes a.made (a.made + 1) a.table.now has (omega arith) in
    omega (arith, inside, first)

pub returns-then-start-le-COPIED : goal.returns-then-start-le-COPIED
returns-then-start-le-COPIED c = let a = c.args in
    let ws = a.words.now in
    let from = sourced a.t ws _ c.key_order-start.new.order c.key_order-start.result c.requires.words_len c.requires.words_bound refl
    c.key_order-start.ensures.rows_value c.key_order-start.ensures.order_after in
    let live : c.key_order-start.result + length (live_copies ws a.t) ≡ most_rows =
    live_count a.t ws _ c.key_order-start.result from in
    let few : length (live_copies ws a.t) ≤ copy_limit = omega (arith, live, c.if-start-le-COPIED.true) in
    let is = split_copied a.table.now a.used a.made ws a.t few in
    let first : c.taken_page-number.result ≡ taken_page a.used a.made = c.taken_page-number.ensures in
    record {
      table_after = c.copy_rows.ensures ∙ ap (λ (n : ℕ). copied_table a.table.now n ws a.t) first ∙ sym (ap (λ (w : Written). w.table) is);
      made_value = sym (ap (λ (w : Written). w.made) is);
      became_value = (λ i. Copied (record { page = first i; low = c.low_key-low.ensures i; high = c.high_key-high.ensures i })) ∙ sym (ap (λ (w : Written). w.became) is);
    }

pub halve_rows-middle-requires : goal.halve_rows-middle-requires
halve_rows-middle-requires c = let a = c.args in
    let ws = a.words.now in
    let from = sourced a.t ws _ c.key_order-start.new.order c.key_order-start.result c.requires.words_len c.requires.words_bound refl
    c.key_order-start.ensures.rows_value c.key_order-start.ensures.order_after in
    let live : c.key_order-start.result + length (live_copies ws a.t) ≡ most_rows =
    live_count a.t ws _ c.key_order-start.result from in
    let many : copy_limit < length (live_copies ws a.t) = omega (arith, live, c.if-start-le-COPIED.false) in
    let is = split_halved a.table.now a.used a.made ws a.t many in
    let made : (split_words a.table.now a.used a.made ws a.t).made ≡ a.made + 2 = ap (λ (w : Written). w.made) is in
    let has : HasPages a.table.now a.used (a.made + 2) =
    subst (HasPages a.table.now a.used) made c.requires.has_pages in
    let first : c.taken_page-number.result ≡ taken_page a.used a.made = c.taken_page-number.ensures in
    let second : c.taken_page-second.result ≡ taken_page a.used (a.made + 1) = c.taken_page-second.ensures in
    let first-inside = taken_inside a.used c.requires.takes a.made (a.made + 2) a.table.now has (omega arith) in
    let second-inside = taken_inside a.used c.requires.takes (a.made + 1) (a.made + 2) a.table.now has (omega arith) in
    record {
      sourced = from;
      copy_limit_bound = omega (arith, live, many);
      page_words_in_bounds = omega (arith, first-inside, first);
      page_words_in_bounds_2 = omega (arith, second-inside, second);
    }

pub returns : goal.returns
returns c = let a = c.args in
    let ws = a.words.now in
    let from = sourced a.t ws _ c.key_order-start.new.order c.key_order-start.result c.requires.words_len c.requires.words_bound refl
    c.key_order-start.ensures.rows_value c.key_order-start.ensures.order_after in
    let live : c.key_order-start.result + length (live_copies ws a.t) ≡ most_rows =
    live_count a.t ws _ c.key_order-start.result from in
    let many : copy_limit < length (live_copies ws a.t) = omega (arith, live, c.if-start-le-COPIED.false) in
    let is = split_halved a.table.now a.used a.made ws a.t many in
    let first : c.taken_page-number.result ≡ taken_page a.used a.made = c.taken_page-number.ensures in
    let second : c.taken_page-second.result ≡ taken_page a.used (a.made + 1) = c.taken_page-second.ensures in
    record {
      table_after = c.halve_rows-middle.ensures.table_after ∙ ap₂ (λ (m n : ℕ). halved_table a.table.now m n ws a.t) first second ∙ sym (ap (λ (w : Written). w.table) is);
      made_value = sym (ap (λ (w : Written). w.made) is);
      became_value = (λ i. Halved (record { page = first i; low = c.low_key-low.ensures i; high = c.halve_rows-middle.ensures.value i })
          (record { page = second i; low = c.halve_rows-middle.ensures.value i; high = c.high_key-high.ensures i }))
          ∙ sym (ap (λ (w : Written). w.became) is);
    }
