use Prim.Native.Nat.{ℕ, ◌+◌, ◌*◌, ◌-◌, ◌≤◌}
use native.Mathlib.Omega.{arith}
use mathlib.Core.Path.{◌≡◌, ap, sym, ◌∙◌}
use mathlib.Core.List.{List}
use lib.ListN.{length}
use borrow.Rule.Slice.PartMut.{put_mid}
use Rattle.tree.specs.Row.{word, page_words}
use Rattle.tree.specs.Tree.{page_at}
use Rattle.tree.specs.Overflow.{Written}
use Rattle.tree.proofs.TableLaws.{page_length}
use Rattle.row_steps.specs.PageEdits.{change_words}
use Rattle.enter.specs.EnterWords.{made_so, changed, roomy_rows}
use Rattle.enter.proofs.CopyLaws.{part_is, part_back, page_count, copy_is}
use Rattle.enter.proofs.SettleLaws.{loaded_count, loaded_length}
use Rattle.enter.proofs.InPlace.{in_place, in_place_size}
use Rattle.enter.proofs.entering.change_page.Goals as goal

pub change_words-requires : goal.change_words-requires
change_words-requires c =
    let a = c.args in
    let table = a.table.now in
    let whole : length (page_at table a.page) ≡ page_words = page_length table a.page c.requires.can_settle.inside in
    let few : word (page_at table a.page) 1 ≤ roomy_rows = omega (arith, page_count table a.page, c.if-table-from-le-ROOMY_ROWS.true) in rw (part_is table a.page) (record {
      change_within = c.requires.change_within;
      most_appended_in_bounds = omega arith;
    })

pub returns-then-table-from-le-ROOMY_ROWS : goal.returns-then-table-from-le-ROOMY_ROWS
returns-then-table-from-le-ROOMY_ROWS c =
    let a = c.args in
    let table = a.table.now in
    let whole : length (page_at table a.page) ≡ page_words = page_length table a.page c.requires.can_settle.inside in
    let few : word (page_at table a.page) 1 ≤ roomy_rows = omega (arith, page_count table a.page, c.if-table-from-le-ROOMY_ROWS.true) in
    let new : c.change_words.new.page ≡ change_words a.t a.value (page_at table a.page) a.change =
    c.change_words.ensures ∙ ap (λ (w : List ℕ). change_words a.t a.value w a.change) (part_is table a.page) in
    let size = in_place_size a.used a.t (made_so table a.made) a.page a.value a.change whole few c.requires.change_within in
    let stay = in_place a.used a.t (made_so table a.made) a.page a.value a.change whole few c.requires.change_within in
    record {
      table_is =
          ap (put_mid (a.page * page_words) (a.page * page_words + page_words - a.page * page_words) table) new
          ∙ part_back table a.page (change_words a.t a.value (page_at table a.page) a.change) c.requires.can_settle.inside size
          ∙ ap (λ (w : Written). w.table) (sym stay);
      made_is = ap (λ (w : Written). w.made) (sym stay);
      became_is = ap (λ (w : Written). w.became) (sym stay);
    }

pub page_at-requires : goal.page_at-requires
page_at-requires c = c.requires.can_settle.inside

pub copy_from_slice-requires : goal.copy_from_slice-requires
copy_from_slice-requires c =
    let a = c.args in
    omega (arith, ap length c.page_at.ensures ∙ page_length a.table.now a.page c.requires.can_settle.inside)

pub change_words-requires-2 : goal.change_words-requires-2
change_words-requires-2 c =
    let a = c.args in
    let copied = copy_is a.table.now a.page c.copy_from_slice.new.self (c.copy_from_slice.ensures.after ∙ c.page_at.ensures) in
    let whole : length (page_at a.table.now a.page) ≡ page_words = page_length a.table.now a.page c.requires.can_settle.inside in
    let count = loaded_count a.table.now a.page whole in
    let size = loaded_length a.table.now a.page whole in rw copied (record {
      change_within = rw count c.requires.change_within;
      most_appended_in_bounds = omega (arith, c.requires.page_bound);
    })

pub settle_page-requires : goal.settle_page-requires
settle_page-requires c =
    let a = c.args in
    let copied = copy_is a.table.now a.page c.copy_from_slice.new.self (c.copy_from_slice.ensures.after ∙ c.page_at.ensures) in
    let edited : c.change_words-2.new.page ≡ changed a.t a.value a.table.now a.page a.change =
    c.change_words-2.ensures ∙ ap (λ (w : List ℕ). change_words a.t a.value w a.change) copied in
    rw edited c.requires.can_settle

pub returns : goal.returns
returns c =
    let a = c.args in
    let copied = copy_is a.table.now a.page c.copy_from_slice.new.self (c.copy_from_slice.ensures.after ∙ c.page_at.ensures) in
    let edited : c.change_words-2.new.page ≡ changed a.t a.value a.table.now a.page a.change =
    c.change_words-2.ensures ∙ ap (λ (w : List ℕ). change_words a.t a.value w a.change) copied in
    rw edited at c.settle_page.ensures
