use mathlib.Core.Path.{ap, sym, ◌∙◌}
use Rattle.tree.specs.Overflow.{Written}
use Rattle.enter.specs.EnterWords.{made_so}
use Rattle.enter.proofs.SettleLaws.{settled_stays, settled_splits}
use Rattle.enter.proofs.entering.settle_page.Goals as goal

pub store_page-requires : goal.store_page-requires
store_page-requires c =
    record {
      words_len = c.requires.size;
      page_words_in_bounds = c.requires.inside;
    }

pub returns-then-words-le-ROWS : goal.returns-then-words-le-ROWS
returns-then-words-le-ROWS c = let stay = settled_stays c.args.used c.args.t (made_so c.args.table.now c.args.made) c.args.page c.args.words.now c.if-words-le-ROWS.true in
    record { table_is = c.store_page.ensures ∙ ap (λ (w : Written). w.table) (sym stay); made_is = ap (λ (w : Written). w.made) (sym stay); became_is = ap (λ (w : Written). w.became) (sym stay) }

pub split_page-requires : goal.split_page-requires
split_page-requires c = let over = settled_splits c.args.used c.args.t (made_so c.args.table.now c.args.made) c.args.page c.args.words.now c.if-words-le-ROWS.false in
    record {
      words_len = c.requires.size;
      words_bound = c.requires.rows;
      made_lt_most_made = c.requires.few;
      takes = c.requires.takes;
      has_pages = rw over at c.requires.room;
    }

pub returns : goal.returns
returns c = let over = settled_splits c.args.used c.args.t (made_so c.args.table.now c.args.made) c.args.page c.args.words.now c.if-words-le-ROWS.false in
    record {
      table_is = c.split_page.ensures.table_after ∙ ap (λ (w : Written). w.table) (sym over);
      made_is = c.split_page.ensures.made_value ∙ ap (λ (w : Written). w.made) (sym over);
      became_is = c.split_page.ensures.became_value ∙ ap (λ (w : Written). w.became) (sym over);
    }
