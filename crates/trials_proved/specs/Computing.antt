-- One name for every shut definition that a trial runs through: a proof that says `unfolding computing` computes with all of them.
use Rattle.words.specs.Overwrite.{overwrite}
use Rattle.words.specs.Value.{plus, minus, line_at}
use Rattle.tree.specs.Row.{rows_from, encode_rows}
use Rattle.tree.specs.KeyOrder.{live_placed, insert_by, sort_by}
use Rattle.tree.specs.PageTest.{each_key_once}
use Rattle.tree.specs.TrueValue.{total_where, first}
use Rattle.tree.specs.Edit.{with_rows}
use Rattle.tree.specs.Fresh.{zeros, fresh_page}
use Rattle.tree.specs.Use.{in_use, taken_page, pages_after}
use Rattle.tree.specs.Tree.{root_for}
use Rattle.tree.specs.Lookup.{lookup_from, lookup}
use Rattle.tree.specs.RowSteps.{gain_rows, leaf_rows, relink_row}
use Rattle.tree.specs.Overflow.{finish_page}
use Rattle.tree.specs.Enter.{enter_from, enter_root}
use Rattle.tree.specs.Plan.{descent_sound, plan, enter}
use Rattle.store.specs.Head.{find_pass, passes_fit, numbers_rise, head_fits}
use Rattle.store.specs.Refusals.{first_met}
use Rattle.store.specs.Passes.{sum_where}
use Rattle.store.specs.Reading.{bat_time_total}
use Rattle.store.specs.Performing.{refusal, served, perform_all, store_after}
use Rattle.codec.specs.Bytes.{number_of, bytes_of}
use Rattle.command.specs.Stream.{run_for, program_lent, program_store, output}

unfoldable pub pages : Unit {0}
unfolding overwrite plus minus line_at rows_from encode_rows live_placed insert_by sort_by each_key_once total_where first with_rows zeros fresh_page
pages = tt

unfoldable pub trees : Unit {0}
unfolding pages in_use taken_page pages_after root_for lookup_from lookup gain_rows leaf_rows relink_row finish_page enter_from enter_root descent_sound plan enter
trees = tt

unfoldable pub refusals : Unit {0}
unfolding find_pass passes_fit numbers_rise head_fits first_met refusal
refusals = tt

unfoldable pub calls : Unit {0}
unfolding trees refusals sum_where bat_time_total served perform_all store_after
calls = tt

unfoldable pub computing : Unit {0}
unfolding calls number_of bytes_of run_for program_lent program_store output
computing = tt
