use native.Mathlib.Omega.{arith}
use mathlib.Core.Path.{refl, ap₂, ◌∙◌}
use Rattle.tree.specs.declared.types.TreeUse.{TreeUse}
use Rattle.store.specs.declared.types.TreeName.TheVariants.{Starts, Time}
use Rattle.store.specs.Trees.{with_use}
use Rattle.store.specs.Writing.{started_head}
use Rattle.store.specs.Performing.{served}
use Rattle.store.proofs.TreeLaws.{same_lent}
use Rattle.updates.proofs.writing.start_pass.Goals as goal

pub overflow_cast-key : goal.overflow_cast-key
overflow_cast-key c = omega (arith, c.requires.key)

pub enter-starts_after-requires : goal.enter-starts_after-requires
enter-starts_after-requires c = rw c.one_pass-value.ensures c.requires.planned

pub overflow_cast-key-2 : goal.overflow_cast-key-2
overflow_cast-key-2 c = omega (arith, c.requires.key)

pub enter-time_after-requires : goal.enter-time_after-requires
enter-time_after-requires c = rw c.time_at_start-line.ensures c.requires.time_planned

pub started_head-requires : goal.started_head-requires
started_head-requires c =
    record {
      count_lt_open_limit = c.requires.place;
      started_lt_pass_limit = c.requires.number;
    }

pub returns-clause-replied : goal.returns-clause-replied
unfolding served
returns-clause-replied c = λ ends.
    let a = c.args in
    let entered = rw c.one_pass-value.ensures at c.enter-starts_after.ensures in
    let timed = rw c.time_at_start-line.ensures at c.enter-time_after.ensures in
    record {
      answer = refl;
      head =
          c.started_head.ensures
          ∙ ap₂ (λ (used used' : TreeUse). started_head (with_use (with_use a.head Starts used) Time used') a.tick a.key a.weight) entered.use_is timed.use_is;
      lent_is = same_lent entered.table_is entered.roots_are refl refl timed.table_is timed.roots_are;
    }
