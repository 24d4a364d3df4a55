use native.Mathlib.Omega.{arith}
use mathlib.Core.Path.{refl, ap₂, ◌∙◌}
use Rattle.tree.specs.declared.types.TreeUse.{TreeUse}
use Rattle.store.specs.Head.{found_at}
use Rattle.store.specs.declared.types.TreeName.TheVariants.{Ends, Time}
use Rattle.store.specs.Trees.{with_use}
use Rattle.store.specs.Writing.{ended_head}
use Rattle.store.proofs.TreeLaws.{same_lent}
use Rattle.updates.proofs.writing.end_pass.Goals as goal

pub overflow_cast-pass : goal.overflow_cast-pass
overflow_cast-pass c = omega (arith, c.requires.key)

pub enter-ends_after-requires : goal.enter-ends_after-requires
enter-ends_after-requires c = rw c.one_pass-value.ensures c.requires.planned

pub overflow_cast-pass-2 : goal.overflow_cast-pass-2
overflow_cast-pass-2 c = omega (arith, c.requires.key)

pub enter-time_after-requires : goal.enter-time_after-requires
enter-time_after-requires c = rw c.time_at_end-line.ensures c.requires.time_planned

pub ended_head-requires : goal.ended_head-requires
ended_head-requires c =
    record {
      place_lt_count = c.requires.inside;
      count_le_open_limit = c.requires.count;
    }

pub returns-clause-replied : goal.returns-clause-replied
returns-clause-replied c = λ starts.
    let a = c.args in
    let entered = rw c.one_pass-value.ensures at c.enter-ends_after.ensures in
    let timed = rw c.time_at_end-line.ensures at c.enter-time_after.ensures in
    record {
      answer = refl;
      head =
          c.ended_head.ensures a.pass
          ∙ ap₂ (λ (used used' : TreeUse). ended_head (with_use (with_use a.head Ends used) Time used') a.tick (found_at a.place a.pass)) entered.use_is timed.use_is;
      lent_is = same_lent refl refl entered.table_is entered.roots_are timed.table_is timed.roots_are;
    }
