use Prim.Native.Nat.{ℕ, ◌+◌}
use native.Mathlib.Omega.{arith}
use mathlib.Core.Path.{ap, ap₂, ◌∙◌}
use Rattle.page.specs.declared.fresh.Page.{Page}
use Rattle.page.specs.PageValue.{encode_page, two_row_root}
use Rattle.tree.specs.Tree.{put_page}
use Rattle.enter.proofs.EnterRootLaws.{in_table, low_level, not_rootless, level_is, can_enter_top, done_from_top, few_made, same_size, stays_way, copied_can, copied_way, halved_can, halved_room, halved_way}
use Rattle.enter.proofs.growing.enter.Goals as goal

pub invariant_of-find_top : goal.invariant_of-find_top
invariant_of-find_top c = record { page_words_in_bounds = in_table _ _ c.requires }

pub returns-in_default : goal.returns-in_default
returns-in_default c = not_rootless c.requires c.find_root-root.ensures c.in_default.ensures

pub enter_from-done-requires : goal.enter_from-done-requires
enter_from-done-requires c = can_enter_top c.requires c.find_root-root.ensures c.in-Ok.ensures

pub use_after-requires : goal.use_after-requires
use_after-requires c =
    let done = done_from_top c.requires c.find_root-root.ensures c.in-Ok.ensures c.enter_from-done.ensures in
    record {
      takes = c.requires.takes;
      roots_le_page_limit = omega (arith, c.requires.takes.used_few, c.requires.roots_few);
      made_le_most_made = few_made _ _ c.requires _ _ done;
    }

pub put_root-requires : goal.put_root-requires
put_root-requires c =
    let done = done_from_top c.requires c.find_root-root.ensures c.in-Ok.ensures c.enter_from-done.ensures in
    copied_can _ _ c.requires _ _ done c.in-Copied.child c.in-Copied.is

pub taken_page-number-requires : goal.taken_page-number-requires
taken_page-number-requires c =
    let done = done_from_top c.requires c.find_root-root.ensures c.in-Ok.ensures c.enter_from-done.ensures in
    record {
      takes = c.requires.takes;
      i_le_most_made = few_made _ _ c.requires _ _ done;
    }

pub overflow_add-top : goal.overflow_add-top
overflow_add-top c = omega (arith, level_is c.requires c.find_root-root.ensures c.in-Ok.ensures, low_level _ _ c.requires)

pub put_page-requires : goal.put_page-requires
put_page-requires c =
    let done = done_from_top c.requires c.find_root-root.ensures c.in-Ok.ensures c.enter_from-done.ensures in
    let same = same_size _ _ c.requires c.ranges.t.fits c.ranges.k.fits _ _ done in
    let room = halved_room _ _ c.requires _ _ done c.in-Halved.lower c.in-Halved.upper c.in-Halved.is in
    record {
      page_words_in_bounds = omega (arith, room, same, c.taken_page-number.ensures);
      count_le_row_limit = rw c.two_row_root.ensures (omega arith);
    }

pub overflow_add-done : goal.overflow_add-done
overflow_add-done c =
    let done = done_from_top c.requires c.find_root-root.ensures c.in-Ok.ensures c.enter_from-done.ensures in
    omega (arith, few_made _ _ c.requires _ _ done)

pub put_root-requires-in-Halved : goal.put_root-requires-in-Halved
put_root-requires-in-Halved c =
    let done = done_from_top c.requires c.find_root-root.ensures c.in-Ok.ensures c.enter_from-done.ensures in
    halved_can _ _ c.requires _ _ done c.in-Halved.lower c.in-Halved.upper c.in-Halved.is

pub returns-in-Stays : goal.returns-in-Stays
returns-in-Stays c =
    let done = done_from_top c.requires c.find_root-root.ensures c.in-Ok.ensures c.enter_from-done.ensures in
    stays_way _ _ c.requires _ _ done c.in-Stays.is _ c.use_after.ensures

pub returns-in-Copied : goal.returns-in-Copied
returns-in-Copied c =
    let done = done_from_top c.requires c.find_root-root.ensures c.in-Ok.ensures c.enter_from-done.ensures in
    copied_way _ _ c.requires _ _ done c.in-Copied.child c.in-Copied.is _ _ c.put_root.ensures

pub returns-in-Halved : goal.returns-in-Halved
returns-in-Halved c =
    let a = c.args in
    let done = done_from_top c.requires c.find_root-root.ensures c.in-Ok.ensures c.enter_from-done.ensures in
    let lower = c.in-Halved.lower in
    let upper = c.in-Halved.upper in
    let top = level_is c.requires c.find_root-root.ensures c.in-Ok.ensures in
    let new = c.two_row_root.ensures ∙ ap (λ (n : ℕ). two_row_root (n + 1) a.t lower.high lower.page upper.page) top in
    halved_way _ _ c.requires _ _ done lower upper c.in-Halved.is _ _ _
    (c.put_page.ensures ∙ ap₂ (λ (n : ℕ) (x : Page). put_page c.enter_from-done.new.table n (encode_page x)) c.taken_page-number.ensures new)
    (rw c.taken_page-number.ensures at c.put_root-in-Halved.ensures)
