use native.Mathlib.Omega.{arith}
use Rattle.base.proofs.Tests.{told_yes, told_no}
use Rattle.parts.specs.Inner.Boards.{board_in, lent_inputs, lent_wide}
use Rattle.parts.proofs.Lending.{board_small}
use Rattle.visits.proofs.Clearing.{first_here, first_later, first_narrow, narrow_few, count_told, count_most}
use Rattle.visits.proofs.conflicts.first_conflict.Goals as goal

pub returns-in-Some : goal.returns-in-Some
returns-in-Some c =
    let a = c.args in
    first_here (lent_wide a.e.now) (lent_inputs a.e.now) a.low a.state.now c.in-Some.p c.in-Some.ensures.cleared c.in-Some.ensures.inside

pub overflow_cast-count : goal.overflow_cast-count
overflow_cast-count c = omega (arith, count_told c.args.e.now c.requires, count_most c.requires)

pub overflow_cast-e : goal.overflow_cast-e
overflow_cast-e c = omega (arith, board_small c.requires)

pub later_conflict-requires : goal.later_conflict-requires
later_conflict-requires c = omega (arith, count_told c.args.e.now c.requires, count_most c.requires)

pub returns-then-is_wide : goal.returns-then-is_wide
unfolding board_in
returns-then-is_wide c =
    let a = c.args in
    first_later (lent_wide a.e.now) (lent_inputs a.e.now) a.low a.state.now c.in_default.ensures.cleared
    (told_yes c.is_wide.ensures c.if-is_wide.true) (count_told a.e.now c.requires) c.later_conflict.ensures

pub returns : goal.returns
unfolding board_in
returns c =
    let a = c.args in
    first_narrow (lent_wide a.e.now) (lent_inputs a.e.now) a.low a.state.now c.in_default.ensures.cleared
    (narrow_few a.e.now c.requires (told_no c.is_wide.ensures c.if-is_wide.false)) (count_told a.e.now c.requires)
