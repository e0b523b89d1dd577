-- `pick` meets its contract: an arm for each number of inputs.
use mathlib.Core.Path.{◌≡◌}
use native.Mathlib.Omega.{arith}
use Rattle.table.proofs.Widths.{fit, rank_at, one_place, one_input, two_place, two_inputs, three_inputs, four_inputs}
use Rattle.table.proofs.picks.pick.Goals as goal

pub overflow_mul-pair : goal.overflow_mul-pair
overflow_mul-pair c = let l = one_place c.args.pair (omega arith) (fit _ c.in-1.is c.requires) in omega arith

pub block-x-requires : goal.block-x-requires
block-x-requires c = let i = c in (i.requires.0, one_place i.args.pair (omega arith) (fit _ c.in-1.is i.requires))

pub block-x-requires-in-2 : goal.block-x-requires-in-2
block-x-requires-in-2 c = let i = c in (i.requires.0, two_place i.args.pair (omega arith) (fit _ c.in-2.is i.requires))

pub returns-in-1 : goal.returns-in-1
returns-in-1 c = rank_at _ c.in-1.is c.requires (one_input _ _ (omega arith) c.block-x.ensures.0)

pub returns-in-2 : goal.returns-in-2
returns-in-2 c = rank_at _ c.in-2.is c.requires (two_inputs _ _ (omega arith) c.block-x-in-2.ensures.0)

pub returns-in-3 : goal.returns-in-3
returns-in-3 c = rank_at _ c.in-3.is c.requires (three_inputs _ _ (omega arith) c.pick3-x.ensures.0)

pub returns-in_default : goal.returns-in_default
returns-in_default c = let four : c.args.n ≡ 4 = omega arith in rank_at _ four c.requires (four_inputs _ _ c.pick4.ensures.0)
