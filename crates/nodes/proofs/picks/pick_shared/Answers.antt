-- `pick_shared` meets its contract: an arm for each number of inputs.
use native.Mathlib.Omega.{arith}
use Rattle.table.proofs.Widths.{fit}
use Rattle.nodes.proofs.Narrow.{from_one, from_two, from_three}
use Rattle.nodes.proofs.picks.pick_shared.Goals as goal

pub overflow_mul-pair : goal.overflow_mul-pair
overflow_mul-pair c = let i = c in omega (arith, (from_one i.args.pair (omega arith) (fit _ c.in-1.is i.requires)).inside)

pub pick4-x-requires : goal.pick4-x-requires
pick4-x-requires c = let i = c in (i.requires.0, (from_one i.args.pair (omega arith) (fit _ c.in-1.is i.requires)).covered)

pub overflow_mul-pair-in-2 : goal.overflow_mul-pair-in-2
overflow_mul-pair-in-2 c = let i = c in omega (arith, (from_two i.args.pair (omega arith) (fit _ c.in-2.is i.requires)).inside)

pub pick4-x-requires-in-2 : goal.pick4-x-requires-in-2
pick4-x-requires-in-2 c = let i = c in (i.requires.0, (from_two i.args.pair (omega arith) (fit _ c.in-2.is i.requires)).covered)

pub overflow_mul-pair-in-3 : goal.overflow_mul-pair-in-3
overflow_mul-pair-in-3 c = let i = c in omega (arith, (from_three i.args.pair (omega arith) (fit _ c.in-3.is i.requires)).inside)

pub pick4-x-requires-in-3 : goal.pick4-x-requires-in-3
pick4-x-requires-in-3 c = let i = c in (i.requires.0, (from_three i.args.pair (omega arith) (fit _ c.in-3.is i.requires)).covered)

pub returns-in-1 : goal.returns-in-1
returns-in-1 c =
    let i = c in
    let e = c.in-1.is in
    rw e ((from_one i.args.pair (omega arith) (fit _ e i.requires)).ranks c.pick4-x.result c.pick4-x.ensures)

pub returns-in-2 : goal.returns-in-2
returns-in-2 c =
    let i = c in
    let e = c.in-2.is in
    rw e ((from_two i.args.pair (omega arith) (fit _ e i.requires)).ranks c.pick4-x-in-2.result c.pick4-x-in-2.ensures)

pub returns-in-3 : goal.returns-in-3
returns-in-3 c =
    let i = c in
    let e = c.in-3.is in
    rw e ((from_three i.args.pair (omega arith) (fit _ e i.requires)).ranks c.pick4-x-in-3.result c.pick4-x-in-3.ensures)
