-- `lost_in` meets its contract: what either answer tells stands in bits of its own.
use native.Mathlib.Omega.{arith}
use Rattle.lanes.specs.Inner.Lanes.{lanes_of}
use Rattle.table.specs.Bits.{sum}
use Rattle.parts.proofs.RowCuts.{lost_made}
use Rattle.parts.proofs.masks.lost_in.Goals as goal

pub overflow_mul-result : goal.overflow_mul-result
unfolding lanes_of sum
overflow_mul-result c =
    let r = lost_made c.args.set c.no_ones.ensures c.no_zeros.ensures in
    record { fits = omega (arith, r.1) }

pub overflow_add-result : goal.overflow_add-result
unfolding lanes_of sum
overflow_add-result c =
    let r = lost_made c.args.set c.no_ones.ensures c.no_zeros.ensures in
    record { fits = omega (arith, r.1) }

pub returns : goal.returns
returns c = lost_made c.args.set c.no_ones.ensures c.no_zeros.ensures
