-- `value_in` meets its contract: the four bits of the pattern are kept, then moved together.
use mathlib.Core.Path.{refl}
use Prim.Native.Nat.{◌^◌, ◌/◌}
use native.Mathlib.Omega.{arith}
use lib.Bits.{bit_and, and_le_r}
use Rattle.relation.proofs.Side.{lowest, value_taken}
use Rattle.relation.proofs.patterns.value_in.Goals as goal

pub overflow_add-pairs : goal.overflow_add-pairs
overflow_add-pairs c = omega (arith, and_le_r (c.args.side / 2 ^ c.args.p) lowest)

pub overflow_add-result : goal.overflow_add-result
overflow_add-result c = omega (arith, and_le_r (c.args.side / 2 ^ c.args.p) lowest)

pub returns : goal.returns
returns c =
    let y = bit_and (c.args.side / 2 ^ c.args.p) lowest in
    (value_taken c.args.side c.args.p y _ refl (omega arith), omega arith)
