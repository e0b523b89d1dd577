-- `with_bit` meets its contract.
use mathlib.Core.Path.{ap}
use lib.Bits.{bit_and}
use Rattle.relation.specs.Inner.Members.{with_bit}
use Rattle.relation.proofs.values.with_bit.Goals as goal

pub returns : goal.returns
unfolding with_bit
returns c = ap (bit_and c.args.set) c.column.ensures
