-- `value_of` meets its contract: the four bits, each in its place.
use native.Mathlib.Omega.{arith}
use Rattle.table.specs.Bits.{of_bits, sum}
use Rattle.relation.specs.Source.{value}
use Rattle.relation.proofs.patterns.value_of.Goals as goal

pub returns : goal.returns
unfolding value of_bits sum
returns c = (omega (arith, c.bit_of.ensures, c.bit_of-2.ensures), omega arith)
