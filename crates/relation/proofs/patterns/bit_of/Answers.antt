-- `bit_of` meets its contract.
use mathlib.Core.Path.{refl}
use native.Mathlib.Omega.{arith}
use Rattle.table.specs.Bits.{bit}
use Rattle.relation.proofs.patterns.bit_of.Goals as goal

pub returns : goal.returns
unfolding bit
returns c = (refl, omega arith)
