use native.Mathlib.Omega.{arith}
use Rattle.parts.specs.Inner.Cells.{byte_in}
use Rattle.parts.proofs.cells.first_of.Goals as goal

pub returns : goal.returns
unfolding byte_in
returns c = omega arith
