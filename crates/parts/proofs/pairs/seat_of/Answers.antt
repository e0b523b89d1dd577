use mathlib.Core.Path.{refl}
use native.Mathlib.Omega.{arith}
use Rattle.table.specs.Inner.Pairs.{seat}
use Rattle.parts.proofs.pairs.seat_of.Goals as goal

pub returns : goal.returns
unfolding seat
returns c = (refl, omega arith)
