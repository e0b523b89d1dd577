-- `side_by_side` meets its contract: four sections, each in its place, fill the number.
use native.Mathlib.Omega.{arith}
use Rattle.relation.specs.Inner.Side.{side_by_side}
use Rattle.relation.proofs.patterns.side_by_side.Goals as goal

pub returns : goal.returns
unfolding side_by_side
returns c = omega arith
