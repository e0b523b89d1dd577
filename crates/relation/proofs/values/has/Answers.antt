-- `has` meets its contract: a bit occurs unless the set masked by its column is 0.
use native.Mathlib.Omega.{arith}
use Rattle.relation.proofs.Members.{occurs_with}
use Rattle.relation.proofs.values.has.Goals as goal

pub returns : goal.returns
returns c = let a = c.args in rw (c.with_bit.ensures, occurs_with a.set a.j a.b (omega arith))
