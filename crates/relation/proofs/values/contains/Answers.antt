-- `contains` meets its contract.
use mathlib.Core.Path.{refl}
use Rattle.table.specs.Bits.{bit}
use Rattle.relation.specs.Inner.Members.{member}
use Rattle.relation.proofs.values.contains.Goals as goal

pub returns : goal.returns
unfolding member bit
returns c = refl
